use Rattle.std.proofs.Common.{◌≡◌, ◌++◌, take}
use Rattle.std.specs.List.{flat_map}
use Rattle.server.specs.Working.{printed}
use Rattle.server.proofs.printing.print_works.Given as goal

abbrev pub invariant-loop-work : goal.invariant-loop-work
invariant-loop-work l = l.page ≡ l.initial.page ++ flat_map printed (take l.work-index l.works)
