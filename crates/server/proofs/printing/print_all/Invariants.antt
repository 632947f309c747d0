use Rattle.std.proofs.Common.{◌≡◌, ◌++◌, take}
use Rattle.std.specs.List.{flat_map}
use Rattle.server.specs.Page.{out_text}
use Rattle.server.proofs.printing.print_all.Given as goal

abbrev pub invariant-loop-out : goal.invariant-loop-out
invariant-loop-out l = l.page ≡ l.initial.page ++ flat_map out_text (take l.out-index l.outs)
