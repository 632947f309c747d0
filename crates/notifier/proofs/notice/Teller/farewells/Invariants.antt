use Rattle.std.proofs.Common.{◌≡◌, map}
use Rattle.std.specs.List.{flat_map}
use Rattle.notifier_model.specs.Out.{out_of}
use Rattle.notifier_model.specs.Rows.{ends}
use Rattle.notifier.specs.Tellers.{telling}
use Rattle.notifier.proofs.notice.Teller.farewells.Given as goal

abbrev pub invariant-loop-row : goal.invariant-loop-row
invariant-loop-row g l = l.outs.items ≡ map out_of (flat_map (λ row. (ends (telling g.P.Package.seen l.self) l.reason row).notifies) l.yielded)
