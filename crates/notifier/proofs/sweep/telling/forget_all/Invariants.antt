use Rattle.std.proofs.Common.{◌≡◌, map}
use Rattle.notifier_model.specs.Rows.{forgetting}
use Rattle.notifier.proofs.sweep.telling.forget_all.Given as goal

abbrev pub invariant-loop-tag : goal.invariant-loop-tag
invariant-loop-tag g l = map g.P.Package.seen l.boxes.items ≡ forgetting l.yielded (map g.P.Package.seen l.initial.boxes.items)
