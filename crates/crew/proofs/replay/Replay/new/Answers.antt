use Rattle.std.proofs.Common.{◌≡◌, List, [], Option, sym, subst, rules}
use Rattle.notifier.specs.Standing.{Standing}
use Rattle.notifier_model.specs.declared.event.Event.{Event}
use Rattle.notifier.specs.Held.{seen_by}
use Rattle.crew.specs.Recorded.{IsRun}
use Rattle.crew.proofs.Grown.{begun_run}
use Rattle.crew.proofs.replay.Replay.new.Goals as goal

pub invariant_of-result : goal.invariant_of-result
invariant_of-result g c e =
    let none : c.new.result.items ≡ [] = search rules in
    let P : Option Standing × List Event → Type 0 = λ y. IsRun y.0 y.1 (seen_by g.P.Package.seen c.args.desk) in
    subst P (λ j. (seen_by g.P.Package.seen (sym c.of-start.ensures j), sym none j)) (begun_run (seen_by g.P.Package.seen c.args.desk))
