use Rattle.std.proofs.Common.{List, sym, subst}
use Rattle.notifier.specs.Held.{seen_by}
use Rattle.crew.specs.Recorded.{IsRun}
use Rattle.crew.proofs.Grown.{grown}
use Rattle.notifier_model.specs.declared.event.Event.{Event}
use Rattle.crew.proofs.replay.Replay.handle.Goals as goal

pub invariant_of-self : goal.invariant_of-self
invariant_of-self g c e =
    let P : List Event → Type 0 = λ l. IsRun (seen_by g.P.Package.seen c.self.inside.start.value) l (seen_by g.P.Package.seen c.handle_listed.new.desk) in
    subst P (sym c.in-Ok.ensures.added)
    (grown (seen_by g.P.Package.seen c.self.inside.start.value) (seen_by g.P.Package.seen c.self.inside.desk) (seen_by g.P.Package.seen c.handle_listed.new.desk) c.self.inside.events.items c.args.event c.in-Ok.outs.items (c.self.invariant c.if-self.false) c.in-Ok.ensures.alive c.in-Ok.ensures.ok)
