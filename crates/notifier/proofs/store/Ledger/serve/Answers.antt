use Rattle.std.proofs.Common.{ap, sym, ◌∙◌}
use Rattle.notifier.specs.Ledger.{book_of}
use Rattle.notifier.specs.Verdicts.{verdict_of}
use Rattle.notifier.proofs.Verdicts.{bears}
use Rattle.notifier.proofs.store.Ledger.serve.Goals as goal

pub bear-requires-clause-fits : goal.bear-requires-clause-fits
bear-requires-clause-fits g c κs within =
    (bears c.new-incoming.result.place.now.limits (book_of g.P.Package.seen c.args.self.now) c.new-incoming.result.request.now c.in-Born.kind (sym c.verdict.ensures ∙ ap verdict_of c.in-Born.is)).fits

pub bear-requires-clause-kind : goal.bear-requires-clause-kind
bear-requires-clause-kind g c κs within =
    (bears c.new-incoming.result.place.now.limits (book_of g.P.Package.seen c.args.self.now) c.new-incoming.result.request.now c.in-Born.kind (sym c.verdict.ensures ∙ ap verdict_of c.in-Born.is)).is

pub bear-requires-clause-room : goal.bear-requires-clause-room
bear-requires-clause-room g c κs within =
    (bears c.new-incoming.result.place.now.limits (book_of g.P.Package.seen c.args.self.now) c.new-incoming.result.request.now c.in-Born.kind (sym c.verdict.ensures ∙ ap verdict_of c.in-Born.is)).room
