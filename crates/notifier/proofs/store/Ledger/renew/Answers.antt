use Rattle.std.proofs.Common.{refl}
use Rattle.notifier.specs.Ledger.{book_of}
use Rattle.notifier_model.specs.Rows.{only, renewed}
use Rattle.notifier_model.specs.Book.{telling, served, accepted, keeping}
use Rattle.notifier.proofs.Covers.{everywhere}
use Rattle.notifier.proofs.Lives.{renewed_lives}
use Rattle.notifier.proofs.Owned.{renewed_keeps}
use Rattle.notifier.proofs.Soundness.{sound_told}
use Rattle.notifier.proofs.Steps.{from_book}
use Rattle.notifier.proofs.store.Ledger.renew.Goals as goal

pub all_rows-requires-clause-live : goal.all_rows-requires-clause-live
all_rows-requires-clause-live g c = λ κs lives. everywhere refl _

pub returns-clause-step : goal.returns-clause-step
unfolding served accepted keeping
returns-clause-step g c =
    let first = c.in_ok-outs.ensures in
    from_book (λ b. only c.args.serial (renewed (telling c.args.pending.incoming.now.place.now b) c.args.pending.incoming.now.source c.args.pending.incoming.now.request.now)) _ (book_of g.P.Package.seen c.answer_renewal.new.self) _
    (book_of g.P.Package.seen c.all_rows.new.self) c.all_rows.new.outs.items first.book (c.in_ok-all_rows.ensures.step _ first.outs)

pub returns-clause-sound : goal.returns-clause-sound
returns-clause-sound g c =
    let t = telling c.args.pending.incoming.now.place.now (book_of g.P.Package.seen c.answer_renewal.new.self) in
    sound_told c.args.pending.incoming.now.place.now c.answer_renewal.new.self c.all_rows.new.self
    (only c.args.serial (renewed t c.args.pending.incoming.now.source c.args.pending.incoming.now.request.now))
    (λ row h. renewed_lives t c.args.serial c.args.pending.incoming.now.source c.args.pending.incoming.now.request.now row c.in_ok-outs.ensures.limits h)
    (renewed_keeps t c.args.serial c.args.pending.incoming.now.source c.args.pending.incoming.now.request.now)
    c.in_ok-outs.ensures.sound c.in_ok-all_rows.ensures.rows c.in_ok-all_rows.ensures.indexed c.in_ok-all_rows.ensures.same
