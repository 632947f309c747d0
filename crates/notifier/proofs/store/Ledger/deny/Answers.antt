use Rattle.notifier.specs.Ledger.{book_of}
use Rattle.notifier_model.specs.Rows.{only, counted}
use Rattle.notifier_model.specs.Book.{served, denied, refused}
use Rattle.notifier.proofs.Lives.{counted_lives}
use Rattle.notifier.proofs.Owned.{counted_keeps}
use Rattle.notifier.proofs.Soundness.{sound_told}
use Rattle.notifier.proofs.Steps.{from_book}
use Rattle.notifier.proofs.store.Ledger.deny.Goals as goal

pub returns-clause-step : goal.returns-clause-step
unfolding served denied
returns-clause-step g c =
    let first = c.in_ok-outs.ensures.step in
    let stepped = refused c.args.pending.incoming.now.place.now (book_of g.P.Package.seen c.args.self.now) c.args.pending.incoming.now.source c.args.pending.incoming.now.request.now c.args.cause in
    from_book (λ b. only c.args.serial (counted c.args.pending.incoming.now.request.now)) stepped.outs (book_of g.P.Package.seen c.refuse.new.self) stepped.book
    (book_of g.P.Package.seen c.all_rows.new.self) c.all_rows.new.outs.items first.book_is (c.in_ok-all_rows.ensures.step stepped.outs first.outs_are)

pub returns-clause-sound : goal.returns-clause-sound
returns-clause-sound g c =
    sound_told c.args.pending.incoming.now.place.now c.refuse.new.self c.all_rows.new.self (only c.args.serial (counted c.args.pending.incoming.now.request.now))
    (counted_lives c.refuse.new.self.clock c.args.serial c.args.pending.incoming.now.request.now) (counted_keeps c.args.serial c.args.pending.incoming.now.request.now) c.in_ok-outs.ensures.sound c.in_ok-all_rows.ensures.rows c.in_ok-all_rows.ensures.indexed c.in_ok-all_rows.ensures.same
