use Rattle.std.proofs.Common.{[]}
use Rattle.std.proofs.lemmas.List.Elements.{All-weaker}
use Rattle.notifier.specs.Sound.{IsLive, AreInOrder}
use Rattle.notifier.specs.Stored.{rows_of}
use Rattle.notifier_model.specs.Book.{telling, ticked}
use Rattle.notifier.specs.Ledger.{book_of}
use Rattle.notifier.proofs.Soundness.{sound_ticked}
use Rattle.notifier.proofs.store.Ledger.tick.Goals as goal

pub all_rows-requires-clause-live : goal.all_rows-requires-clause-live
all_rows-requires-clause-live g c = λ κs lives.
    All-weaker (IsLive c.args.self.now.clock) (λ row. AreInOrder row.unanswered) (λ row live. live.timely.in_order) (rows_of c.args.self.now.rows) c.requires.sound.rows_live

pub returns-clause-step : goal.returns-clause-step
unfolding ticked
returns-clause-step g c = c.in_ok-all_rows.ensures.step [] c.new-outs.ensures.items

pub returns-clause-sound : goal.returns-clause-sound
returns-clause-sound g c =
    sound_ticked c.args.place.now c.args.self.now c.all_rows.new.self (telling c.args.place.now (record (book_of g.P.Package.seen c.args.self.now) { clock = c.args.clock }))
    c.requires.on c.requires.fits c.requires.sound c.in_ok-all_rows.ensures.rows c.in_ok-all_rows.ensures.indexed c.in_ok-all_rows.ensures.same
