use Rattle.std.proofs.Common.{[]}
use Rattle.notifier_model.specs.Rows.{stops}
use Rattle.notifier_model.specs.Book.{telling, shut}
use Rattle.notifier.specs.Ledger.{book_of}
use Rattle.notifier.proofs.Lives.{stops_lives}
use Rattle.notifier.proofs.Owned.{stops_keeps}
use Rattle.notifier.proofs.Soundness.{sound_told}
use Rattle.notifier.proofs.store.Ledger.shut.Goals as goal

pub returns-clause-step : goal.returns-clause-step
unfolding shut
returns-clause-step g c = c.in_ok-all_rows.ensures.step [] c.new-outs.ensures.items

pub returns-clause-sound : goal.returns-clause-sound
returns-clause-sound g c =
    let t = telling c.args.place.now (book_of g.P.Package.seen c.args.self.now) in
    sound_told c.args.place.now c.args.self.now c.all_rows.new.self (stops t)
    (stops_lives t) (stops_keeps t)
    c.requires c.in_ok-all_rows.ensures.rows c.in_ok-all_rows.ensures.indexed c.in_ok-all_rows.ensures.same
