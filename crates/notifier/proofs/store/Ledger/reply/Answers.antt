use Rattle.std.proofs.Common.{[]}
use Rattle.notifier_model.specs.Rows.{answered}
use Rattle.notifier_model.specs.Book.{replied}
use Rattle.notifier.proofs.Lives.{answered_lives}
use Rattle.notifier.proofs.Owned.{answered_keeps}
use Rattle.notifier.proofs.Soundness.{sound_told}
use Rattle.notifier.proofs.store.Ledger.reply.Goals as goal

pub returns-clause-step : goal.returns-clause-step
unfolding replied
returns-clause-step g c = c.in_ok-all_rows.ensures.step [] c.new-outs.ensures.items

pub returns-clause-sound : goal.returns-clause-sound
returns-clause-sound g c =
    sound_told c.args.place.now c.args.self.now c.all_rows.new.self (answered c.args.response.now)
    (answered_lives c.args.self.now.clock c.args.response.now) (answered_keeps c.args.response.now) c.requires c.in_ok-all_rows.ensures.rows c.in_ok-all_rows.ensures.indexed c.in_ok-all_rows.ensures.same
