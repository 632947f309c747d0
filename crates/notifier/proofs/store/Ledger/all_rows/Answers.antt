use Rattle.std.proofs.Common.{◌^◌, ◌∙◌, ap, map}
use Rattle.notifier.specs.Causes.{rule_of}
use Rattle.notifier.specs.Ledger.{book_of}
use Rattle.notifier_model.specs.Book.{telling}
use Rattle.notifier_model.specs.Rows.{forgetting}
use Rattle.notifier.specs.Stored.{rows_of}
use Rattle.notifier.proofs.Dialogs.{own_upto}
use Rattle.notifier.proofs.Turning.{on_ok, on_ok_all}
use Rattle.notifier.proofs.Steps.{all_rows_step}
use Rattle.notifier.proofs.store.Ledger.all_rows.Goals as goal

pub tell_rows-requires-clause-own : goal.tell_rows-requires-clause-own
tell_rows-requires-clause-own g c = λ κs lives. own_upto c.args.place.now c.args.self.now.next (2 ^ 32) (rows_of c.args.self.now.rows) c.requires.next c.requires.own

pub returns-clause-step : goal.returns-clause-step
returns-clause-step g c =
    let boxes = map g.P.Package.seen c.args.self.now.boxes.items in
    on_ok c.forget_all.result c.forget_all.ensures (λ e sends same.
    all_rows_step (book_of g.P.Package.seen c.args.self.now) (rule_of (telling c.args.place.now (book_of g.P.Package.seen c.args.self.now)) c.args.cause.now) sends _ _ _ _
    c.in_ok-tags.ensures.rows (e ∙ ap (λ tags. forgetting tags boxes) c.in_ok-tags.ensures.gone) same c.in_ok-tags.ensures.outs)

pub returns-clause-rows : goal.returns-clause-rows
returns-clause-rows g c = on_ok_all c.forget_all.result c.in_ok-tags.ensures.rows
