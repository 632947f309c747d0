use Rattle.std.proofs.Common.{◌≡◌, ◌∙◌, ℕ, List, sym, ap, map, All, subst}
use Rattle.notifier_model.specs.declared.event.Out.{Out}
use Rattle.notifier_model.specs.declared.row.Row.{Row}
use Rattle.notifier_model.specs.Out.{out_of}
use Rattle.notifier_model.specs.Rows.{Turned, only}
use Rattle.notifier.specs.Among.{said_at, gone_with}
use Rattle.notifier.specs.Causes.{CanTell}
use Rattle.notifier.specs.Tellers.{telling, rule_by}
use Rattle.notifier.specs.declared.store.rows.Rows.{Rows}
use Rattle.notifier.specs.Stored.{rows_of, row_at, IsIndexed}
use Rattle.notifier.proofs.Amid.{said-one, gone-one}
use Rattle.notifier.proofs.Each.{none_left, none_said, none_gone, more_left, more_said, more_gone}
use Rattle.notifier.proofs.Keeping.{cause_serials, tellable_left}
use Rattle.notifier.proofs.Passes.{said, gone, turned_list}
use Rattle.notifier.proofs.Turning.{rows_rise, with_serial-rows, some_at}
use Rattle.notifier.proofs.notice.Teller.tell_each.Goals as goal

-- what one row is told, as all rows are told where the others stay
out_one : (serial : ℕ) (rule : Row → Turned) (old : Rows) (outs : List Out) → IsIndexed old → outs ≡ map out_of (said_at rule (row_at old serial)) → outs ≡ map out_of (said (only serial rule) (rows_of old))
out_one serial rule old outs h e =
    e ∙ ap (map out_of) (sym (said-one serial rule 0 (rows_of old) (rows_rise old h) ∙ ap (said_at rule) (with_serial-rows old serial h)))

gone_one : (serial : ℕ) (rule : Row → Turned) (old : Rows) (tags : List (List ℕ)) → IsIndexed old → tags ≡ gone_with rule (row_at old serial) → tags ≡ gone (only serial rule) (rows_of old)
gone_one serial rule old tags h e =
    e ∙ sym (gone-one serial rule 0 (rows_of old) (rows_rise old h) ∙ ap (gone_with rule) (with_serial-rows old serial h))

pub turn-requires-clause-live : goal.turn-requires-clause-live
turn-requires-clause-live g c = λ κs lives. some_at (CanTell c.args.self.now.place.now c.args.self.now.clock c.args.cause.now) _ _ c.loop-serial.invariant.indexed c.loop-serial.invariant.live

pub loop-serial-init : goal.loop-serial-init
loop-serial-init g c =
    let rule = rule_by g.P.Package.seen c.args.self.now c.args.cause.now in
    let rows = rows_of c.args.rows.now in
    record {
      indexed = c.requires.indexed;
      live = c.requires.live;
      rows = sym (none_left rule rows);
      gone = c.new-tags.ensures.items ∙ none_gone rule rows;
      outs = none_said rule c.args.outs.now.items rows;
    }

pub loop-serial-preserved : goal.loop-serial-preserved
loop-serial-preserved g c =
    let rule = rule_by g.P.Package.seen c.args.self.now c.args.cause.now in
    let keeps = cause_serials (telling g.P.Package.seen c.args.self.now) c.args.cause.now in
    let rows = rows_of c.args.rows.now in
    let rises = rows_rise c.args.rows.now c.requires.indexed in
    let i = c.loop-serial.serial-index in
    let inside = c.loop-serial-test.true in
    let so_far = c.loop-serial.invariant in
    let told = c.in_ok-word.ensures in
    let rows_told = turned_list _ rule keeps _ _ so_far.indexed told.indexed told.turns in
    record {
      indexed = told.indexed;
      live = subst (All (CanTell c.args.self.now.place.now c.args.self.now.clock c.args.cause.now)) (sym rows_told) (tellable_left (telling g.P.Package.seen c.args.self.now) c.args.cause.now _ _ so_far.live);
      rows = more_left rule keeps c.args.serials.now i c.requires.rise inside rows _ _ so_far.rows rows_told;
      gone = more_gone rule keeps c.args.serials.now i c.requires.rise inside rows _ rises so_far.rows _ _ _ so_far.gone (gone_one _ rule _ _ so_far.indexed told.gone) c.in_ok-push_some-2.ensures;
      outs = more_said rule keeps c.args.serials.now i c.requires.rise inside rows _ rises so_far.rows _ _ _ _ so_far.outs (out_one _ rule _ _ so_far.indexed told.out) c.in_ok-push_some.ensures;
    }
