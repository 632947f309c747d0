use Rattle.std.proofs.Common.{◌∙◌, ◌++◌, sym, ap, subst, map}
use Rattle.notifier.specs.Among.{among, RiseFrom}
use Rattle.notifier.specs.Tellers.{rule_by}
use Rattle.notifier_model.specs.Out.{out_of}
use Rattle.notifier.specs.Stored.{rows_of}
use Rattle.notifier.proofs.Amid.{left-covered, said-covered, gone-covered}
use Rattle.notifier.proofs.Passes.{left, said, gone}
use Rattle.notifier.proofs.Turning.{on_ok, if_ok, rows_rise}
use Rattle.notifier.proofs.notice.Teller.tell_rows.Goals as goal

pub tell_each-requires-clause-rise : goal.tell_each-requires-clause-rise
tell_each-requires-clause-rise g c = λ κs lives. subst (RiseFrom 0) (sym c.as_slice.ensures) c.in_ok-serials.ensures.rise

pub returns-clause-rows : goal.returns-clause-rows
returns-clause-rows g c =
    let boxes = map g.P.Package.seen c.args.self.now.boxes.now.items in
    let rule = rule_by g.P.Package.seen c.args.self.now c.args.cause.now in
    let rows = rows_of c.args.rows.now in
    let cover = c.in_ok-serials.ensures.covers boxes c.requires.own in
    on_ok c.tell_each.result c.tell_each.ensures.rows (λ e.
    e ∙ ap (λ s. left (among s rule) rows) c.as_slice.ensures
    ∙ left-covered rule c.in_ok-serials.serials.items 0 rows (rows_rise c.args.rows.now c.requires.indexed) cover)

pub returns-clause-gone : goal.returns-clause-gone
returns-clause-gone g c =
    let boxes = map g.P.Package.seen c.args.self.now.boxes.now.items in
    let rule = rule_by g.P.Package.seen c.args.self.now c.args.cause.now in
    let rows = rows_of c.args.rows.now in
    let cover = c.in_ok-serials.ensures.covers boxes c.requires.own in
    if_ok c.tell_each.result c.tell_each.ensures.gone (λ tags e.
    e ∙ ap (λ s. gone (among s rule) rows) c.as_slice.ensures
    ∙ gone-covered rule c.in_ok-serials.serials.items 0 rows (rows_rise c.args.rows.now c.requires.indexed) cover)

pub returns-clause-outs : goal.returns-clause-outs
returns-clause-outs g c =
    let boxes = map g.P.Package.seen c.args.self.now.boxes.now.items in
    let rule = rule_by g.P.Package.seen c.args.self.now c.args.cause.now in
    let rows = rows_of c.args.rows.now in
    let cover = c.in_ok-serials.ensures.covers boxes c.requires.own in
    on_ok c.tell_each.result c.tell_each.ensures.outs (λ e.
    e ∙ ap (λ sends. c.args.outs.now.items ++ map out_of sends)
    (ap (λ s. said (among s rule) rows) c.as_slice.ensures
    ∙ said-covered rule c.in_ok-serials.serials.items 0 rows (rows_rise c.args.rows.now c.requires.indexed) cover))
