use Rattle.std.proofs.Common.{◌≡◌, ◌∙◌, List, Option, Some, map, filter, ap}
use Rattle.notifier_model.specs.declared.event.Event.{Event}
use Rattle.notifier_model.specs.declared.event.Out.{Out}
use Rattle.notifier_model.specs.Out.{out_of}
use Rattle.notifier_model.specs.Run.{made_from, run_from}
use Rattle.notifier_model.specs.Saved.{book_with}
use Rattle.notifier_model.specs.Start.{place_of}
use Rattle.notifier.specs.Standing.{Standing}
use Rattle.restarts.specs.Restarts.{is_open, is_open_at}
use Rattle.restarts.proofs.replay.restart.Goals as goal

pub returns-clause-stands : goal.returns-clause-stands
returns-clause-stands g c =
    let place = place_of c.args.setup.now c.args.worker in
    let book = book_with c.args.left.book (map g.P.Package.seen c.args.boxes.items) in
    let standing = λ (es : List Event). let s : Standing = record { place = place; book = run_from place book es } in s in
    c.in-Ok-handle_all.ensures.stands _ c.in-Ok.ensures.stands ∙ ap (λ (es : List Event). Some (standing es)) c.as_slice.ensures.value

pub returns-clause-unanswered : goal.returns-clause-unanswered
returns-clause-unanswered g c =
    let place = place_of c.args.setup.now c.args.worker in
    let book = book_with c.args.left.book (map g.P.Package.seen c.args.boxes.items) in
    let rows = (run_from place book c.args.left.events.items).rows in
    c.keep_unanswered.ensures
    ∙ ap (λ (o : Option Standing). filter (is_open_at o) c.in-Ok-handle_all.outs.items) (returns-clause-stands g c)
    ∙ ap (λ (outs : List Out). filter (is_open rows) outs)
    (c.in-Ok-handle_all.ensures.outs _ c.in-Ok.ensures.stands ∙ ap (λ (es : List Event). map out_of (made_from place book es)) c.as_slice.ensures.value)
