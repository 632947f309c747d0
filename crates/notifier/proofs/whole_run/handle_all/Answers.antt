use Rattle.std.proofs.Common.{◌≡◌, ◌+◌, ◌∷◌, ◌++◌, [], ap, sym, ◌∙◌, take, map, Some}
use Rattle.std.proofs.lemmas.List.{take_more, take_all, map-append}
use Rattle.notifier_model.specs.Book.{Book, step}
use Rattle.notifier_model.specs.Out.{out_of}
use Rattle.notifier_model.specs.Run.{run_from, made_from}
use Rattle.notifier_model.proofs.Runs.{run_from-push, made_from-push}
use Rattle.notifier.proofs.whole_run.handle_all.Goals as goal

pub loop-event-init : goal.loop-event-init
unfolding run_from made_from
loop-event-init g c = λ s e. record { book = e; outs = c.new-outs.ensures.items }

pub loop-event-preserved : goal.loop-event-preserved
loop-event-preserved g c = λ s e.
    let at = c.loop-event in
    let before = at.invariant s e in
    let events = c.args.events.now in
    let past = take at.event-index events in
    let item = c.event-item.result in
    let more : take (at.event-index + 1) events ≡ past ++ item ∷ [] =
    take_more events at.event-index item c.loop-event-test.true ∙ ap (λ x. past ++ x ∷ []) (sym c.event-item.is) in
    let done = c.in-Ok.ensures.ok _ before.book in
    record {
      book = done.book_is
          ∙ ap (λ (b : Book). Some (record { place = s.place; book = b })) (sym (run_from-push s.place s.book past item) ∙ sym (ap (λ es. run_from s.place s.book es) more));
      outs = c.in_ok-append.ensures.items
          ∙ ap (λ os. os ++ c.in-Ok.told.items) before.outs
          ∙ ap (λ os. map out_of (made_from s.place s.book past) ++ os) done.outs_are
          ∙ sym (map-append out_of (made_from s.place s.book past) (step s.place (run_from s.place s.book past) item).outs)
          ∙ ap (λ sent. map out_of sent) (sym (made_from-push s.place s.book past item) ∙ sym (ap (λ es. made_from s.place s.book es) more));
    }

pub returns-clause-stands : goal.returns-clause-stands
returns-clause-stands g c = λ s e.
    (c.loop-event.invariant s e).book
    ∙ ap (λ es. Some (record { place = s.place; book = run_from s.place s.book es })) (take_all c.loop-event.event-index c.args.events.now c.loop-event-test.false)

pub returns-clause-outs : goal.returns-clause-outs
returns-clause-outs g c = λ s e. (c.loop-event.invariant s e).outs ∙ ap (λ es. map out_of (made_from s.place s.book es)) (take_all c.loop-event.event-index c.args.events.now c.loop-event-test.false)
