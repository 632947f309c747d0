use Rattle.std.proofs.Common.{◌≡◌, ◌∙◌, ◌+◌, ap, sym, arith, take, get_or, [], ◌∷◌}
use Rattle.std.specs.Prelude.{count_by}
use Rattle.notifier_model.specs.declared.event.Event.{Event}
use Rattle.journal.specs.Generations.{is_mail}
use Rattle.journal.proofs.Gathering.{count_more}
use Rattle.journal.proofs.known.mails.Goals as goal

pub loop-event-preserved : goal.loop-event-preserved
loop-event-preserved c =
    let at = c.loop-event in
    let few = c.mail_count-count.ensures.few in
    let was = at.invariant.few in
    record {
      so_far =
          ap (λ n. n + c.mail_count-count.result) at.invariant.so_far
          ∙ ap (λ n. count_by is_mail (take at.event-index c.args.events.now) + n) (c.mail_count-count.ensures.value ∙ ap (λ (e : Event). count_by is_mail (e ∷ [])) c.event-item.is)
          ∙ sym (count_more is_mail c.args.events.now at.event-index c.event-item.result c.loop-event-test.true);
      few = omega arith;
    }
