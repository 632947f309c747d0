use Rattle.std.proofs.Common.{◌≡◌, ◌∙◌, ◌++◌, rules, ap, sym}
use Rattle.std.specs.Prelude.{max}
use Rattle.resumption.specs.Told.{mails}
use Rattle.resumption.proofs.Renewing.{found, mails_more, events_more, most_mails_more}
use Rattle.resumption.proofs.changed.told_of_all.Goals as goal

pub loop-worker-preserved : goal.loop-worker-preserved
loop-worker-preserved c =
    let at = c.loop-worker in
    let kept = c.args.keeper.now.workers in
    let told = c.in_ok-told.told in
    let has = found kept at.worker told c.in_ok-told.ensures.told in
    let more_events : c.max-events.result ≡ max told.events at.events = search rules in
    let more_mails : c.max-mails.result ≡ max told.mails at.mails = search rules in
    record {
      changes = c.in_ok-add_mails.ensures ∙ ap (λ l. l ++ mails told.mail) at.invariant.changes ∙ sym (mails_more kept at.worker told has);
      events = more_events ∙ ap (max told.events) at.invariant.events ∙ sym (events_more kept at.worker told has);
      mails = more_mails ∙ ap (max told.mails) at.invariant.mails ∙ sym (most_mails_more kept at.worker told has);
    }
