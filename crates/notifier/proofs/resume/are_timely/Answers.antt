use Rattle.notifier.proofs.Resumed.{not_in_order, not_made}
use Rattle.notifier.proofs.resume.are_timely.Goals as goal
use Rattle.notifier.proofs.resume.are_timely.Goals.{then-notify-latest-via-then-notify-latest, then-notify-latest-via-else-notify-latest+then-clock-notify}

pub returns-then-notify-latest : goal.returns-then-notify-latest
returns-then-notify-latest c =
    let so_far = c.loop-notify.invariant in
    let within = c.loop-notify-test.true in
    elim c.then-notify-latest.branch [
      | then-notify-latest-via-then-notify-latest w ↦
          (λ t. absurd (cc), λ timely. absurd (not_in_order c.args.clock c.args.notifys.now c.loop-notify.notify-index c.loop-notify.latest so_far (record { number = 0; moment = 0 }) within w.if-notify-latest.true timely))
      | then-notify-latest-via-else-notify-latest+then-clock-notify w ↦
          (λ t. absurd (cc), λ timely. absurd (not_made c.args.clock c.args.notifys.now c.loop-notify.notify-index c.loop-notify.latest so_far (record { number = 0; moment = 0 }) within w.if-clock-notify.true timely))
    ]
