use Rattle.plans.proofs.Urgent.{too_urgent, more_urgent, not_counted, not_calm}
use Rattle.plans.proofs.urgency.is_too_urgent.Goals as goal

pub returns-in_default : goal.returns-in_default
returns-in_default c = ((λ is. absurd cc), λ is. absurd (not_counted c.args.line.now (rw c.as_bytes.ensures.value at c.in_default.ensures) is))

pub returns-in_default-2 : goal.returns-in_default-2
returns-in_default-2 c =
    let last = c.in-Some.last in
    let ends = rw c.as_bytes.ensures.value at c.in-Some.ensures in
    let only = rw c.in_default-2.is at c.in_ok-mail.ensures.only in
    ((λ is. absurd cc), λ is. absurd (not_calm c.args.line.now last.front.now last.urgent_new last.urgent_old ends only is))

pub returns : goal.returns
returns c =
    let last = c.in-Some.last in
    let ends = rw c.as_bytes.ensures.value at c.in-Some.ensures in
    let found = c.in-Some-2.is in
    let calm = rw found at c.in_ok-mail.ensures.found in
    let only = rw found at c.in_ok-mail.ensures.only in
    let more = rw c.counts.ensures at c.exceeds.ensures in (
      (λ is. too_urgent c.args.line.now last.front.now last.urgent_new last.urgent_old c.in-Some-2.mail ends calm (more.0 is)),
      (λ is. more.1 (more_urgent c.args.line.now last.front.now last.urgent_new last.urgent_old c.in-Some-2.mail ends only is)),
    )
