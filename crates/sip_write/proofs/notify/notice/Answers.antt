use Rattle.std.proofs.Common.{ℕ, Option, option_map, codes, decimal, ap}
use Rattle.event_headers.specs.Written.{parameter_text}
use Rattle.sip_write.specs.Notify.{notify_text, notify_lines}
use Rattle.sip_write.proofs.Pages.{and_then, same, as_line, as_header, more_lines, all_put}
use Rattle.sip_write.proofs.notify.notice.Goals as goal

pub returns : goal.returns
unfolding notify_text notify_lines
returns c =
    let via = and_then c.put-4.ensures (and_then c.put_addr.ensures (and_then c.put-5.ensures (and_then c.put-6.ensures (and_then c.put-7.ensures (same (ap decimal c.from.ensures) c.put_number.ensures))))) in
    let opening =
    more_lines _ _ (as_line _ (and_then (and_then c.put.ensures (and_then c.put-2.ensures c.put-3.ensures)) c.end_line.ensures))
    (more_lines _ _ (as_header (codes "Via") _ (and_then c.put_name.ensures (and_then via c.end_line-2.ensures))) c.put_header.ensures) in
    let dialog = more_lines _ _ c.put_party.ensures (more_lines _ _ c.put_header-2.ensures (more_lines _ _ c.put_call.ensures c.put_contact.ensures)) in
    let id = same (ap (parameter_text (codes "id")) c.id.ensures) c.put_parameter.ensures in
    let expires = same (ap (λ (o : Option ℕ). parameter_text (codes "expires") (option_map decimal o)) c.expires.ensures) c.put_seconds_parameter.ensures in
    let reason = same (ap (parameter_text (codes "reason")) c.reason.ensures) c.put_parameter-2.ensures in
    let retry_after = same (ap (λ (o : Option ℕ). parameter_text (codes "retry-after") (option_map decimal o)) c.retry_after.ensures) c.put_seconds_parameter-2.ensures in
    let event =
    more_lines _ _
    (as_header (codes "Event") _ (and_then c.put_name-2.ensures (and_then (and_then (same c.package.ensures c.put-8.ensures) id) c.end_line-3.ensures)))
    (as_header (codes "Subscription-State") _ (and_then c.put_name-3.ensures
    (and_then (and_then (same c.word.ensures c.put-9.ensures) (and_then expires (and_then reason retry_after))) c.end_line-4.ensures))) in
    let body = more_lines _ _ c.put_header-3.ensures (more_lines _ _ c.put_count.ensures (as_line _ c.end_line-5.ensures)) in
    all_put _ _ _ _ c.new-page.ensures
    (and_then (more_lines _ _ opening (more_lines _ _ c.put_headers.ensures (more_lines _ _ dialog (more_lines _ _ event body)))) c.put_bytes.ensures)
    c.octets.ensures
