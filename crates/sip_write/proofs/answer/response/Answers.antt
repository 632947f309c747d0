use Rattle.std.proofs.Common.{decimal, ap, ◌∙◌}
use Rattle.sip_write.specs.Answer.{answer_text, answer_lines}
use Rattle.sip_write.proofs.Pages.{and_then, same, as_line, more_lines, all_put}
use Rattle.sip_write.proofs.answer.response.Goals as goal

pub returns : goal.returns
unfolding answer_text answer_lines
returns c =
    let status = and_then c.put.ensures (and_then (same (ap decimal (c.from.ensures ∙ c.code.ensures)) c.put_number.ensures) (and_then c.put-2.ensures (same c.phrase.ensures c.put-3.ensures))) in
    let dialog =
    rw (c.as_str.ensures, c.as_str-2.ensures, c.as_str-3.ensures, c.as_str-4.ensures, c.tag_to_add.ensures)
    at (more_lines _ _ c.put_header.ensures (more_lines _ _ c.put_party.ensures c.put_call.ensures)) in
    all_put _ _ _ _ c.new-page.ensures
    (more_lines _ _ (as_line _ (and_then status c.end_line.ensures)) (more_lines _ _ c.put_vias.ensures (more_lines _ _ c.put_headers.ensures
    (more_lines _ _ dialog (more_lines _ _ c.put_options.ensures (more_lines _ _ c.put_header-2.ensures (as_line _ c.end_line-2.ensures)))))))
    c.octets.ensures
