use Rattle.std.proofs.Common.{codes, decimal, ap}
use Rattle.sip_write.proofs.Pages.{same, and_then, as_header, more_lines}
use Rattle.sip_write.proofs.page.Page.put_call.Goals as goal

pub returns : goal.returns
returns c =
    more_lines _ _ c.put_header.ensures
    (as_header (codes "CSeq") _ (and_then c.put_name.ensures (and_then (and_then (same (ap decimal c.from.ensures) c.put_number.ensures) (and_then c.put.ensures c.put-2.ensures)) c.end_line.ensures)))
