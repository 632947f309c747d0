use Rattle.sip_write.proofs.Pages.{and_then, as_header}
use Rattle.sip_write.proofs.page.Page.put_count.Goals as goal

pub returns : goal.returns
returns c = as_header _ _ (and_then c.put_name.ensures (and_then c.put_number.ensures c.end_line.ensures))
