use Rattle.sip_write.proofs.Pages.{and_then, as_header}
use Rattle.sip_write.proofs.page.Page.put_party.Goals as goal

pub returns : goal.returns
returns c = as_header _ _ (and_then c.put_name.ensures (and_then (and_then c.put.ensures c.put_parameter.ensures) c.end_line.ensures))
