use Rattle.std.proofs.Common.{codes}
use Rattle.sip_write.proofs.Pages.{and_then, as_header}
use Rattle.sip_write.proofs.page.Page.put_contact.Goals as goal

pub returns : goal.returns
returns c = as_header (codes "Contact") _ (and_then c.put_name.ensures (and_then (and_then c.put.ensures (and_then c.put_addr.ensures c.put-2.ensures)) c.end_line.ensures))
