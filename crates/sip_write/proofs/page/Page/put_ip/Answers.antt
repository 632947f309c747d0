use Rattle.sip_write.proofs.Pages.{same}
use Rattle.sip_write.proofs.page.Page.put_ip.Goals as goal

pub returns : goal.returns
returns c = same c.ip_in.ensures c.put_bytes.ensures
