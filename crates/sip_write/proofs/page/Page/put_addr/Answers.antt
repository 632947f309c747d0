use Rattle.std.proofs.Common.{decimal, ap}
use Rattle.sip_write.proofs.Pages.{same, and_then}
use Rattle.sip_write.proofs.page.Page.put_addr.Goals as goal

pub returns : goal.returns
returns c = and_then c.put_ip.ensures (and_then c.put.ensures (same (ap decimal c.from.ensures) c.put_number.ensures))
