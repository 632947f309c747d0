use Rattle.sip_write.proofs.TopVia.{top_again}
use Rattle.sip_write.proofs.laws.a_top_via_is_read_again.Goals as goal

pub returns : goal.returns
returns c = top_again
