use Rattle.sip_read.proofs.BadLines.{each_is_a_bad_line}
use Rattle.sip_read.proofs.laws.each_is_a_bad_line.Goals as goal

pub returns : goal.returns
returns c = each_is_a_bad_line
