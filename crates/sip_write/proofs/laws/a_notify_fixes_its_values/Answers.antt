use Rattle.sip_write.proofs.NotifyFixed.{fixes}
use Rattle.sip_write.proofs.laws.a_notify_fixes_its_values.Goals as goal

pub returns : goal.returns
returns c = fixes
