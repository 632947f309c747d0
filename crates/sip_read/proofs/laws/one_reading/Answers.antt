use Rattle.sip_read.specs.MessageComputed.{read_of}
use Rattle.sip_read.proofs.Exact.{says, told}
use Rattle.sip_read.proofs.laws.one_reading.Goals as goal

pub returns : goal.returns
returns c = λ bytes. (read_of bytes, says bytes, λ other h. told bytes other h)
