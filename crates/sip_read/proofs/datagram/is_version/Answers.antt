use Rattle.std.proofs.Common.{refl, arith}
use Rattle.std.specs.Prelude.{codes}
use Rattle.std.proofs.lemmas.Slice.Eq.{text_from_reads}
use Rattle.sip_read.proofs.datagram.is_version.Goals as goal

pub returns-in-83 : goal.returns-in-83
returns-in-83 c = rw (text_from_reads c.args.word.now (codes "SIP/2.0") (omega arith) (omega arith, (omega arith, (omega arith, (omega arith, (omega arith, (omega arith, (omega arith, tt)))))))) refl
