use Rattle.std.proofs.Common.{length}
use Rattle.sip_write.proofs.ViaLines.{IsPartPut}
use Rattle.sip_write.proofs.via.put_parameters.Given as goal

abbrev pub invariant-loop-rest : goal.invariant-loop-rest
invariant-loop-rest l = IsPartPut l.source l.text l.rest l.fn.page l.page

abbrev pub decreases-loop-rest : goal.decreases-loop-rest
decreases-loop-rest l = length l.rest
