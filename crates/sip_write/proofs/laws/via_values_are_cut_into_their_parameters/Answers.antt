use Rattle.sip_write.proofs.ViaPieces.{cuts}
use Rattle.sip_write.proofs.laws.via_values_are_cut_into_their_parameters.Goals as goal

pub returns : goal.returns
returns c = cuts
