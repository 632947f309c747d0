use Rattle.sip_write.proofs.ViaNames.{tells}
use Rattle.sip_write.proofs.laws.pieces_tell_the_names_of_their_parameters.Goals as goal

pub returns : goal.returns
returns c = tells
