use Rattle.first_contact.proofs.Histories.{known_is_answered}
use Rattle.first_contact.proofs.laws.known_is_answered.Goals as goal

pub returns : goal.returns
returns c = known_is_answered
