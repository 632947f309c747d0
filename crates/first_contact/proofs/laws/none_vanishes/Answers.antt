use Rattle.first_contact.proofs.Parts.{none_vanishes}
use Rattle.first_contact.proofs.laws.none_vanishes.Goals as goal

pub returns : goal.returns
returns c = none_vanishes
