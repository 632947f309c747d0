use Rattle.first_contact.proofs.Firsts.{one_at_most}
use Rattle.first_contact.proofs.laws.one_at_most.Goals as goal

pub returns : goal.returns
returns c = one_at_most
