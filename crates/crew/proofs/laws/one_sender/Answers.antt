use Rattle.crew.proofs.OneSender.{one_sender_law}
use Rattle.crew.proofs.laws.one_sender.Goals as goal

pub returns : goal.returns
returns c = one_sender_law
