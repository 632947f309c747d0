use Rattle.notifier_model.proofs.HomeFacts.{named_law, mailbox_law, below_law, one_law}
use Rattle.notifier_model.proofs.homes.laws.stay.Goals as goal

pub returns : goal.returns
returns c = record { named = named_law; mailbox = mailbox_law; below = below_law; one = one_law }
