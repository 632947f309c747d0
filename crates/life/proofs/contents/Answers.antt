use Rattle.life.proofs.Mailboxes.{contents_law}
use Rattle.life.proofs.contents.Goals as goal

pub returns : goal.returns
returns c = contents_law
