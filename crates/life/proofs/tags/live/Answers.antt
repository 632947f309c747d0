use Rattle.life.proofs.LiveRows.{live_law}
use Rattle.life.proofs.tags.live.Goals as goal

pub returns : goal.returns
returns c = live_law
