use Rattle.schedules.proofs.Told.{world_law}
use Rattle.schedules.proofs.world.Goals as goal

pub returns : goal.returns
returns c = world_law
