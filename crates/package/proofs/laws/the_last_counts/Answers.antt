use Rattle.package.proofs.Runs.{content_law}
use Rattle.package.proofs.laws.the_last_counts.Goals as goal

pub returns : goal.returns
returns c = content_law
