use Rattle.snapshots.proofs.EventValues.{are_tested}
use Rattle.snapshots.proofs.row.are_tokens.Goals as goal

pub returns : goal.returns
returns c = are_tested c.args.event.now c.are_tokens.ensures
