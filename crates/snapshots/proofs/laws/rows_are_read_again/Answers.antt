use Rattle.snapshots.proofs.Rows.{row_form}
use Rattle.snapshots.proofs.laws.rows_are_read_again.Goals as goal

pub returns : goal.returns
returns c = row_form
