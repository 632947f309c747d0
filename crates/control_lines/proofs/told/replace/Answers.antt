use Rattle.std.proofs.Common.{ap, ◌∙◌}
use Rattle.control_lines.specs.Told.{rows_in}
use Rattle.control_lines.proofs.Rows.{set_row}
use Rattle.control_lines.proofs.told.replace.Goals as goal

pub returns-in-Some : goal.returns-in-Some
returns-in-Some c = ap rows_in ((c.get_mut.follows.holds c.args.counts).0) ∙ set_row c.args.name.now c.args.counts c.args.mailboxes.now.entries
