use Rattle.std.proofs.Common.{◌∙◌, sym}
use Rattle.notifier.proofs.Turning.{rows_length}
use Rattle.notifier.proofs.store.rows.Rows.len.Goals as goal

pub returns : goal.returns
returns c = c.len.ensures.len ∙ sym (rows_length c.args.self.now c.requires)
