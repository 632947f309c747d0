use Rattle.std.proofs.Common.{◌<◌, ◌∙◌, length, IfSome, sym, subst, ℕ}
use Rattle.control_lines.specs.Told.{rows_in}
use Rattle.control_lines.proofs.Rows.{place_rows, rows_len}
use Rattle.control_lines.proofs.told.position.Goals as goal

pub returns-clause-place : goal.returns-clause-place
returns-clause-place c = c.get_index_of.ensures.index ∙ place_rows c.args.name.now c.args.mailboxes.now.entries

pub returns-clause-within : goal.returns-clause-within
returns-clause-within c = subst (λ (k : ℕ). IfSome c.get_index_of.result (λ n. n < k)) (sym (rows_len c.args.mailboxes.now.entries)) c.get_index_of.ensures.within
