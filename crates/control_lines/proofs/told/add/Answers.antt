use Rattle.std.proofs.Common.{sym, ◌∙◌}
use Rattle.control_lines.proofs.Rows.{add_there, add_new}
use Rattle.control_lines.proofs.told.add.Goals as goal

pub returns-then-contains_key-clause-added : goal.returns-then-contains_key-clause-added
returns-then-contains_key-clause-added c =
    add_there _ c.args.mailboxes.now.entries (sym (rw c.as_str.ensures.value at c.contains_key.ensures) ∙ c.if-contains_key.true)

pub returns-clause-added : goal.returns-clause-added
returns-clause-added c =
    add_new c.args.name c.unset.result c.args.mailboxes.now.entries c.insert.new.self.entries (sym (rw c.as_str.ensures.value at c.contains_key.ensures) ∙ c.if-contains_key.false)
    c.unset.ensures c.in_ok-insert.ensures.entries
