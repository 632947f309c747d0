use Rattle.std.proofs.Common.{◌≡◌, None, Some, rules, sym, ap, ◌∙◌}
use Rattle.indexmap.specs.IndexMap.{get_by_text}
use Rattle.control_lines.proofs.Rows.{told_none, told_some}
use Rattle.control_lines.proofs.told.note.Goals as goal

pub returns-in_default : goal.returns-in_default
returns-in_default c =
    let e : get_by_text c.args.mailboxes.now c.mailbox-name.result.now ≡ None = search rules in
    sym (told_none c.args.change.now c.args.mailboxes.now.entries (sym (ap (get_by_text c.args.mailboxes.now) c.mailbox-name.ensures.value) ∙ e))

pub returns : goal.returns
returns c =
    let e : get_by_text c.args.mailboxes.now c.mailbox-name.result.now ≡ Some c.in-Some.found = search rules in
    let w = told_some c.args.change.now c.args.mailboxes.now.entries c.in-Some.found (sym (ap (get_by_text c.args.mailboxes.now) c.mailbox-name.ensures.value) ∙ e) in
    cc
