use Rattle.std.proofs.Common.{◌≡◌, None, Some, rules, sym}
use Rattle.indexmap.specs.IndexMap.{get_by_text}
use Rattle.message_summary.proofs.Steps.{found, found_same, found_changed}
use Rattle.message_summary.proofs.mailboxes.set_counts.Goals as goal

pub returns-in_default : goal.returns-in_default
returns-in_default c =
    let e : get_by_text c.args.mailboxes.now c.mailbox-name.result.now ≡ None = search rules in
    sym (found c.args.mailboxes.now.entries c.args.mail.now c.mailbox-name.result.now c.mailbox-name.ensures.value None e)

pub returns-then-has_counts : goal.returns-then-has_counts
returns-then-has_counts c =
    let e : get_by_text c.args.mailboxes.now c.mailbox-name.result.now ≡ Some c.in-Some.found = search rules in
    found_same c.args.mailboxes.now.entries c.args.mail.now c.mailbox-name.result.now c.mailbox-name.ensures.value c.in-Some.found e (search rules)

pub returns : goal.returns
returns c =
    let e : get_by_text c.args.mailboxes.now c.mailbox-name.result.now ≡ Some c.in-Some.found = search rules in
    let w = found_changed c.args.mailboxes.now.entries c.args.mail.now c.mailbox-name.result.now c.mailbox-name.ensures.value c.in-Some.found e (search rules) in
    cc
