use Rattle.commands.proofs.Ordered.{all_since}
use Rattle.commands.proofs.journal_opened.told_since.Goals as goal

pub returns : goal.returns
returns c =
    all_since c.args.account.now c.new-changes.result.items c.add_handled.new.changes.items _ c.as_slice.result.now c.as_slice-2.result.now
    c.new-changes.ensures.items c.as_slice.ensures c.as_slice-2.ensures c.in_ok-add_handled.ensures c.in_ok-add_lines.ensures
