use Rattle.std.proofs.Common.{rules, ◌≡◌, length, take, List}
use Rattle.keeper.specs.Told.{Kept}
use Rattle.resumption.specs.Changed.{all_mails, most_events, most_mails}
use Rattle.commands.specs.Anew.{told_anew}
use Rattle.commands.proofs.Started.{told_on}
use Rattle.commands.proofs.journal_new.end_and_begin.Goals as goal

pub returns-clause-told : goal.returns-clause-told
returns-clause-told g c =
    let kept : List Kept = take (length c.args.replayed.desks.items) c.args.replayed.keeper.workers in
    let changes : c.in_ok-changes.changes.items ≡ all_mails kept = search rules in
    let events : c.in_ok-changes.events ≡ most_events kept = search rules in
    let mails : c.in_ok-changes.mails ≡ most_mails kept = search rules in
    let told : c.in_ok-desks.field-0.told.items ≡ told_anew c.args.wish.now c.in_ok-changes.changes.items = search rules in
    told_on c.args.wish.now kept c.in_ok-changes.changes.items c.in_ok-changes.events c.in_ok-changes.mails c.in_ok-desks.field-0.told.items
    c.in_ok-told.told.items changes events mails told c.in_ok-told.ensures
