use Rattle.commands.proofs.Started.{if_both}
use Rattle.commands.proofs.GoneOn.{anew_so}
use Rattle.commands.proofs.journal_start.begin_anew.Goals as goal

pub returns : goal.returns
returns g c =
    let order = c.args.order in let wish = c.wish-wish.result in
    if_both c.begin_file.result c.begin_file.ensures.desks c.begin_file.ensures.begins
    (λ s desks begins. anew_so g.P.Package.seen order.plan.now order.work wish c.in_ok-renewed.renewed s _
    (record { workers = c.wish-wish.ensures.workers; mailboxes = c.wish-wish.ensures.mailboxes; works = c.wish-wish.ensures.work })
    c.as_slice-changes.ensures.value c.in_ok-renewed.ensures.stand c.in_ok-renewed.ensures.first desks begins)
