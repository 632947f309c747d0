use Rattle.std.proofs.Common.{map}
use Rattle.notifier.specs.Held.{seen_by}
use Rattle.commands.specs.declared.journal_start.Course.TheVariants as course
use Rattle.commands.proofs.Started.{if_both}
use Rattle.commands.proofs.GoneOn.{straight_so, carried_on, ended_so, gone_on}
use Rattle.commands.proofs.journal_start.go_on.Goals as goal

pub returns-in-Straight : goal.returns-in-Straight
returns-in-Straight g c =
    let order = c.args.order in let seen = g.P.Package.seen in let r = c.in_ok-replayed.replayed in let was = c.in_ok-replayed.ensures in
    if_both c.go_straight.result c.go_straight.ensures.desks c.go_straight.ensures.begins
    (λ s desks begins. gone_on order.plan.now order.work order.terms order.header c.args.from.1 c.in_ok-course.course course.Straight
    r.unanswered.items (map (seen_by seen) s.desks.items) s.begins c.in-Straight.is c.in_ok-course.ensures was.awaited
    (straight_so seen c.args.from.1 order.work.setup.stop r s was desks begins))

pub returns-in_ok-spare-in-Renewed : goal.returns-in_ok-spare-in-Renewed
returns-in_ok-spare-in-Renewed g c =
    let order = c.args.order in let seen = g.P.Package.seen in let wish = c.wish-wish.result in let lost = c.in-Renewed.is_lost in
    let r = c.in_ok-replayed.replayed in let was = c.in_ok-replayed.ensures in
    let again = c.in_ok-again-in-Renewed.again in let renewed = c.in_ok-renewed-in-Renewed.renewed in
    if_both c.begin_file.result c.begin_file.ensures.desks c.begin_file.ensures.begins
    (λ s desks begins. gone_on order.plan.now order.work order.terms order.header c.args.from.1 c.in_ok-course.course (course.Renewed lost)
    r.unanswered.items (map (seen_by seen) s.desks.items) s.begins c.in-Renewed.is c.in_ok-course.ensures was.awaited (
      wish,
      record { workers = c.wish-wish.ensures.workers; mailboxes = c.wish-wish.ensures.mailboxes; works = c.wish-wish.ensures.work },
      carried_on seen c.args.from.1 order.work.setup.stop r s was order.plan.now wish again _ renewed
          c.in_ok-again-in-Renewed.ensures.desks c.in_ok-again-in-Renewed.ensures.unanswered c.in_ok-again-in-Renewed.ensures.kept c.in_ok-unheld.ensures
          desks begins lost c.in_ok-renewed-in-Renewed.ensures.stands c.in_ok-renewed-in-Renewed.ensures.first,
    ))

pub returns-in_ok-anew-in-Ended : goal.returns-in_ok-anew-in-Ended
returns-in_ok-anew-in-Ended g c =
    let order = c.args.order in let seen = g.P.Package.seen in let wish = c.wish-wish.result in
    let r = c.in_ok-replayed.replayed in let was = c.in_ok-replayed.ensures in
    let last = c.in_ok-last-in-Ended.last in let anew = c.in_ok-anew-in-Ended.anew in
    if_both c.begin_file-in-Ended.result c.begin_file-in-Ended.ensures.desks c.begin_file-in-Ended.ensures.begins
    (λ s desks begins. gone_on order.plan.now order.work order.terms order.header c.args.from.1 c.in_ok-course.course course.Ended
    r.unanswered.items (map (seen_by seen) s.desks.items) s.begins c.in-Ended.is c.in_ok-course.ensures was.awaited (
      wish,
      record { workers = c.wish-wish.ensures.workers; mailboxes = c.wish-wish.ensures.mailboxes; works = c.wish-wish.ensures.work },
      ended_so seen c.args.from.1 order.work.setup.stop r s was order.plan.now wish last _ anew
          c.in_ok-last-in-Ended.ensures.desks c.in_ok-last-in-Ended.ensures.unanswered c.in_ok-last-in-Ended.ensures.kept c.in_ok-unheld.ensures
          desks begins c.in_ok-anew-in-Ended.ensures.stand c.in_ok-anew-in-Ended.ensures.first,
    ))
