use Rattle.std.proofs.Common.{◌≡◌, ◌∙◌, ◌++◌, List, length, map, rules, ap}
use Rattle.notifier_model.specs.declared.event.Out.{Out}
use Rattle.notifier.specs.Held.{seen_by}
use Rattle.resumption.proofs.Replaying.{stands_there, open_there, desk_more}
use Rattle.resumption.proofs.desks.Replayed.add.Goals as goal

pub returns-clause-desk : goal.returns-clause-desk
returns-clause-desk g c =
    let desks = c.args.self.now.desks.items in
    let worker_is : c.in_ok-worker.worker ≡ length desks = search rules in
    desk_more (seen_by g.P.Package.seen) desks _ c.in_ok-again.again.desk _ _ c.in_ok-push.ensures.items c.in_ok-again.ensures.stands
    (stands_there c.args.worked.now c.args.account (length desks) c.in_ok-worker.worker c.in_ok-left.left.book (map g.P.Package.seen c.in_ok-boxes.boxes.items) c.in_ok-left.left.events.items
    (record { worker_is = worker_is; book_is = c.in_ok-left.ensures.book; boxes_are = c.in_ok-boxes.ensures; events_are = c.in_ok-left.ensures.events }))

pub returns-clause-unanswered : goal.returns-clause-unanswered
returns-clause-unanswered g c =
    let desks = c.args.self.now.desks.items in
    let worker_is : c.in_ok-worker.worker ≡ length desks = search rules in
    c.in_ok-append.ensures.items
    ∙ ap (λ (outs : List Out). c.args.self.now.unanswered.items ++ outs)
    (c.in_ok-again.ensures.unanswered
    ∙ open_there c.args.worked.now c.args.account (length desks) c.in_ok-worker.worker c.in_ok-left.left.book (map g.P.Package.seen c.in_ok-boxes.boxes.items) c.in_ok-left.left.events.items
    (record { worker_is = worker_is; book_is = c.in_ok-left.ensures.book; boxes_are = c.in_ok-boxes.ensures; events_are = c.in_ok-left.ensures.events }))
