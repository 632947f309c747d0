use Rattle.std.proofs.Common.{◌∙◌}
use Rattle.notifier.specs.Held.{seen_by}
use Rattle.crew.proofs.Halting.{halted_at, worked}
use Rattle.crew.proofs.working.work.Goals as goal

pub returns : goal.returns
returns g c start is planned =
    let s = c.handle_all-halt.ensures in let e = c.ending-end.ensures in let hand = c.handle_all-halt.new.hand in
    worked start c.args.receiver c.handle_all-halt.new.receiver c.ending-end.new.receiver c.args.hand.poster hand.poster c.ending-end.new.hand.poster c.finish-poster.result _ _ _
    s.same s.among e.inbox e.ports e.among e.same
    (e.ends start (s.stop ∙ planned) (halted_at _ _ _ _ hand.handled hand.made start c.handle_all-halt.new.receiver.taken (seen_by g.P.Package.seen hand.desk) hand.poster.posted c.handle_all-halt.result.stop s.same.number s.same.ports (s.halted start is)))
    c.finish-poster.ensures
