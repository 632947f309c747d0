use Rattle.notifier.specs.Held.{seen_by}
use Rattle.crew.proofs.Halting.{deserted_end, full_ended, full_open}
use Rattle.crew.proofs.working.ending.Goals as goal

pub returns-then-drain-clause-ends : goal.returns-then-drain-clause-ends
returns-then-drain-clause-ends g c start planned k =
    full_ended _ c.args.receiver.now.ports _ _ start c.args.receiver.now.taken c.drain.new.receiver.taken c.drain.ensures.more.0 (seen_by g.P.Package.seen c.args.hand.now.desk) _ c.args.halt.stop
    c.in-Full.is k c.drain.ensures.more.1 c.if-drain.ensures.ended

pub returns-else-drain-clause-ends : goal.returns-else-drain-clause-ends
returns-else-drain-clause-ends g c start planned k =
    full_open _ c.args.receiver.now.ports _ _ start c.args.receiver.now.taken c.drain.new.receiver.taken c.drain.ensures.more.0 (seen_by g.P.Package.seen c.args.hand.now.desk) _ c.args.halt.stop
    c.in-Full.is k c.drain.ensures.more.1 c.if-drain.ensures.ended

pub returns-in-Deserted-clause-ends : goal.returns-in-Deserted-clause-ends
returns-in-Deserted-clause-ends g c start planned k =
    deserted_end _ c.args.receiver.now.ports _ _ start c.args.receiver.now.taken (seen_by g.P.Package.seen c.args.hand.now.desk) _ c.args.halt.stop c.in-Deserted.is k
