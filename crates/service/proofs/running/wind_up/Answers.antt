use Rattle.std.proofs.Common.{sym}
use Rattle.crew.proofs.Keeping.{started_end}
use Rattle.service.specs.Handing.{begins_so}
use Rattle.service.proofs.Closed.{taker_new, taker_workers}
use Rattle.service.proofs.Ran.{leaves}
use Rattle.service.proofs.running.wind_up.Goals as goal

pub send_outs-requires-clause-workers : goal.send_outs-requires-clause-workers
send_outs-requires-clause-workers g c = sym (taker_workers c.requires.new.2)

pub send_outs-requires-clause-none : goal.send_outs-requires-clause-none
send_outs-requires-clause-none g c = taker_new c.requires.new.2

pub join-report-requires-clause-ended : goal.join-report-requires-clause-ended
join-report-requires-clause-ended g c = started_end c.requires.new.2 c.send_outs.new.outgoing.taker c.send_outs.ensures.outbox c.send_outs.ensures.ended

pub returns : goal.returns
returns g c = λ stands ports tick is.
    let sent = c.send_outs.ensures.sent in
    leaves (begins_so stands c.args.running tick) is c.new.result.items c.send_outs.new.outgoing.taker.got _ sent.0 sent.1 c.new.ensures.items c.join-report.ensures sent.2
