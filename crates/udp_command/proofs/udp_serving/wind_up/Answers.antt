use Rattle.std.proofs.Common.{sym}
use Rattle.queues.proofs.Ended.{ended_none}
use Rattle.crew.proofs.Keeping.{started_end}
use Rattle.udp_command.proofs.UdpStarted.{taker_new, taker_workers}
use Rattle.udp_command.proofs.udp_serving.wind_up.Goals as goal

pub emit-requires-clause-workers : goal.emit-requires-clause-workers
emit-requires-clause-workers g c = sym (taker_workers c.requires.0 c.requires.2)

pub emit-requires-clause-none_ended : goal.emit-requires-clause-none_ended
emit-requires-clause-none_ended g c = ended_none _ _ (taker_new c.requires.0 c.requires.2)

pub join-report-requires-clause-ended : goal.join-report-requires-clause-ended
join-report-requires-clause-ended g c = started_end c.requires.2 c.emit.new.taker c.emit.ensures.outbox c.emit.ensures.ended
