use Rattle.std.proofs.Common.{sym, arith}
use Rattle.udp_command.specs.UdpHearing.{count_of}
use Rattle.queues.proofs.Ended.{ended_none}
use Rattle.crew.proofs.Keeping.{started_end}
use Rattle.udp_command.proofs.UdpClosed.{ports_closed, pushed_two}
use Rattle.udp_command.proofs.UdpServed.{heard_sip, heard_control, serves_are}
use Rattle.udp_command.proofs.UdpStarted.{taker_new, taker_workers}
use Rattle.udp_command.proofs.udp_serving.serve_to_end.Goals as goal

pub emit-emitted-requires-clause-workers : goal.emit-emitted-requires-clause-workers
emit-emitted-requires-clause-workers g c = sym (taker_workers c.requires.new.0 c.requires.new.1)

pub emit-emitted-requires-clause-none_ended : goal.emit-emitted-requires-clause-none_ended
emit-emitted-requires-clause-none_ended g c = ended_none _ _ (taker_new c.requires.new.0 c.requires.new.1)

pub join-report-requires-clause-ports : goal.join-report-requires-clause-ports
join-report-requires-clause-ports g c p q low =
    let sip = c.join-sip in let control = c.join-control in
    let room = c.requires.room in let size = c.args.ports.ok.0 in
    let one = c.push_reserved.new.self in let two = c.push_reserved-2.new.self in
    let both = pushed_two c.args.ports.items one.items two.items sip.result.port control.result.port (omega arith) c.push_reserved.ensures.items c.push_reserved-2.ensures.items in
    let len = two.ok.0 in
    ports_closed c.requires.new.0 c.requires.new.1 sip.result.port control.result.port two.items both sip.ensures.shut control.ensures.shut sip.ensures.seats control.ensures.seats p q (omega arith)

pub join-report-requires-clause-ended : goal.join-report-requires-clause-ended
join-report-requires-clause-ended g c = started_end c.requires.new.1 c.emit-emitted.new.taker c.emit-emitted.ensures.outbox c.emit-emitted.ensures.ended

pub returns : goal.returns
returns g c = λ start is.
    let sip = c.join-sip in let control = c.join-control in let emitted = c.emit-emitted in
    let room = c.requires.room in let size = c.args.ports.ok.0 in
    let one = c.push_reserved.new.self in let two = c.push_reserved-2.new.self in
    let both = pushed_two c.args.ports.items one.items two.items sip.result.port control.result.port (omega arith) c.push_reserved.ensures.items c.push_reserved-2.ensures.items in
    serves_are g.F.Write.contents is (count_of c.args.listeners.sip.promise.hearing) c.args.sink.now emitted.new.sink _ sip.result.port control.result.port two.items emitted.new.taker.got emitted.ensures.emitted.0 _ _
    (heard_sip c.requires.errands _ sip.result.port sip.result.report sip.ensures)
    (heard_control c.requires.errands _ control.result.port control.result.report control.ensures)
    both c.join-report.ensures emitted.ensures.emitted.1
