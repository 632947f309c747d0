use Rattle.std.proofs.Common.{List, sym, subst, arith}
use Rattle.crew.proofs.Keeping.{started_end}
use Rattle.crew.specs.Ports.{PortSeats}
use Rattle.service.specs.Handing.{IsNew, begins_so}
use Rattle.service.proofs.Closed.{taker_new, taker_workers, ports_closed, pushed_three}
use Rattle.service.proofs.Ran.{sent_datagrams, sent_lines, sent_ticks, runs_are}
use Rattle.service.proofs.Faults.{left_phones, left_desk, left_stopwatch, phones_heard, desk_heard, clock_failed}
use Rattle.service.proofs.running.send_to_end.Goals as goal

pub send_outs-requires-clause-workers : goal.send_outs-requires-clause-workers
send_outs-requires-clause-workers g c = sym (taker_workers c.requires.new.2)

pub send_outs-requires-clause-none : goal.send_outs-requires-clause-none
send_outs-requires-clause-none g c = taker_new c.requires.new.2

pub join-report-requires-clause-ports : goal.join-report-requires-clause-ports
join-report-requires-clause-ports g c p q low =
    let sip = c.join-sip in let lines = c.join-lines in let time = c.join-time in
    let room = c.requires.room in let size = c.args.ports.ok.0 in
    let one = c.push_reserved.new.self in let two = c.push_reserved-2.new.self in let three = c.push_reserved-3.new.self in
    let all = pushed_three c.args.ports.items one.items two.items three.items sip.result.port lines.result.port time.result.port (omega arith) c.push_reserved.ensures.items c.push_reserved-2.ensures.items c.push_reserved-3.ensures.items in
    let len = three.ok.0 in
    let P : List PortSeats → Type 0 = λ l. IsNew c.requires.new.0 l c.args.running in
    ports_closed _ _ _ sip.result.port lines.result.port time.result.port (subst P c.requires.new.3 c.requires.new.2) three.items all sip.ensures.sends.shut lines.ensures.sends.shut time.ensures.sends.shut
    sip.ensures.sends.seats lines.ensures.sends.seats time.ensures.sends.seats p q (omega arith)

pub join-report-requires-clause-ended : goal.join-report-requires-clause-ended
join-report-requires-clause-ended g c = started_end c.requires.new.2 c.send_outs.new.outgoing.taker c.send_outs.ensures.outbox c.send_outs.ensures.ended

pub into_sip_desk-requires : goal.into_sip_desk-requires
into_sip_desk-requires g c =
    let its = left_phones c.requires.errands.1 c.join-sip.result c.join-sip.ensures.fails in (its.0, its.1)

pub into_control_desk-requires : goal.into_control_desk-requires
into_control_desk-requires g c =
    let its = left_desk c.requires.errands.1 c.join-lines.result c.join-lines.ensures.fails in (its.0, its.1)

pub into_stopwatch-requires : goal.into_stopwatch-requires
into_stopwatch-requires g c =
    let its = left_stopwatch c.requires.errands.1 c.join-time.result c.join-time.ensures.fails in (its.0, its.1)

pub returns-clause-faults : goal.returns-clause-faults
returns-clause-faults g c = λ sources errands none. record {
  sip = phones_heard sources.sip c.into_sip_desk.result c.join-sip.result (left_phones errands c.join-sip.result c.join-sip.ensures.fails) c.into_sip_desk.ensures;
  lines = desk_heard sources.desk c.into_control_desk.result c.join-lines.result (left_desk errands c.join-lines.result c.join-lines.ensures.fails) c.into_control_desk.ensures;
  time = clock_failed sources.stopwatch c.into_stopwatch.result c.join-time.result none (left_stopwatch errands c.join-time.result c.join-time.ensures.fails) c.into_stopwatch.ensures;
}

pub returns-clause-runs : goal.returns-clause-runs
returns-clause-runs g c = λ stands lent sources is lent_are errands opened fresh.
    let sip = c.join-sip in let lines = c.join-lines in let time = c.join-time in
    let room = c.requires.room in let size = c.args.ports.ok.0 in
    let one = c.push_reserved.new.self in let two = c.push_reserved-2.new.self in let three = c.push_reserved-3.new.self in
    let all = pushed_three c.args.ports.items one.items two.items three.items sip.result.port lines.result.port time.result.port (omega arith) c.push_reserved.ensures.items c.push_reserved-2.ensures.items c.push_reserved-3.ensures.items in
    let P : List PortSeats → Type 0 = λ l. IsNew stands l c.args.running in
    let sent = c.send_outs.ensures.sent in
    runs_are (begins_so stands c.args.running sources.stopwatch.tick) (subst P lent_are is) opened sources.sip.admission _ _ sip.result.port lines.result.port time.result.port three.items c.send_outs.new.outgoing.taker.got sent.0 sent.1
    (sent_datagrams errands sip.result.end _ sip.result.port sip.ensures.sends)
    (sent_lines errands lines.result.end _ lines.result.port opened c.args.running.outgoing.workers fresh lines.ensures.sends)
    (sent_ticks errands time.result.end _ time.result.port time.ensures.sends)
    all c.join-report.ensures sent.2
