use Rattle.std.proofs.Common.{◌≡◌, ◌∷◌, ◌++◌, [], ℕ, List, length, get_or, sym, ap, ◌∙◌, subst, arith}
use Rattle.crew.specs.Ports.{PortSeats}
use Rattle.crew.specs.Joined.{IsPortOf}
use Rattle.server.specs.Gathering.{AreNew}
use Rattle.server.specs.Crew.{IsFinished}
use Rattle.crew.proofs.Counted.{if_ok}
use Rattle.server.proofs.Finished.{popped, ports_len, taker_new, taker_workers, port_open, port_sent, is_port, works_are}
use Rattle.server.proofs.crew_work.run_to_end.Goals as goal

pub spawn_with-requires-clause-runs : goal.spawn_with-requires-clause-runs
spawn_with-requires-clause-runs g c κs within =
    let is = c.requires.running.1 in
    (taker_new is, subst (λ (n : ℕ). AreNew n c.args.works.items) (sym (taker_workers is)) c.requires.new)

pub spawn_with-requires-clause-keeps : goal.spawn_with-requires-clause-keeps
spawn_with-requires-clause-keeps g c κs within r h = rw c.of.ensures h

pub send_script-is_sent-requires : goal.send_script-is_sent-requires
send_script-is_sent-requires g c =
    let is = c.requires.running.1 in
    let p = popped c.args.started.1.items c.pop.new.self.items c.in-Some.port (ports_len is) c.in-Some.ensures.items in
    record { still_open = port_open is c.in-Some.port p.1 c.requires.some }

pub finish-requires-clause-ports : goal.finish-requires-clause-ports
finish-requires-clause-ports g c =
    let is = c.requires.running.1 in let sent = c.send_script-is_sent in
    let p = popped c.args.started.1.items c.pop.new.self.items c.in-Some.port (ports_len is) c.in-Some.ensures.items in
    let only : c.push_reserved.new.self.items ≡ sent.new.port ∷ [] = c.push_reserved.ensures.items ∙ ap (λ (l : List PortSeats). l ++ sent.new.port ∷ []) p.0 in
    λ k q low.
    let len = ap length only in let own = c.push_reserved.new.self.ok.0 in
    subst (λ (l : List PortSeats). IsPortOf c.args.started.0 (get_or l k q)) (sym only)
    (is_port is c.in-Some.port sent.new.port p.1 sent.ensures.closed sent.ensures.seats k q (omega arith))

pub returns-in-Ok-clause-works : goal.returns-in-Ok-clause-works
returns-in-Ok-clause-works g c =
    if_ok c.finish.result
    (λ works done starts is.
    let sent = c.send_script-is_sent in let gathered = c.join-gathered.result in
    let p = popped c.args.started.1.items c.pop.new.self.items c.in-Some.port (ports_len is) c.in-Some.ensures.items in
    let only : c.push_reserved.new.self.items ≡ sent.new.port ∷ [] = c.push_reserved.ensures.items ∙ ap (λ (l : List PortSeats). l ++ sent.new.port ∷ []) p.0 in
    works_are is sent.new.port gathered sent.result c.args.events.items works.items
    (is_port is c.in-Some.port sent.new.port p.1 sent.ensures.closed sent.ensures.seats)
    (λ ok. let all = sent.ensures.sent ok in port_sent is c.in-Some.port all.0 sent.new.port c.args.events.items p.1 all.1 all.2)
    (rw c.of.ensures at (rw c.in-Ok.ensures.ok at c.join-gathered.ensures))
    (subst (λ (l : List PortSeats). IsFinished c.args.started.0 l gathered sent.result works.items) only done))
    c.finish.ensures.works
