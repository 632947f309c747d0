use Rattle.std.proofs.Common.{◌≡◌, ℕ, true, List, get_or, ap, sym, ◌∙◌, subst, arith}
use Rattle.queues.specs.OutboxSeats.{TakerSeat}
use Rattle.crew.specs.Ports.{PortSeats}
use Rattle.crew.specs.Started.{IsStarted}
use Rattle.crew.proofs.Keeping.{started_open, started_end}
use Rattle.examples_crew.proofs.TwoSenders.{ports_closed, pushed_two}
use Rattle.examples_crew.proofs.handed.join_both.Goals as goal

pub take_both-sooner-requires : goal.take_both-sooner-requires
take_both-sooner-requires g c = let two = c.requires.started.1.dealt.len in let len = c.args.begun.ports.ok.0 in omega arith

pub send_and_close-sooner-requires : goal.send_and_close-sooner-requires
send_and_close-sooner-requires g c =
    let port = c.take_both-sooner.result.0 in
    let P : List PortSeats → Type 0 = λ l. (get_or l 0 port).is_open ≡ true in
    subst P c.take_both-sooner.ensures.both (started_open c.requires.started.1 c.requires.some 0 port (omega arith))

pub send_and_close-later-requires : goal.send_and_close-later-requires
send_and_close-later-requires g c =
    let port = c.take_both-sooner.result.1 in
    let P : List PortSeats → Type 0 = λ l. (get_or l 1 port).is_open ≡ true in
    subst P c.take_both-sooner.ensures.both (started_open c.requires.started.1 c.requires.some 1 port (omega arith))

pub take_all-requires-clause-none : goal.take_all-requires-clause-none
take_all-requires-clause-none g c = ap (λ (t : TakerSeat). t.got) c.requires.started.1.takes

pub take_all-requires-clause-workers : goal.take_all-requires-clause-workers
take_all-requires-clause-workers g c = sym (ap (λ (t : TakerSeat). t.workers) c.requires.started.1.takes)

pub join-requires-clause-ports : goal.join-requires-clause-ports
join-requires-clause-ports g c p q low =
    let none = c.take_both-sooner.new.ports in let empty = c.take_both-sooner.ensures.none in let size = none.ok.0 in
    let sooner = c.send_and_close-sooner in let later = c.send_and_close-later in
    let one = c.push_reserved.new.self in let two = c.push_reserved-2.new.self in
    let both = pushed_two none.items one.items two.items sooner.result later.result (omega arith) c.push_reserved.ensures.items c.push_reserved-2.ensures.items in
    let begun = c.args.begun in
    let P : List PortSeats → Type 0 = λ l. IsStarted c.requires.started.0 begun.workers 2 begun.crew l begun.taker in
    let len = two.ok.0 in
    let first = c.take_both-sooner.result in
    ports_closed c.requires.started.0 begun.workers begun.crew first.0 first.1 begun.taker
    (subst P c.take_both-sooner.ensures.both c.requires.started.1) sooner.result later.result two.items both
    sooner.ensures.shut later.ensures.shut sooner.ensures.seats later.ensures.seats p q (omega arith)

pub join-requires-clause-ended : goal.join-requires-clause-ended
join-requires-clause-ended g c = started_end c.requires.started.1 c.take_all.new.taker c.take_all.ensures.outbox c.take_all.ensures.ended
