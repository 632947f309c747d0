use Rattle.std.proofs.Common.{◌≡◌, ◌≤◌, ◌∙◌, ◌∷◌, [], true, false, refl, sym, ap, take, arith}
use Rattle.std.specs.Prelude.{nat_le}
use Rattle.std.proofs.lemmas.Bool.{le-leb, lt-leb}
use Rattle.transport.specs.Wires.{Grows, datagram}
use Rattle.feeds.specs.Fed.{is_fault}
use Rattle.feeds.proofs.Telling.{grows_none, grows_same}
use Rattle.service.proofs.Deafness.{deaf_same, deaf_after}
use Rattle.service.proofs.Hearing.{hearing_none, hearing_taken, hearing_long, hearing_silent, hearing_open, served_end, served_taken, short_is}
use Rattle.service.proofs.datagrams.SipDesk.hear_datagrams.Goals as goal

pub loop-init : goal.loop-init
loop-init g c = record {
  still_open = c.requires.still_open;
  seats = refl;
  longest = refl;
  hearing = hearing_none c.args.self.now.longest c.args.self.now.admission c.args.port.now (g.W.Wire.given c.args.self.now.coming)
      (g.W.Wire.taken c.args.self.now.going) (g.W.Wire.failures c.args.self.now.going);
  taken = grows_none (g.W.Wire.taken c.args.self.now.coming);
  going = grows_none (g.W.Wire.given c.args.self.now.going);
  deaf = deaf_same (g.W.Ear.misses c.args.self.now.coming);
}

pub returns-in-End-clause-served : goal.returns-in-End-clause-served
returns-in-End-clause-served g c = served_end (hearing_silent c.loop.invariant.hearing (g.W.Wire.given c.look.new.wire) c.in-End.ensures.given) c.in-End.end c.in-End.ensures.came

pub loop-preserved-in-Nothing : goal.loop-preserved-in-Nothing
loop-preserved-in-Nothing g c =
    let at = c.loop.invariant in record {
      still_open = at.still_open;
      seats = at.seats;
      longest = at.longest;
      taken = grows_same (g.W.Wire.taken c.args.self.now.coming) (g.W.Wire.taken c.loop.self.coming) (g.W.Wire.taken c.look.new.wire) _ at.taken c.look.ensures.taken;
      going = at.going;
      hearing = hearing_silent at.hearing (g.W.Wire.given c.look.new.wire) (c.in-Nothing.ensures.given);
      deaf = deaf_after false false (g.W.Ear.misses c.args.self.now.coming) (g.W.Ear.misses c.loop.self.coming) (g.W.Ear.misses c.look.new.wire) at.deaf c.in-Nothing.ensures.deaf;
    }

pub loop-preserved-then-length-self : goal.loop-preserved-then-length-self
loop-preserved-then-length-self g c =
    let at = c.loop.invariant in let one = c.in-Datagram in
    let came = datagram one.source (take one.length c.look.new.octets) in
    let gave : Grows (g.W.Wire.given c.loop.self.coming) (g.W.Wire.given c.look.new.wire) (came ∷ []) = c.in-Datagram.ensures.given in
    let within = c.in-Datagram.ensures.came in
    let long : false ≡ nat_le one.length c.args.self.now.longest = sym (lt-leb one.length c.loop.self.longest c.if-length-self.true) ∙ ap (λ k. nat_le one.length k) at.longest in record {
      still_open = at.still_open;
      seats = at.seats;
      longest = at.longest;
      taken = grows_same (g.W.Wire.taken c.args.self.now.coming) (g.W.Wire.taken c.loop.self.coming) (g.W.Wire.taken c.look.new.wire) _ at.taken c.look.ensures.taken;
      going = at.going;
      hearing = hearing_long at.hearing (g.W.Wire.given c.look.new.wire) came gave
          (short_is c.args.self.now.longest one.length one.source c.look.new.octets false within long);
      deaf = deaf_after false false (g.W.Ear.misses c.args.self.now.coming) (g.W.Ear.misses c.loop.self.coming) (g.W.Ear.misses c.look.new.wire) at.deaf c.in-Datagram.ensures.deaf;
    }

pub returns-then-not-take_one-clause-served : goal.returns-then-not-take_one-clause-served
returns-then-not-take_one-clause-served g c =
    let at = c.loop.invariant in let one = c.in-Datagram in
    let octets = take one.length c.look.new.octets in
    let came = datagram one.source octets in
    let gave : Grows (g.W.Wire.given c.loop.self.coming) (g.W.Wire.given c.look.new.wire) (came ∷ []) = c.in-Datagram.ensures.given in
    let within = c.in-Datagram.ensures.came in
    let fits : true ≡ nat_le one.length c.args.self.now.longest = sym (le-leb one.length c.loop.self.longest c.if-length-self.false) ∙ ap (λ k. nat_le one.length k) at.longest in
    let short = short_is c.args.self.now.longest one.length one.source c.look.new.octets true within fits in
    let later : c.loop.moment ≤ c.max-moment.result = omega (arith, c.max-moment.ensures) in
    let mine = c.take_one.new.self in
    rw c.take_one.ensures.coming
    (served_taken at.hearing one.source octets c.max-moment.result mine.admission c.take_one.new.port (g.W.Wire.given c.look.new.wire)
    (g.W.Wire.taken mine.going) (g.W.Wire.failures mine.going) true gave short later
    (rw c.if-not-take_one.true at c.take_one.ensures.taken) refl)

pub returns-then-not-take_one-clause-taken : goal.returns-then-not-take_one-clause-taken
returns-then-not-take_one-clause-taken g c =
    let at = c.loop.invariant in rw c.take_one.ensures.coming (grows_same (g.W.Wire.taken c.args.self.now.coming) (g.W.Wire.taken c.loop.self.coming) (g.W.Wire.taken c.look.new.wire) _ at.taken c.look.ensures.taken)

pub returns-then-not-take_one-clause-going : goal.returns-then-not-take_one-clause-going
returns-then-not-take_one-clause-going g c =
    let at = c.loop.invariant in grows_same (g.W.Wire.given c.args.self.now.going) (g.W.Wire.given c.loop.self.going) (g.W.Wire.given c.take_one.new.self.going) _ at.going c.take_one.ensures.given

pub returns-then-not-take_one-clause-deaf : goal.returns-then-not-take_one-clause-deaf
returns-then-not-take_one-clause-deaf g c = rw c.take_one.ensures.coming (deaf_after false false (g.W.Ear.misses c.args.self.now.coming) (g.W.Ear.misses c.loop.self.coming) (g.W.Ear.misses c.look.new.wire) c.loop.invariant.deaf c.in-Datagram.ensures.deaf)

pub loop-preserved : goal.loop-preserved
loop-preserved g c =
    let at = c.loop.invariant in let one = c.in-Datagram in
    let octets = take one.length c.look.new.octets in
    let came = datagram one.source octets in
    let gave : Grows (g.W.Wire.given c.loop.self.coming) (g.W.Wire.given c.look.new.wire) (came ∷ []) = c.in-Datagram.ensures.given in
    let within = c.in-Datagram.ensures.came in
    let fits : true ≡ nat_le one.length c.args.self.now.longest = sym (le-leb one.length c.loop.self.longest c.if-length-self.false) ∙ ap (λ k. nat_le one.length k) at.longest in
    let short = short_is c.args.self.now.longest one.length one.source c.look.new.octets true within fits in
    let later : c.loop.moment ≤ c.max-moment.result = omega (arith, c.max-moment.ensures) in
    let mine = c.take_one.new.self in
    let hearing = hearing_taken at.hearing one.source octets c.max-moment.result mine.admission c.take_one.new.port (g.W.Wire.given c.look.new.wire)
    (g.W.Wire.taken mine.going) (g.W.Wire.failures mine.going) false gave short later
    (rw c.if-not-take_one.false at c.take_one.ensures.taken) refl in record {
      still_open = hearing_open hearing ∙ c.requires.still_open;
      seats = c.take_one.ensures.seats ∙ at.seats;
      longest = c.take_one.ensures.longest ∙ at.longest;
      hearing = rw c.take_one.ensures.coming hearing;
      taken = rw c.take_one.ensures.coming (grows_same (g.W.Wire.taken c.args.self.now.coming) (g.W.Wire.taken c.loop.self.coming) (g.W.Wire.taken c.look.new.wire) _ at.taken c.look.ensures.taken);
      going = grows_same (g.W.Wire.given c.args.self.now.going) (g.W.Wire.given c.loop.self.going) (g.W.Wire.given mine.going) _ at.going c.take_one.ensures.given;
      deaf = rw c.take_one.ensures.coming (deaf_after false false (g.W.Ear.misses c.args.self.now.coming) (g.W.Ear.misses c.loop.self.coming) (g.W.Ear.misses c.look.new.wire) at.deaf c.in-Datagram.ensures.deaf);
    }

pub returns-in-End-clause-deaf : goal.returns-in-End-clause-deaf
returns-in-End-clause-deaf g c = deaf_after false (is_fault c.in-End.end) (g.W.Ear.misses c.args.self.now.coming) (g.W.Ear.misses c.loop.self.coming) (g.W.Ear.misses c.look.new.wire) c.loop.invariant.deaf c.in-End.ensures.deaf
