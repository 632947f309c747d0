use Rattle.std.proofs.Common.{◌≡◌, ◌∙◌, ◌∷◌, [], refl, ap, sym, subst, take, arith, false, true}
use Rattle.transport.specs.Wires.{Grows, datagram}
use Rattle.feeds.specs.Fed.{is_fault}
use Rattle.feeds.proofs.Telling.{grows_none, grows_same}
use Rattle.service.specs.Taken.{DeskSeen, IsTaken, MayReply, seen}
use Rattle.service.proofs.Deafness.{deaf_same, deaf_after, no_fault_after}
use Rattle.service.proofs.Taking.{taken_hearing, taking_none, taking_more, taking_silent, taken_last, taken_end, taking_open}
use Rattle.service.proofs.lines.ControlDesk.take_lines.Goals as goal

pub loop-init : goal.loop-init
loop-init g c = record {
  still_open = c.requires.still_open;
  seats = refl;
  hearing = refl;
  coming = grows_none (g.W.Wire.taken c.args.self.now.coming);
  deaf = deaf_same (g.W.Ear.misses c.args.self.now.coming);
  going = grows_none (g.W.Wire.given c.args.self.now.going);
  taking = taking_none (seen c.args.self.now) c.args.port.now (g.W.Wire.given c.args.self.now.coming)
      (g.W.Wire.taken c.args.self.now.going) (g.W.Wire.failures c.args.self.now.going);
}

pub returns-in-End-clause-taken : goal.returns-in-End-clause-taken
returns-in-End-clause-taken g c = taken_end c.loop.invariant.taking (g.W.Wire.given c.look.new.wire) c.in-End.ensures.given c.in-End.end c.in-End.ensures.came

pub loop-preserved-in-Nothing : goal.loop-preserved-in-Nothing
loop-preserved-in-Nothing g c =
    let at = c.loop.invariant in record {
      still_open = at.still_open;
      seats = at.seats;
      hearing = at.hearing;
      coming = grows_same (g.W.Wire.taken c.args.self.now.coming) (g.W.Wire.taken c.loop.self.coming) (g.W.Wire.taken c.look.new.wire) _ at.coming c.look.ensures.taken;
      deaf = deaf_after false false (g.W.Ear.misses c.args.self.now.coming) (g.W.Ear.misses c.loop.self.coming) (g.W.Ear.misses c.look.new.wire) at.deaf c.in-Nothing.ensures.deaf;
      going = at.going;
      taking = taking_silent at.taking (g.W.Wire.given c.look.new.wire) (c.in-Nothing.ensures.given);
    }

pub returns-in-Some-end_after-clause-taken : goal.returns-in-Some-end_after-clause-taken
returns-in-Some-end_after-clause-taken g c =
    let at = c.loop.invariant in let one = c.in-Datagram in
    let came = datagram one.source (take one.length c.look.new.octets) in
    let after = g.W.Wire.given c.answer.new.self.coming in
    let first : Grows (g.W.Wire.given c.loop.self.coming) (g.W.Wire.given c.look.new.wire) (came ∷ []) = c.in-Datagram.ensures.given in
    let gave : Grows (g.W.Wire.given c.loop.self.coming) after (came ∷ []) = rw (c.answer.ensures.coming, c.take-done.ensures.coming) first in
    let is : IsTaken came.peer came.octets (seen c.loop.self) (seen c.answer.new.self) c.loop.port c.take-done.new.port c.take-done.result =
    subst (λ (s : DeskSeen). IsTaken came.peer came.octets (seen c.loop.self) s c.loop.port c.take-done.new.port c.take-done.result) (sym c.answer.ensures.seen) c.take-done.ensures.done in
    let replied = c.answer.ensures.answered in
    let said = rw c.take-done.ensures.going at replied.2 in
    let may = subst (λ (s : DeskSeen). MayReply s c.take-done.result replied.0) (sym c.answer.ensures.seen) replied.1 in
    taken_last at.taking c.take-done.new.port after (g.W.Wire.taken c.answer.new.self.going) (g.W.Wire.failures c.answer.new.self.going)
    came replied.0 gave c.take-done.result c.in-Some-end_after.end (seen c.answer.new.self) (sym c.end_after.ensures ∙ c.in-Some-end_after.is) is may said

pub returns-in-Some-end_after-clause-deaf : goal.returns-in-Some-end_after-clause-deaf
returns-in-Some-end_after-clause-deaf g c =
    rw (c.answer.ensures.coming, c.take-done.ensures.coming, no_fault_after c.take-done.result c.in-Some-end_after.end (sym c.end_after.ensures ∙ c.in-Some-end_after.is))
    (deaf_after false false (g.W.Ear.misses c.args.self.now.coming) (g.W.Ear.misses c.loop.self.coming) (g.W.Ear.misses c.look.new.wire) c.loop.invariant.deaf c.in-Datagram.ensures.deaf)

pub loop-preserved : goal.loop-preserved
loop-preserved g c =
    let at = c.loop.invariant in let one = c.in-Datagram in
    let came = datagram one.source (take one.length c.look.new.octets) in
    let after = g.W.Wire.given c.answer.new.self.coming in
    let first : Grows (g.W.Wire.given c.loop.self.coming) (g.W.Wire.given c.look.new.wire) (came ∷ []) = c.in-Datagram.ensures.given in
    let gave : Grows (g.W.Wire.given c.loop.self.coming) after (came ∷ []) = rw (c.answer.ensures.coming, c.take-done.ensures.coming) first in
    let is : IsTaken came.peer came.octets (seen c.loop.self) (seen c.answer.new.self) c.loop.port c.take-done.new.port c.take-done.result =
    subst (λ (s : DeskSeen). IsTaken came.peer came.octets (seen c.loop.self) s c.loop.port c.take-done.new.port c.take-done.result) (sym c.answer.ensures.seen) c.take-done.ensures.done in
    let replied = c.answer.ensures.answered in
    let said = rw c.take-done.ensures.going at replied.2 in
    let may = subst (λ (s : DeskSeen). MayReply s c.take-done.result replied.0) (sym c.answer.ensures.seen) replied.1 in
    let on = sym c.end_after.ensures ∙ c.in_default.is in
    let taking = taking_more at.taking c.take-done.new.port after (g.W.Wire.taken c.answer.new.self.going) (g.W.Wire.failures c.answer.new.self.going)
    came replied.0 gave (seen c.answer.new.self) c.take-done.result is may said on in record {
      still_open = taking_open taking ∙ c.requires.still_open;
      seats = c.take-done.ensures.seats ∙ at.seats;
      hearing = ap (λ (s : DeskSeen). s.hearing) c.answer.ensures.seen
          ∙ taken_hearing c.in-Datagram.source (take c.in-Datagram.length c.look.new.octets) (seen c.loop.self) (seen c.take-done.new.self) c.loop.port c.take-done.new.port c.take-done.result c.take-done.ensures.done ∙ at.hearing;
      coming = rw (c.answer.ensures.coming, c.take-done.ensures.coming) (grows_same (g.W.Wire.taken c.args.self.now.coming) (g.W.Wire.taken c.loop.self.coming) (g.W.Wire.taken c.look.new.wire) _ at.coming c.look.ensures.taken);
      deaf = rw (c.answer.ensures.coming, c.take-done.ensures.coming) (deaf_after false false (g.W.Ear.misses c.args.self.now.coming) (g.W.Ear.misses c.loop.self.coming) (g.W.Ear.misses c.look.new.wire) at.deaf c.in-Datagram.ensures.deaf);
      going = grows_same (g.W.Wire.given c.args.self.now.going) (g.W.Wire.given c.loop.self.going) (g.W.Wire.given c.answer.new.self.going) _ at.going (rw c.take-done.ensures.going at c.answer.ensures.given);
      taking = taking;
    }

pub returns-in-End-clause-deaf : goal.returns-in-End-clause-deaf
returns-in-End-clause-deaf g c = deaf_after false (is_fault c.in-End.end) (g.W.Ear.misses c.args.self.now.coming) (g.W.Ear.misses c.loop.self.coming) (g.W.Ear.misses c.look.new.wire) c.loop.invariant.deaf c.in-End.ensures.deaf

pub returns-in-Some-end_after-clause-hearing : goal.returns-in-Some-end_after-clause-hearing
returns-in-Some-end_after-clause-hearing g c =
    let at = c.loop.invariant in ap (λ (s : DeskSeen). s.hearing) c.answer.ensures.seen
    ∙ taken_hearing c.in-Datagram.source (take c.in-Datagram.length c.look.new.octets) (seen c.loop.self) (seen c.take-done.new.self) c.loop.port c.take-done.new.port c.take-done.result c.take-done.ensures.done ∙ at.hearing
