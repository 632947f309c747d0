use Rattle.std.proofs.Common.{◌++◌, ◌∷◌, [], refl, take, false}
use Rattle.transport.specs.Wires.{Grows, datagram}
use Rattle.feeds.specs.Fed.{is_fault}
use Rattle.feeds.proofs.Telling.{grows_none, grows_more, grows_same}
use Rattle.service.proofs.Deafness.{deaf_same, deaf_after}
use Rattle.service.proofs.datagrams.SipDesk.hear_answers.Goals as goal

pub loop-init : goal.loop-init
loop-init g c = record {
  came = [];
  longest = refl;
  going = refl;
  admission = refl;
  given = grows_none (g.W.Wire.given c.args.self.now.coming);
  taken = grows_none (g.W.Wire.taken c.args.self.now.coming);
  deaf = deaf_same (g.W.Ear.misses c.args.self.now.coming);
}

pub loop-preserved-in-Some-hear_late : goal.loop-preserved-in-Some-hear_late
loop-preserved-in-Some-hear_late g c =
    let at = c.loop.invariant in let one = c.in-Datagram in
    let came = datagram one.source (take one.length c.look.new.octets) in
    let gave : Grows (g.W.Wire.given c.loop.self.coming) (g.W.Wire.given c.look.new.wire) (came ∷ []) = c.in-Datagram.ensures.given in record {
      came = at.came ++ came ∷ [];
      longest = at.longest;
      going = at.going;
      admission = at.admission;
      given = grows_more (g.W.Wire.given c.args.self.now.coming) (g.W.Wire.given c.loop.self.coming) (g.W.Wire.given c.look.new.wire) _ _ at.given gave;
      taken = grows_same (g.W.Wire.taken c.args.self.now.coming) (g.W.Wire.taken c.loop.self.coming) (g.W.Wire.taken c.look.new.wire) _ at.taken c.look.ensures.taken;
      deaf = deaf_after false false (g.W.Ear.misses c.args.self.now.coming) (g.W.Ear.misses c.loop.self.coming) (g.W.Ear.misses c.look.new.wire) at.deaf c.in-Datagram.ensures.deaf;
    }

pub loop-preserved-in_default : goal.loop-preserved-in_default
loop-preserved-in_default g c =
    let at = c.loop.invariant in let one = c.in-Datagram in
    let came = datagram one.source (take one.length c.look.new.octets) in
    let gave : Grows (g.W.Wire.given c.loop.self.coming) (g.W.Wire.given c.look.new.wire) (came ∷ []) = c.in-Datagram.ensures.given in record {
      came = at.came ++ came ∷ [];
      longest = at.longest;
      going = at.going;
      admission = at.admission;
      given = grows_more (g.W.Wire.given c.args.self.now.coming) (g.W.Wire.given c.loop.self.coming) (g.W.Wire.given c.look.new.wire) _ _ at.given gave;
      taken = grows_same (g.W.Wire.taken c.args.self.now.coming) (g.W.Wire.taken c.loop.self.coming) (g.W.Wire.taken c.look.new.wire) _ at.taken c.look.ensures.taken;
      deaf = deaf_after false false (g.W.Ear.misses c.args.self.now.coming) (g.W.Ear.misses c.loop.self.coming) (g.W.Ear.misses c.look.new.wire) at.deaf c.in-Datagram.ensures.deaf;
    }

pub loop-preserved : goal.loop-preserved
loop-preserved g c =
    let at = c.loop.invariant in record {
      came = at.came;
      longest = at.longest;
      going = at.going;
      admission = at.admission;
      given = grows_same (g.W.Wire.given c.args.self.now.coming) (g.W.Wire.given c.loop.self.coming) (g.W.Wire.given c.look.new.wire) _ at.given (c.in-Nothing.ensures.given);
      taken = grows_same (g.W.Wire.taken c.args.self.now.coming) (g.W.Wire.taken c.loop.self.coming) (g.W.Wire.taken c.look.new.wire) _ at.taken c.look.ensures.taken;
      deaf = deaf_after false false (g.W.Ear.misses c.args.self.now.coming) (g.W.Ear.misses c.loop.self.coming) (g.W.Ear.misses c.look.new.wire) at.deaf c.in-Nothing.ensures.deaf;
    }

pub returns-in-End-clause-given : goal.returns-in-End-clause-given
returns-in-End-clause-given g c =
    (c.loop.invariant.came, grows_same (g.W.Wire.given c.args.self.now.coming) (g.W.Wire.given c.loop.self.coming) (g.W.Wire.given c.look.new.wire) _ c.loop.invariant.given c.in-End.ensures.given)

pub returns-in-End-clause-deaf : goal.returns-in-End-clause-deaf
returns-in-End-clause-deaf g c = rw c.is_fault.ensures (deaf_after false (is_fault c.in-End.end) (g.W.Ear.misses c.args.self.now.coming) (g.W.Ear.misses c.loop.self.coming) (g.W.Ear.misses c.look.new.wire) c.loop.invariant.deaf c.in-End.ensures.deaf)
