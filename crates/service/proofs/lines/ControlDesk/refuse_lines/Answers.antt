use Rattle.std.proofs.Common.{◌≡◌, ◌∙◌, ◌∷◌, [], refl, sym, subst, take, false, true}
use Rattle.service.specs.Taken.{DeskSeen, is_line, operators_in}
use Rattle.transport.specs.Wires.{Grows, datagram}
use Rattle.feeds.specs.Fed.{is_fault}
use Rattle.feeds.proofs.Telling.{grows_none, grows_same}
use Rattle.service.proofs.Deafness.{deaf_same, deaf_after}
use Rattle.service.proofs.Refusing.{refusing_none, refusing_blank, refusing_more, refusing_silent}
use Rattle.service.proofs.lines.ControlDesk.refuse_lines.Goals as goal

pub loop-init : goal.loop-init
loop-init g c = record {
  seen = refl;
  coming = grows_none (g.W.Wire.taken c.args.self.now.coming);
  deaf = deaf_same (g.W.Ear.misses c.args.self.now.coming);
  going = grows_none (g.W.Wire.given c.args.self.now.going);
  refusing = refusing_none (operators_in c.args.self.now.operators) (g.W.Wire.given c.args.self.now.coming) (g.W.Wire.taken c.args.self.now.going) (g.W.Wire.failures c.args.self.now.going);
}

pub returns-in-End-clause-refused : goal.returns-in-End-clause-refused
returns-in-End-clause-refused g c = refusing_silent c.loop.invariant.refusing (g.W.Wire.given c.look.new.wire) c.in-End.ensures.given

pub loop-preserved : goal.loop-preserved
loop-preserved g c =
    let at = c.loop.invariant in record {
      seen = at.seen;
      coming = grows_same (g.W.Wire.taken c.args.self.now.coming) (g.W.Wire.taken c.loop.self.coming) (g.W.Wire.taken c.look.new.wire) _ at.coming c.look.ensures.taken;
      deaf = deaf_after false false (g.W.Ear.misses c.args.self.now.coming) (g.W.Ear.misses c.loop.self.coming) (g.W.Ear.misses c.look.new.wire) at.deaf c.in-Nothing.ensures.deaf;
      going = at.going;
      refusing = refusing_silent at.refusing (g.W.Wire.given c.look.new.wire) (c.in-Nothing.ensures.given);
    }

pub loop-preserved-then-owes : goal.loop-preserved-then-owes
loop-preserved-then-owes g c =
    let at = c.loop.invariant in let one = c.in-Datagram in
    let came = datagram one.source (take one.length c.look.new.octets) in
    let first : Grows (g.W.Wire.given c.loop.self.coming) (g.W.Wire.given c.look.new.wire) (came ∷ []) = c.in-Datagram.ensures.given in
    let after = g.W.Wire.given c.say.new.self.coming in
    let gave : Grows (g.W.Wire.given c.loop.self.coming) after (came ∷ []) = rw c.say.ensures.coming first in record {
      seen = c.say.ensures.seen ∙ at.seen;
      coming = rw c.say.ensures.coming (grows_same (g.W.Wire.taken c.args.self.now.coming) (g.W.Wire.taken c.loop.self.coming) (g.W.Wire.taken c.look.new.wire) _ at.coming c.look.ensures.taken);
      deaf = rw c.say.ensures.coming (deaf_after false false (g.W.Ear.misses c.args.self.now.coming) (g.W.Ear.misses c.loop.self.coming) (g.W.Ear.misses c.look.new.wire) at.deaf c.in-Datagram.ensures.deaf);
      going = grows_same (g.W.Wire.given c.args.self.now.going) (g.W.Wire.given c.loop.self.going) (g.W.Wire.given c.say.new.self.going) _ at.going c.say.ensures.given;
      refusing = refusing_more at.refusing after came gave (g.W.Wire.taken c.say.new.self.going) (g.W.Wire.failures c.say.new.self.going)
          (subst (λ (desk : DeskSeen). is_line desk.hearing came ≡ true) at.seen (sym c.owes.ensures ∙ c.if-owes.true)) c.say.ensures.offered;
    }

pub loop-preserved-else-owes : goal.loop-preserved-else-owes
loop-preserved-else-owes g c =
    let at = c.loop.invariant in let one = c.in-Datagram in
    let came = datagram one.source (take one.length c.look.new.octets) in
    let first : Grows (g.W.Wire.given c.loop.self.coming) (g.W.Wire.given c.look.new.wire) (came ∷ []) = c.in-Datagram.ensures.given in record {
      seen = at.seen;
      coming = grows_same (g.W.Wire.taken c.args.self.now.coming) (g.W.Wire.taken c.loop.self.coming) (g.W.Wire.taken c.look.new.wire) _ at.coming c.look.ensures.taken;
      deaf = deaf_after false false (g.W.Ear.misses c.args.self.now.coming) (g.W.Ear.misses c.loop.self.coming) (g.W.Ear.misses c.look.new.wire) at.deaf c.in-Datagram.ensures.deaf;
      going = at.going;
      refusing = refusing_blank at.refusing (g.W.Wire.given c.look.new.wire) came first
          (subst (λ (desk : DeskSeen). is_line desk.hearing came ≡ false) at.seen (sym c.owes.ensures ∙ c.if-owes.false));
    }

pub returns-in-End-clause-deaf : goal.returns-in-End-clause-deaf
returns-in-End-clause-deaf g c = rw c.is_fault.ensures (deaf_after false (is_fault c.in-End.end) (g.W.Ear.misses c.args.self.now.coming) (g.W.Ear.misses c.loop.self.coming) (g.W.Ear.misses c.look.new.wire) c.loop.invariant.deaf c.in-End.ensures.deaf)
