use Rattle.std.proofs.Common.{◌≡◌, []}
use Rattle.crew.specs.Kept.{SameSeats}
use Rattle.transport.specs.Wires.{Grows}
use Rattle.feeds.proofs.Fed.{Feeding}
use Rattle.feeds.proofs.feeding.listen.Given as goal

abbrev pub invariant-loop-seen : goal.invariant-loop-seen
invariant-loop-seen g l = record {
  fed : Feeding l.fn.language l.fn.port l.port (g.W.Wire.given l.fn.wire) (g.W.Wire.given l.wire) l.seen l.unread;
  taken : Grows (g.W.Wire.taken l.fn.wire) (g.W.Wire.taken l.wire) [];
  failures : g.W.Wire.failures l.wire ≡ g.W.Wire.failures l.fn.wire;
  seats : SameSeats l.fn.port l.port;
}
