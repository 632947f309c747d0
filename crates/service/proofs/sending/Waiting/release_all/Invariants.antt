use Rattle.std.proofs.Common.{◌≡◌, ◌++◌, List, []}
use Rattle.std.specs.Vec.Iter.{into_iter_items}
use Rattle.transport.specs.Wires.{Grows}
use Rattle.feeds.specs.Emitted.{wire_seen}
use Rattle.service.specs.Sending.{Act, fates, Does}
use Rattle.service.specs.Watched.{AreRowed}
use Rattle.service.specs.Releasing.{AreReleased, Fewer, waits}
use Rattle.service.proofs.sending.Waiting.release_all.Given as goal

abbrev pub invariant-loop-notice : goal.invariant-loop-notice
invariant-loop-notice g l = record {
  acts : List Act;
  whole : l.yielded ++ into_iter_items l.notice-iterator ≡ l.fn.late.through.items;
  released : AreReleased l.fn.late.now l.yielded acts;
  none : fates acts ≡ [];
  does : Does acts l.fn.self.transactions l.self.transactions
      (wire_seen g.W.Wire.taken g.W.Wire.failures l.fn.wire) (wire_seen g.W.Wire.taken g.W.Wire.failures l.wire);
  rowed : AreRowed acts l.fn.self.watchers.rows l.self.watchers.rows;
  given : Grows (g.W.Wire.given l.fn.wire) (g.W.Wire.given l.wire) [];
  burst : l.self.burst ≡ l.fn.self.burst;
  fewer : Fewer (waits l.fn.self.contacts) (waits l.self.contacts);
}
