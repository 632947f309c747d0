use Rattle.std.proofs.Common.{◌≡◌, List, []}
use Rattle.feeds.specs.Emitted.{WireSeen}
use Rattle.service.specs.Sending.{Act, fates, Does}
use Rattle.service.specs.Watched.{AreRowed}
use Rattle.service.specs.Releasing.{HoldsOn, waits}
use Rattle.service.proofs.sending.Waiting.end_all.Given as goal

abbrev pub invariant-loop-tag : goal.invariant-loop-tag
invariant-loop-tag g l = record {
  acts : List Act;
  none : fates acts ≡ [];
  does : (wire : WireSeen) → Does acts l.fn.self.transactions l.self.transactions wire wire;
  rowed : AreRowed acts l.fn.self.watchers.rows l.self.watchers.rows;
  burst : l.self.burst ≡ l.fn.self.burst;
  holds : HoldsOn acts (waits l.fn.self.contacts) (waits l.self.contacts);
}
