use Rattle.std.proofs.Common.{◌≡◌, ◌⊎◌, true}
use Rattle.feeds.specs.Emitted.{Fates, wire_seen, writer_seen, count, fails_to_start, is_held}
use Rattle.feeds.proofs.Emitting.{Running, HasSent}
use Rattle.feeds.proofs.sending.emit.Given as goal

abbrev pub invariant-loop : goal.invariant-loop
invariant-loop g l = record {
  log : Fates;
  running : Running log l.fn.taker l.taker l.left (g.W.Wire.given l.fn.wire) (g.W.Wire.given l.wire)
      (writer_seen g.F.Write.contents l.fn.sink) (writer_seen g.F.Write.contents l.sink) l.report;
  sent : HasSent log (wire_seen g.W.Wire.taken g.W.Wire.failures l.fn.wire) (wire_seen g.W.Wire.taken g.W.Wire.failures l.wire);
  flushed : count fails_to_start log ≡ 0 → (l.sink ≡ l.fn.sink) ⊎ (l.sink.is_flushed ≡ true);
  none_held : count (λ o fate. is_held fate) log ≡ 0;
}
