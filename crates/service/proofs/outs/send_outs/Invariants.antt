use Rattle.std.proofs.Common.{◌≡◌, ◌⊎◌, List, true}
use Rattle.feeds.specs.declared.sending.EmitReport.{EmitReport}
use Rattle.feeds.specs.Emitted.{wire_seen, writer_seen, count, fails_to_start}
use Rattle.transactions.specs.Runs.{state_after}
use Rattle.service.specs.Sending.{Act, calls, fates, Does}
use Rattle.service.specs.Keeping.{AreKept}
use Rattle.service.specs.Releasing.{AreHeld, waits}
use Rattle.service.proofs.Departing.{Ahead}
use Rattle.service.proofs.outs.send_outs.Given as goal

abbrev pub invariant-loop : goal.invariant-loop
invariant-loop g l = record {
  acts : List Act;
  report : EmitReport;
  ahead : Ahead acts l.departing.outs.items l.fn.outgoing.taker l.outgoing.taker l.left (g.W.Wire.given l.fn.exit.wire) (g.W.Wire.given l.exit.wire)
      (writer_seen g.F.Write.contents l.fn.exit.sink) (writer_seen g.F.Write.contents l.exit.sink) report;
  does : Does acts l.fn.outgoing.waiting.transactions (state_after (calls acts) l.fn.outgoing.waiting.transactions)
      (wire_seen g.W.Wire.taken g.W.Wire.failures l.fn.exit.wire) (wire_seen g.W.Wire.taken g.W.Wire.failures l.exit.wire);
  kept : AreKept l.fn.outgoing.waiting.transactions l.fn.outgoing.waiting.watchers.rows acts l.outgoing.waiting;
  held : AreHeld acts (waits l.outgoing.waiting.contacts);
  flushed : count fails_to_start (fates acts) ≡ 0 → (l.exit.sink ≡ l.fn.exit.sink) ⊎ (l.exit.sink.is_flushed ≡ true);
}
