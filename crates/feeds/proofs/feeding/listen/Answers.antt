use Rattle.std.proofs.Common.{◌∙◌, ℕ, ◌+◌, refl, subst, sym, take}
use Rattle.transport.specs.Wires.{Grows, datagram}
use Rattle.feeds.specs.declared.feeding.FeedReport.{FeedReport}
use Rattle.feeds.specs.Fed.{Log, datagrams, IsFed}
use Rattle.feeds.proofs.Telling.{grows_none, grows_same}
use Rattle.feeds.proofs.Fed.{Feeding, feeding_none, step_sent, step_unread, step_close, step_gone}
use Rattle.feeds.proofs.feeding.listen.Goals as goal
use Rattle.feeds.proofs.feeding.listen.Goals.{in-Sent, in-Unread}

pub loop-seen-init : goal.loop-seen-init
loop-seen-init g c = record {
  fed = feeding_none c.args.language c.args.port.now (g.W.Wire.given c.args.wire.now);
  taken = grows_none (g.W.Wire.taken c.args.wire.now);
  failures = refl;
  seats = refl;
}

pub loop-seen-preserved : goal.loop-seen-preserved
loop-seen-preserved g c =
    let at = c.loop-seen.invariant in
    let next = c.tell.new.port in
    let after = g.W.Wire.given c.recv.new.self in
    let came = datagram c.in-Ok.source (take c.in-Ok.length c.recv.new.octets) in
    let heard = c.hear-heard.result in
    let P : ℕ → Type 0 = λ m. Feeding c.args.language c.args.port.now next (g.W.Wire.given c.args.wire.now) after (c.loop-seen.seen + 1) m in
    record {
      fed = elim c.match-tell.branch [
        | in-Sent w ↦ subst P (sym w.unread-is) (step_sent at.fed next after came heard c.in-Ok.ensures.given c.hear-heard.ensures w.in-Sent.ensures.told)
        | in-Unread w ↦ subst P (sym w.unread-is) (step_unread at.fed next after came heard c.in-Ok.ensures.given c.hear-heard.ensures w.in-Unread.ensures.told)
      ];
      taken = grows_same (g.W.Wire.taken c.args.wire.now) (g.W.Wire.taken c.loop-seen.wire) (g.W.Wire.taken c.recv.new.self) _ at.taken c.recv.ensures.taken;
      failures = c.in-Ok.ensures.counted ∙ at.failures;
      seats = c.tell.ensures.seats ∙ at.seats;
    }

pub returns-in-Close-clause-fed : goal.returns-in-Close-clause-fed
returns-in-Close-clause-fed g c =
    let next = c.tell.new.port in
    let after = g.W.Wire.given c.recv.new.self in
    let came = datagram c.in-Ok.source (take c.in-Ok.length c.recv.new.octets) in
    let P : FeedReport → Type 0 = λ r. (log : Log) × Grows (g.W.Wire.given c.args.wire.now) after (datagrams log) × IsFed c.args.language c.args.count log c.args.port.now next r in
    subst P (sym c.new-in-Close.ensures)
    (step_close c.loop-seen.invariant.fed c.args.count c.loop-seen-test.true next after came c.hear-heard.result c.in-Ok.ensures.given c.hear-heard.ensures c.in-Close.ensures.told)

pub returns-in-Gone-clause-fed : goal.returns-in-Gone-clause-fed
returns-in-Gone-clause-fed g c =
    let next = c.tell.new.port in
    let after = g.W.Wire.given c.recv.new.self in
    let came = datagram c.in-Ok.source (take c.in-Ok.length c.recv.new.octets) in
    let P : FeedReport → Type 0 = λ r. (log : Log) × Grows (g.W.Wire.given c.args.wire.now) after (datagrams log) × IsFed c.args.language c.args.count log c.args.port.now next r in
    subst P (sym c.new-in-Gone.ensures)
    (step_gone c.loop-seen.invariant.fed c.args.count c.loop-seen-test.true next after came c.hear-heard.result c.in-Ok.ensures.given c.hear-heard.ensures c.in-Gone.ensures.told)
