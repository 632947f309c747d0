use Rattle.std.proofs.Common.{◌≡◌, ℕ, ◌≤◌, ◌+◌, List, length, take, drop, arith, ◌∙◌}
use Rattle.std.proofs.Math.Seq.{take-add}
use Rattle.std.proofs.lemmas.List.{length-drop}
use Rattle.transport.proofs.Devices.{appends_more, took_some}
use Rattle.feeds.proofs.writing.write_whole.Goals as goal

pub loop-written-preserved : goal.loop-written-preserved
loop-written-preserved g c =
    let page : List ℕ = c.args.bytes.now in
    let n : ℕ = c.in-Ok.count in
    let rest : c.split_at.result.1.now ≡ drop c.loop-written.written page = c.split_at.ensures.back in
    let took = rw rest at c.in-Ok.ensures.bytes in
    let within : c.loop-written.written + n ≤ length page = omega (arith, rw rest at c.in-Ok.ensures.bound, length-drop c.loop-written.written page) in
    record {
      appended = rw (take-add c.loop-written.written n page) (appends_more (g.F.Write.contents c.args.sink.now.writer) (g.F.Write.contents c.loop-written.sink.writer) (g.F.Write.contents c.write.new.self.writer)
          (take c.loop-written.written page) (take n (drop c.loop-written.written page)) c.loop-written.invariant.appended took);
      within = within;
      same = c.in-Ok.ensures.counted ∙ took_some n _ _ c.loop-written.sink.failures c.if-count-eq0.false ∙ c.loop-written.invariant.same;
    }
