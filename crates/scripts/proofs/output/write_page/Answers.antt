use Rattle.std.proofs.Common.{◌≡◌, ℕ, ◌≤◌, ◌+◌, List, length, take, drop, arith, ◌∙◌}
use Rattle.std.proofs.Math.Seq.{take-add}
use Rattle.std.proofs.lemmas.List.{length-drop}
use Rattle.transport.proofs.Devices.{appends_more, took_some}
use Rattle.scripts.proofs.output.write_page.Goals as goal

pub loop-sent-preserved : goal.loop-sent-preserved
loop-sent-preserved g c =
    let page : List ℕ = c.args.page.now in
    let n : ℕ = c.in-Ok.count in
    let rest : c.split_at.result.1.now ≡ drop c.loop-sent.sent page = c.split_at.ensures.back in
    let took = rw rest at c.in-Ok.ensures.bytes in
    let within : c.loop-sent.sent + n ≤ length page = omega (arith, rw rest at c.in-Ok.ensures.bound, length-drop c.loop-sent.sent page) in
    record {
      appended = rw (take-add c.loop-sent.sent n page) (appends_more (g.W.Write.contents c.args.sink.now.writer) (g.W.Write.contents c.loop-sent.sink.writer) (g.W.Write.contents c.write.new.self.writer)
          (take c.loop-sent.sent page) (take n (drop c.loop-sent.sent page)) c.loop-sent.invariant.appended took);
      within = within;
      same = c.in-Ok.ensures.counted ∙ took_some n _ _ c.loop-sent.sink.failures c.if-count-eq0.false ∙ c.loop-sent.invariant.same;
    }
