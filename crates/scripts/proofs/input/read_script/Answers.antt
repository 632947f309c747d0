use Rattle.std.proofs.Common.{ℕ, ◌<◌, List, ◌++◌, length, take, arith}
use Rattle.std.proofs.lemmas.List.{length-append}
use Rattle.transport.proofs.Devices.{consumes_more}
use Rattle.scripts.proofs.input.read_script.Goals as goal

pub returns-then-count-len-clause-too_long : goal.returns-then-count-len-clause-too_long
returns-then-count-len-clause-too_long g c = λ _.
    let piece : List ℕ = take c.in-Ok.count c.read.new.buf in
    let more : 1048576 < length (c.loop.script.items ++ piece) =
    omega (arith, length-append c.loop.script.items piece, c.in-Ok.ensures.bound.1, c.loop.script.ok.0) in (
      c.loop.script.items ++ piece,
      consumes_more (g.R.Read.remaining c.args.source.now.reader) (g.R.Read.remaining c.loop.source.reader) (g.R.Read.remaining c.read.new.self.reader)
          c.loop.script.items piece c.loop.invariant.consumed c.in-Ok.ensures.bytes.0,
      more,
    )
