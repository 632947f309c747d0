use Rattle.std.proofs.Common.{◌<◌, length, arith}
use Rattle.server.specs.Call.{starts_for}
use Rattle.server.proofs.Runs.{threaded}
use Rattle.server.proofs.Started.{starts-len}
use Rattle.server.proofs.program.run_script.Goals as goal

pub returns-then-call-eq1 : goal.returns-then-call-eq1
returns-then-call-eq1 g c = threaded (λ none. absurd none) c.run_one.ensures

pub returns : goal.returns
returns g c =
    let several : 1 < length (starts_for c.args.call.now) = let n = starts-len c.args.call.now in let some = c.requires.some in let other = c.if-call-eq1.false in omega arith in
    threaded (λ started. several) c.run_many.ensures
