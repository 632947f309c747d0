use Rattle.std.proofs.Common.{List, map, subst, arith}
use Rattle.notifier_model.specs.Start.{Start}
use Rattle.server.specs.Runs.{Runs}
use Rattle.server.proofs.Started.{starts_are}
use Rattle.arguments.proofs.Dealt.{boxes-len}
use Rattle.server.proofs.program.run_many.Goals as goal

pub script_many-requires-clause-some : goal.script_many-requires-clause-some
script_many-requires-clause-some g c κs within =
    let size = boxes-len (λ boxes. map g.P.Package.seen boxes.items) c.in_ok-boxes.boxes.items c.args.call.now.workers _ c.in_ok-boxes.ensures in
    let len = c.in_ok-boxes.boxes.ok.0 in let some = c.requires.some in omega arith

pub script_many-requires-clause-few : goal.script_many-requires-clause-few
script_many-requires-clause-few g c κs within =
    let size = boxes-len (λ boxes. map g.P.Package.seen boxes.items) c.in_ok-boxes.boxes.items c.args.call.now.workers _ c.in_ok-boxes.ensures in
    let len = c.in_ok-boxes.boxes.ok.0 in let few = c.requires.few in omega arith

pub returns : goal.returns
returns g c =
    let P : List Start → Type 0 = λ starts. Runs g.R.Read.remaining g.W.Write.contents (Unit {0}) starts c.script_many.result c.args.source.now c.script_many.new.source c.args.sink.now c.script_many.new.sink in
    subst P (starts_are (λ boxes. map g.P.Package.seen boxes.items) c.in_ok-boxes.boxes.items c.loopback_setup.result c.args.call.now c.loopback_setup.ensures (rw c.as_slice.ensures at c.in_ok-boxes.ensures)) c.script_many.ensures
