use Rattle.std.proofs.Common.{List, map, subst}
use Rattle.notifier_model.specs.Start.{Start}
use Rattle.server.specs.Runs.{Runs}
use Rattle.server.proofs.Started.{one_start_is}
use Rattle.server.proofs.program.run_one.Goals as goal

pub returns : goal.returns
returns g c =
    let P : List Start → Type 0 = λ starts. Runs g.R.Read.remaining g.W.Write.contents ⊥ starts c.script_one.result c.args.source.now c.script_one.new.source c.args.sink.now c.script_one.new.sink in
    subst P (one_start_is c.loopback_setup.result (map g.P.Package.seen c.in_ok-boxes.boxes.items) c.args.call.now _ c.loopback_setup.ensures c.requires.one c.in_ok-boxes.ensures (rw c.as_slice.ensures at c.in_ok-names.ensures)) c.script_one.ensures
