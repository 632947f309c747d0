use Rattle.std.proofs.Common.{Result, Ok, Err}
use Rattle.std.specs.Prelude.{IfOk}
use Rattle.notifier_model.specs.Run.{made}
use Rattle.notifier.proofs.whole_run.play.Goals as goal

if_ok_then : {T E : Type 0} {P Q : T → Type 0} (r : Result T E) → ((x : T) → P x → Q x) → IfOk r P → IfOk r Q
if_ok_then (Ok x) f p = f x p
if_ok_then (Err e) f p = p

pub returns : goal.returns
unfolding made
returns g c = if_ok_then c.handle_all.result (λ outs told. told _ c.in_ok-desk.ensures) c.handle_all.ensures.outs
