use Rattle.std.proofs.Common.{refl}
use Rattle.server.proofs.Asked.{bad_asks_none}
use Rattle.server.proofs.Started.{from_one, to_256}
use Rattle.server.proofs.program.run.Goals as goal

pub returns-in-Err-Bad-clause-bad_arguments : goal.returns-in-Err-Bad-clause-bad_arguments
returns-in-Err-Bad-clause-bad_arguments g c = λ is. (bad_asks_none c.args.words.now (rw c.in-Err-Bad.field-0-is at c.in-Err-Bad.ensures.only), refl)

pub run_script-requires-clause-some : goal.run_script-requires-clause-some
run_script-requires-clause-some g c κs within = from_one c.args.words.now _ c.in-Ok.ensures.found

pub run_script-requires-clause-few : goal.run_script-requires-clause-few
run_script-requires-clause-few g c κs within = to_256 c.args.words.now _ c.in-Ok.ensures.found
