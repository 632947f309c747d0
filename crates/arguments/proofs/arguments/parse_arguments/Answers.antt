use Rattle.arguments.specs.Arguments.{AreArguments}
use Rattle.arguments.specs.ArgumentsReading.{read_arguments}
use Rattle.arguments.proofs.Calls.{call_takes, call_again, call_found, call_only}
use Rattle.arguments.proofs.arguments.parse_arguments.Goals as goal

pub returns-clause-found : goal.returns-clause-found
returns-clause-found c =
    call_found c.read_arguments.result (read_arguments c.args.words.now) (AreArguments c.args.words.now) c.read_arguments.ensures (call_takes c.args.words.now)

pub returns-clause-only : goal.returns-clause-only
returns-clause-only c = λ a h.
    call_only c.read_arguments.result (read_arguments c.args.words.now) a c.read_arguments.ensures (call_again c.args.words.now a h)
