use Rattle.arguments.specs.Tell.{IsTellCall}
use Rattle.arguments.specs.TellReading.{read_tell}
use Rattle.arguments.proofs.Telling.{tell_takes, tell_again, call_found, call_only}
use Rattle.arguments.proofs.tell.parse_tell.Goals as goal

pub returns-clause-found : goal.returns-clause-found
returns-clause-found c =
    call_found c.read_tell.result (read_tell c.args.words.now) (IsTellCall c.args.words.now) c.read_tell.ensures (tell_takes c.args.words.now)

pub returns-clause-only : goal.returns-clause-only
returns-clause-only c = λ call h.
    call_only c.read_tell.result (read_tell c.args.words.now) call c.read_tell.ensures (tell_again c.args.words.now call h)
