use Rattle.notifier_model.specs.Run.{run, made, empty}
use Rattle.notifier_model.proofs.Runs.{run_from-push, made_from-push}
use Rattle.notifier_model.proofs.laws.run_grows.Goals as goal

pub returns-clause-book : goal.returns-clause-book
unfolding run
returns-clause-book c = λ start es e. run_from-push start.place (empty start) es e

pub returns-clause-outs : goal.returns-clause-outs
unfolding run made
returns-clause-outs c = λ start es e. made_from-push start.place (empty start) es e
