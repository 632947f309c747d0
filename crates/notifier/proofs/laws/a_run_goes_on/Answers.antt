use Rattle.notifier_model.specs.Run.{run, made, empty}
use Rattle.notifier.proofs.Joined.{run_joined, made_joined}
use Rattle.notifier.proofs.laws.a_run_goes_on.Goals as goal

pub returns-clause-book : goal.returns-clause-book
unfolding run
returns-clause-book c = λ start es fs. run_joined start.place (empty start) es fs

pub returns-clause-outs : goal.returns-clause-outs
unfolding run made
returns-clause-outs c = λ start es fs. made_joined start.place (empty start) es fs
