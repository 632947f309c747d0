use Rattle.notifier_model.proofs.FirstCases.{first_is_verdict}
use Rattle.notifier_model.proofs.laws.first_case_decides.Goals as goal

pub returns : goal.returns
returns c = λ limits b r. first_is_verdict limits b r
