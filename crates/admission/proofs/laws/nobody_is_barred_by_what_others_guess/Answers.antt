use Rattle.admission.proofs.Bars.{none_else_is_barred}
use Rattle.admission.proofs.laws.nobody_is_barred_by_what_others_guess.Goals as goal

pub returns : goal.returns
returns c = none_else_is_barred
