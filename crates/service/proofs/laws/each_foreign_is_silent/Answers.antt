use Rattle.service.proofs.Foreign.{each_silent, each_own_silent}
use Rattle.service.proofs.laws.each_foreign_is_silent.Goals as goal

pub returns-clause-foreign : goal.returns-clause-foreign
returns-clause-foreign c = each_silent

pub returns-clause-own : goal.returns-clause-own
returns-clause-own c = each_own_silent
