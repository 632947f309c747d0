use Rattle.admission.proofs.Owning.{owners_alone}
use Rattle.admission.proofs.laws.a_dialog_is_its_owners_alone.Goals as goal

pub returns : goal.returns
returns c = owners_alone
