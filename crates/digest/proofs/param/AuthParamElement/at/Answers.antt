use Rattle.digest.specs.Views.{seen}
use Rattle.digest.proofs.AuthParams.{found_shortens}
use Rattle.digest.proofs.param.AuthParamElement.at.Goals as goal

pub returns-clause-no_longer : goal.returns-clause-no_longer
returns-clause-no_longer c = found_shortens (λ x. (seen x.0, x.1.now)) c.args.text.now c.auth_param_at.result c.auth_param_at.ensures
