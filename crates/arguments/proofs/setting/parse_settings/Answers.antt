use Rattle.arguments.proofs.Settings.{found_is, only_is, wrong_is}
use Rattle.arguments.proofs.setting.parse_settings.Goals as goal

pub returns-clause-found : goal.returns-clause-found
returns-clause-found c = found_is (λ v. v.items) c.read_settings.result c.args.words.now c.read_settings.ensures

pub returns-clause-only : goal.returns-clause-only
returns-clause-only c = λ settings h. only_is (λ v. v.items) c.read_settings.result c.args.words.now settings c.read_settings.ensures h

pub returns-clause-wrong : goal.returns-clause-wrong
returns-clause-wrong c = wrong_is (λ v. v.items) c.read_settings.result c.args.words.now c.read_settings.ensures
