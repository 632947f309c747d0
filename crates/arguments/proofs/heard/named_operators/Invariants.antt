use Rattle.std.proofs.Common.{◌≡◌, take}
use Rattle.arguments.specs.Choices.{named_operators}
use Rattle.arguments.proofs.heard.named_operators.Given as goal

abbrev pub invariant-loop-setting : goal.invariant-loop-setting
invariant-loop-setting l = l.networks.items ≡ named_operators (take l.setting-index l.settings)
