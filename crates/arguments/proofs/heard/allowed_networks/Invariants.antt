use Rattle.std.proofs.Common.{◌≡◌, take}
use Rattle.arguments.specs.Choices.{allowed_networks}
use Rattle.arguments.proofs.heard.allowed_networks.Given as goal

abbrev pub invariant-loop-setting : goal.invariant-loop-setting
invariant-loop-setting l = l.networks.items ≡ allowed_networks (take l.setting-index l.settings)
