use Rattle.std.proofs.Common.{◌≡◌, take}
use Rattle.arguments.specs.Choices.{feed_networks}
use Rattle.arguments.proofs.heard.feed_networks.Given as goal

abbrev pub invariant-loop-setting : goal.invariant-loop-setting
invariant-loop-setting l = l.networks.items ≡ feed_networks (take l.setting-index l.settings)
