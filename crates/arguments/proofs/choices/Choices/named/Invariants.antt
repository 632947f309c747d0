use Rattle.std.proofs.Common.{◌≡◌, take}
use Rattle.arguments.specs.Choices.{named}
use Rattle.arguments.proofs.choices.Choices.named.Given as goal

abbrev pub invariant-loop-setting : goal.invariant-loop-setting
invariant-loop-setting l = l.choices ≡ named (take l.setting-index l.settings)
