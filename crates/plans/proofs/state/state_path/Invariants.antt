use Rattle.std.proofs.Common.{◌≡◌, take}
use Rattle.arguments.specs.Choices.{state_of}
use Rattle.plans.proofs.state.state_path.Given as goal

abbrev pub invariant-loop-setting : goal.invariant-loop-setting
invariant-loop-setting l = l.path ≡ state_of (take l.setting-index l.settings)
