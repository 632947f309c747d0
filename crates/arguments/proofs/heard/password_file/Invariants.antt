use Rattle.std.proofs.Common.{◌≡◌, take}
use Rattle.arguments.specs.Choices.{password_file}
use Rattle.arguments.proofs.heard.password_file.Given as goal

abbrev pub invariant-loop-setting : goal.invariant-loop-setting
invariant-loop-setting l = l.path ≡ password_file (take l.setting-index l.settings)
