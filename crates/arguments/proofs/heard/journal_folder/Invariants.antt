use Rattle.std.proofs.Common.{◌≡◌, take}
use Rattle.arguments.specs.Choices.{journal_folder}
use Rattle.arguments.proofs.heard.journal_folder.Given as goal

abbrev pub invariant-loop-setting : goal.invariant-loop-setting
invariant-loop-setting l = l.path ≡ journal_folder (take l.setting-index l.settings)
