use Rattle.std.proofs.Common.{◌≡◌, take}
use Rattle.arguments.specs.Choices.{further_mailboxes}
use Rattle.arguments.proofs.heard.further_mailboxes.Given as goal

abbrev pub invariant-loop-setting : goal.invariant-loop-setting
invariant-loop-setting l = l.pairs.items ≡ further_mailboxes (take l.setting-index l.settings)
