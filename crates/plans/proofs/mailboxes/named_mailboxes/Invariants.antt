use Rattle.std.proofs.Common.{take}
use Rattle.plans.specs.Plans.{AreNamed}
use Rattle.plans.proofs.mailboxes.named_mailboxes.Given as goal

abbrev pub invariant-loop-setting : goal.invariant-loop-setting
invariant-loop-setting g l = AreNamed (take l.setting-index l.settings) l.names.items
