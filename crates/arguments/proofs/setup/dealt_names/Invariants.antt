use Rattle.std.proofs.Common.{◌≡◌, map, string_bytes, take}
use Rattle.arguments.specs.Setup.{dealt_names}
use Rattle.arguments.proofs.setup.dealt_names.Given as goal

abbrev pub invariant-loop-mailbox : goal.invariant-loop-mailbox
invariant-loop-mailbox l = map string_bytes l.names.items ≡ dealt_names l.workers l.worker (take l.mailbox-index l.mailboxes)
