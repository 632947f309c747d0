use Rattle.std.proofs.Common.{sym, ◌∙◌}
use Rattle.package.specs.Content.{OfMail}
use Rattle.package.proofs.Held.{some_held}
use Rattle.message_summary.proofs.mailboxes.MailboxesPackage.holds.Goals as goal

pub returns : goal.returns
returns c = c.contains_key.ensures ∙ sym (some_held OfMail c.args.self.now.mailboxes.entries c.args.resource.now)
