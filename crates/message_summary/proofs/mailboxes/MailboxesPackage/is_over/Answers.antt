use Rattle.std.proofs.Common.{sym, ap, ◌∙◌}
use Rattle.package.specs.Content.{OfMail, is_finished}
use Rattle.package.proofs.Held.{get_held}
use Rattle.message_summary.proofs.Steps.{never_finished}
use Rattle.message_summary.proofs.mailboxes.MailboxesPackage.is_over.Goals as goal

pub returns : goal.returns
returns c = sym (ap is_finished (get_held OfMail c.args.self.now.mailboxes.entries c.args._resource.now) ∙ never_finished _)
