use Rattle.std.proofs.Common.{sym, subst}
use Rattle.package.specs.Content.{OfMail, SuitsPackage, mail_package}
use Rattle.package.proofs.Held.{get_held}
use Rattle.message_summary.proofs.Steps.{suits_mail}
use Rattle.message_summary.proofs.mailboxes.MailboxesPackage.event.Goals as goal

pub returns-clause-kind : goal.returns-clause-kind
returns-clause-kind c = λ q. subst (SuitsPackage mail_package) (sym (get_held OfMail c.args.self.now.mailboxes.entries q)) (suits_mail _)
