-- What contracts see of the words of a line.
use Rattle.package.specs.Values.{MailChange, Progress}
use Rattle.scripts.specs.declared.line.MailWords.{MailWords}
use Rattle.scripts.specs.declared.line.ProgressWords.{ProgressWords}

abbrev pub mail_seen : MailWords → MailChange
mail_seen m = record { mailbox = m.mailbox.now; class = m.class; counts = m.counts }

abbrev pub progress_seen : ProgressWords → Progress
progress_seen p = record { tag = p.tag.now; code = p.code; reason = p.reason.now }
