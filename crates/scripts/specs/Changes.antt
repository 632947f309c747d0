-- What `MailChange::new` and `Progress::new` of the crate `package` answer, as functions.
use Rattle.std.specs.Prelude.{Bool, ◌&&◌, nat_le, if◌then◌else◌, Option, Some, None}
use Rattle.package.specs.Values.{MailChange, Progress}
use Rattle.package.specs.Texts.{is_word, is_printable}

abbrev pub is_mail : MailChange → Bool
is_mail m = is_word m.mailbox && nat_le m.counts.urgent_new m.counts.new_count && nat_le m.counts.urgent_old m.counts.old_count

abbrev pub is_progress : Progress → Bool
is_progress p = is_word p.tag && nat_le 100 p.code && nat_le p.code 699 && is_printable p.reason

abbrev pub mail_of : MailChange → Option MailChange
mail_of m = if is_mail m then Some m else None

abbrev pub progress_of : Progress → Option Progress
progress_of p = if is_progress p then Some p else None
