use Rattle.package.specs.Values.{MailChange}
use Rattle.std.proofs.Common.{string_bytes}
use Rattle.scripts.specs.Changes.{is_mail}
use Rattle.scripts.proofs.Lines.{tested, allowed_mail, mail_allowed}
use Rattle.service.proofs.made.change_to.Goals as goal

pub returns : goal.returns
returns c =
    let m : MailChange = record { mailbox = string_bytes c.args.mailbox; class = c.args.class; counts = c.args.counts } in
    tested (is_mail m) m c.new.result (allowed_mail m) (mail_allowed m) c.new.ensures
