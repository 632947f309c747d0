use Rattle.std.proofs.Common.{◌≡◌, None, Some, rules, sym, ap, ◌∙◌, option_map}
use Rattle.indexmap.specs.IndexMap.{get_by_text}
use Rattle.package.specs.Content.{OfMail}
use Rattle.package.specs.Bodies.{body_of}
use Rattle.package.proofs.Held.{get_held}
use Rattle.message_summary.proofs.mailboxes.MailboxesPackage.body.Goals as goal

pub returns-in-None : goal.returns-in-None
returns-in-None c =
    let e : get_by_text c.args.self.now.mailboxes c.args.resource.now ≡ None = search rules in
    sym (ap (option_map body_of) (get_held OfMail c.args.self.now.mailboxes.entries c.args.resource.now ∙ ap (option_map OfMail) e))

pub returns-in_ok-write_body-in-Some : goal.returns-in_ok-write_body-in-Some
returns-in_ok-write_body-in-Some c =
    let e : get_by_text c.args.self.now.mailboxes c.args.resource.now ≡ Some c.in-Some.mailbox.now = search rules in
    ap Some (search rules) ∙ sym (ap (option_map body_of) (get_held OfMail c.args.self.now.mailboxes.entries c.args.resource.now ∙ ap (option_map OfMail) e))
