use Rattle.std.proofs.Common.{◌≡◌, ap, ◌∙◌, List, ℕ}
use Rattle.std.specs.Prelude.{string_bytes}
use Rattle.snapshots.specs.Changes.{mail_of}
use Rattle.snapshots.proofs.Changes.{mail_given}
use Rattle.snapshots.proofs.change.made_mail.Goals as goal

pub returns : goal.returns
returns c =
    mail_given c.new.result (string_bytes c.into_string-name.result, (c.args.class, c.args.counts)) c.new.ensures
    ∙ ap (λ (m : List ℕ). mail_of (m, (c.args.class, c.args.counts))) c.into_string-name.ensures
