-- A change of a mailbox and a step of a transfer, as values: texts are lists of bytes.
use Rattle.std.specs.Prelude.{ℕ, ◌≤◌, List, IsTrue}
use Rattle.package.specs.declared.counts.Class.{Class}
use Rattle.package.specs.declared.counts.Counts.{Counts}
use Rattle.package.specs.Texts.{is_printable, is_word}

-- the new counts of one class in a mailbox (RFC 3842 section 5.2)
pub record MailChange : Type 0 where
  pub mailbox : List ℕ
  pub class : Class
  pub counts : Counts

-- how far the transfer with this tag has come (RFC 3515 section 2.4.5)
pub record Progress : Type 0 where
  pub tag : List ℕ
  pub code : ℕ
  pub reason : List ℕ

-- a mailbox has a name, and urgent messages are among all of their kind
pub record IsMailChange (change : MailChange) : Type 0 where
  pub named : IsTrue (is_word change.mailbox)
  pub urgent_new : change.counts.urgent_new ≤ change.counts.new_count
  pub urgent_old : change.counts.urgent_old ≤ change.counts.old_count

-- a transfer has a tag, and its status is one of a response
pub record IsProgress (progress : Progress) : Type 0 where
  pub tagged : IsTrue (is_word progress.tag)
  pub from_100 : 100 ≤ progress.code
  pub to_699 : progress.code ≤ 699
  pub plain : IsTrue (is_printable progress.reason)
