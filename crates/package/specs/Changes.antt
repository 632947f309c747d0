-- What a change makes of a package.
use Rattle.std.specs.Prelude.{ℕ, Bool, true, false, ◌&&◌, ◌||◌, ◌==◌, if◌then◌else◌, List, Option, None, Some, codes, bytes_eq}
use Rattle.package.specs.declared.counts.Class.{Class}
use Rattle.package.specs.declared.counts.Class.TheVariants.{Voice, Fax, Pager, Multimedia, Text}
use Rattle.package.specs.declared.counts.Counts.{Counts}
use Rattle.package.specs.declared.counts.MailCounts.{MailCounts}
use Rattle.package.specs.declared.change.Change.{Change}
use Rattle.package.specs.declared.change.Change.TheVariants.{Mail, Begin, Step, Forget}
use Rattle.package.specs.declared.change.Outcome.{Outcome}
use Rattle.package.specs.declared.change.Outcome.TheVariants.{Changed, Same, Unknown}
use Rattle.package.specs.Values.{MailChange, Progress}
use Rattle.package.specs.Content.{Content, OfMail, OfStatus, Maps, SeenBy, mail_package, refer_package, is_final}

-- ---- counts

abbrev pub counts_of : Class → MailCounts → Option Counts
counts_of Voice m = m.voice
counts_of Fax m = m.fax
counts_of Pager m = m.pager
counts_of Multimedia m = m.multimedia
counts_of Text m = m.text

abbrev pub with_counts : Class → Counts → MailCounts → MailCounts
with_counts Voice n m = record m { voice = Some n }
with_counts Fax n m = record m { fax = Some n }
with_counts Pager n m = record m { pager = Some n }
with_counts Multimedia n m = record m { multimedia = Some n }
with_counts Text n m = record m { text = Some n }

-- no class was ever set
abbrev pub unset : MailCounts
unset = record { voice = None; fax = None; pager = None; multimedia = None; text = None }

abbrev pub same_counts : Option Counts → Option Counts → Bool
same_counts None None = true
same_counts None (Some n) = false
same_counts (Some m) None = false
same_counts (Some m) (Some n) =
    (m.new_count == n.new_count)
    && ((m.old_count == n.old_count) && ((m.urgent_new == n.urgent_new) && (m.urgent_old == n.urgent_old)))

-- ---- each change of a map, by what is held of its resource

module _ (maps : Maps) where
  abbrev pub mail_at : maps.Map → MailChange → Option Content → Outcome × maps.Map
  mail_at contents c None = (Unknown, contents)
  mail_at contents c (Some (OfStatus code reason)) = (Unknown, contents)
  mail_at contents c (Some (OfMail m)) =
      if same_counts (counts_of c.class m) (Some c.counts) then (Same, contents)
      else (Changed, maps.with_held contents c.mailbox (OfMail (with_counts c.class c.counts m)))

  -- a transfer begins with `100 Trying` (RFC 3515 section 2.4.5)
  abbrev pub begin_at : maps.Map → List ℕ → Option Content → Outcome × maps.Map
  begin_at contents tag None = (Changed, maps.with_held contents tag (OfStatus 100 (codes "Trying")))
  begin_at contents tag (Some content) = (Same, contents)

  -- a final status isn't left
  abbrev pub step_at : maps.Map → Progress → Option Content → Outcome × maps.Map
  step_at contents p None = (Unknown, contents)
  step_at contents p (Some (OfMail m)) = (Unknown, contents)
  step_at contents p (Some (OfStatus code reason)) =
      if is_final code || ((code == p.code) && bytes_eq reason p.reason) then (Same, contents)
      else (Changed, maps.with_held contents p.tag (OfStatus p.code p.reason))

  abbrev pub forget_at : maps.Map → List ℕ → Option Content → Outcome × maps.Map
  forget_at contents tag None = (Unknown, contents)
  forget_at contents tag (Some content) = (Changed, maps.without_held contents tag)

-- ---- a change of a package

-- the package that a change is for
abbrev pub event_of_change : Change → List ℕ
event_of_change (Mail c) = mail_package
event_of_change (Begin tag) = refer_package
event_of_change (Step p) = refer_package
event_of_change (Forget tag) = refer_package

-- the resource that it names
abbrev pub resource_of : Change → List ℕ
resource_of (Mail c) = c.mailbox
resource_of (Begin tag) = tag
resource_of (Step p) = p.tag
resource_of (Forget tag) = tag

abbrev pub is_forget : Change → Bool
is_forget (Mail c) = false
is_forget (Begin tag) = false
is_forget (Step p) = false
is_forget (Forget tag) = true

module _ (maps : Maps) where
  abbrev pub applied : maps.Map → Change → Outcome × maps.Map
  applied contents (Mail c) = mail_at maps contents c (maps.held contents c.mailbox)
  applied contents (Begin tag) = begin_at maps contents tag (maps.held contents tag)
  applied contents (Step p) = step_at maps contents p (maps.held contents p.tag)
  applied contents (Forget tag) = forget_at maps contents tag (maps.held contents tag)

module _ {maps : Maps} where
  abbrev pub with_contents : SeenBy maps → Outcome × maps.Map → Outcome × SeenBy maps
  with_contents box r = (r.0, record box { contents = r.1 })

  -- what a package answers to a change, and what it is then
  abbrev pub change_of : SeenBy maps → Change → Outcome × SeenBy maps
  change_of box c =
      if bytes_eq box.name (event_of_change c) then with_contents box (applied maps box.contents c)
      else (Unknown, box)
