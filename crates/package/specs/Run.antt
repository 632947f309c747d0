-- What a package holds of a resource after a list of changes, told by the list alone: of each class the last counts, of a
-- transfer the first final status, or without one the last. Nothing is carried from one change to the next.
use Rattle.std.specs.Prelude.{◌≡◌, ℕ, Bool, false, ◌&&◌, ◌==◌, if◌then◌else◌, List, [], ◌∷◌, find, unwrap_or, Option, None, Some, codes, bytes_eq}
use Rattle.std.specs.List.{filter_map, list_any, last_or, after_first, after_last}
use Rattle.package.specs.declared.counts.Class.{Class}
use Rattle.package.specs.declared.counts.Class.TheVariants.{Voice, Fax, Pager, Multimedia, Text}
use Rattle.package.specs.declared.counts.Counts.{Counts}
use Rattle.package.specs.declared.counts.MailCounts.{MailCounts}
use Rattle.package.specs.declared.change.Change.{Change}
use Rattle.package.specs.declared.change.Change.TheVariants.{Mail, Begin, Step, Forget}
use Rattle.package.specs.Content.{Content, OfMail, OfStatus, held, Seen, KeepsKind, mail_package, refer_package, is_final}
use Rattle.package.specs.Changes.{change_of}

-- ---- mailboxes

-- the place of a class in a body
abbrev pub place : Class → ℕ
place Voice = 0
place Fax = 1
place Pager = 2
place Multimedia = 3
place Text = 4

-- the counts that a change gives to this mailbox and class
abbrev pub counts_for : List ℕ → Class → Change → Option Counts
counts_for mailbox class (Mail c) = if bytes_eq mailbox c.mailbox && (place c.class == place class) then Some c.counts else None
counts_for mailbox class (Begin tag) = None
counts_for mailbox class (Step p) = None
counts_for mailbox class (Forget tag) = None

-- the last counts of this class, else those at first
abbrev pub last_counts : List ℕ → Class → Option Counts → List Change → Option Counts
last_counts mailbox class first changes = last_or first (filter_map (counts_for mailbox class) changes)

abbrev pub mail_after : List ℕ → MailCounts → List Change → MailCounts
mail_after mailbox first changes = record {
  voice = last_counts mailbox Voice first.voice changes;
  fax = last_counts mailbox Fax first.fax changes;
  pager = last_counts mailbox Pager first.pager changes;
  multimedia = last_counts mailbox Multimedia first.multimedia changes;
  text = last_counts mailbox Text first.text changes;
}

-- no change makes a mailbox, and none takes it away
abbrev pub mailbox_after : List ℕ → Option Content → List Change → Option Content
mailbox_after mailbox None changes = None
mailbox_after mailbox (Some (OfMail first)) changes = Some (OfMail (mail_after mailbox first changes))
mailbox_after mailbox (Some (OfStatus code reason)) changes = Some (OfStatus code reason)

-- ---- transfers

-- a code and a reason
abbrev pub Status : Type 0
Status = ℕ × List ℕ

abbrev pub trying : Status
trying = (100, codes "Trying")

abbrev pub begins : List ℕ → Change → Bool
begins tag (Mail c) = false
begins tag (Begin t) = bytes_eq tag t
begins tag (Step p) = false
begins tag (Forget t) = false

abbrev pub forgets : List ℕ → Change → Bool
forgets tag (Mail c) = false
forgets tag (Begin t) = false
forgets tag (Step p) = false
forgets tag (Forget t) = bytes_eq tag t

-- the status that a change gives to this transfer
abbrev pub status_for : List ℕ → Change → Option Status
status_for tag (Mail c) = None
status_for tag (Begin t) = None
status_for tag (Step p) = if bytes_eq tag p.tag then Some (p.code, p.reason) else None
status_for tag (Forget t) = None

abbrev pub last_status : Status → List Status → Status
last_status first [] = first
last_status first (s ∷ statuses) = last_status s statuses

-- the first final status stays; without one the last counts
abbrev pub furthest : Status → List Status → Status
furthest first statuses = unwrap_or (find (λ s. is_final s.0) (first ∷ statuses)) (last_status first statuses)

-- a transfer that had this status, by the progress that was told of it since
abbrev pub status_since : List ℕ → Status → List Change → Option Content
status_since tag first changes =
    let status = furthest first (filter_map (status_for tag) changes) in
    Some (OfStatus status.0 status.1)

-- a transfer that wasn't held, by its first Begin and the progress since
abbrev pub status_born : List ℕ → List Change → Option Content
status_born tag changes =
    if list_any (begins tag) changes then status_since tag trying (after_first (begins tag) changes) else None

-- a transfer: what came before the last Forget counts for nothing
abbrev pub transfer_after : List ℕ → Option Content → List Change → Option Content
transfer_after tag None changes = status_born tag (after_last (forgets tag) changes)
transfer_after tag (Some (OfMail m)) changes = Some (OfMail m)
transfer_after tag (Some (OfStatus code reason)) changes =
    if list_any (forgets tag) changes then status_born tag (after_last (forgets tag) changes)
    else status_since tag (code, reason) changes

-- ---- either

-- what a box holds of a resource after these changes. Another package's contents never change
abbrev pub content_after : Seen → List ℕ → List Change → Option Content
content_after box resource changes =
    if bytes_eq box.name mail_package then mailbox_after resource (held box.contents resource) changes
    else if bytes_eq box.name refer_package then transfer_after resource (held box.contents resource) changes
    else held box.contents resource

-- the box after these changes, one by one
abbrev pub box_after : Seen → List Change → Seen
box_after box [] = box
box_after box (c ∷ changes) = box_after (change_of box c).1 changes

-- changes one by one leave what is told by the whole list
abbrev pub ContentLaw : Type 0
ContentLaw = (box : Seen) (changes : List Change) (resource : List ℕ) → KeepsKind box →
    held (box_after box changes).contents resource ≡ content_after box resource changes

-- a package keeps its name, its content type, and its kind of contents
abbrev pub KindLaw : Type 0
KindLaw = (box : Seen) (changes : List Change) → KeepsKind box →
    (box_after box changes).name ≡ box.name × (box_after box changes).content_type ≡ box.content_type × KeepsKind (box_after box changes)
