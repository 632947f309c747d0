-- What the packages of a worker were told, as its journal keeps it.
--
-- A mailbox that was never told anything is another than one that was told of no messages: its content names no class. So what stands
-- there of it is a count that nobody has.
use Rattle.std.specs.Prelude.{◌≡◌, ℕ, ◌==◌, ◌&&◌, not, Bool, true, false, List, [], ◌∷◌, ◌++◌, map, filter, fold, if◌then◌else◌, codes, bytes_eq}
use Rattle.std.specs.List.{list_any, flat_map}
use Rattle.package.specs.declared.change.Change.{Change}
use Rattle.package.specs.declared.change.Change.TheVariants as change
use Rattle.package.specs.declared.counts.Class.{Class}
use Rattle.package.specs.declared.counts.Class.TheVariants as class
use Rattle.package.specs.Texts.{is_word}
use Rattle.package.specs.Content.{Seen}
use Rattle.package.specs.Values.{MailChange, Progress}
use Rattle.notifier_model.specs.declared.row.Row.{Row}
use Rattle.journal.specs.declared.record.Told.{Told}
use Rattle.keeper.specs.Told.{without}
use Rattle.arguments.specs.Told.{boxes_left}

-- ---- mailboxes (RFC 3842 section 5.2)

abbrev pub is_text : Class → Bool
is_text class.Voice = false
is_text class.Fax = false
is_text class.Pager = false
is_text class.Multimedia = false
is_text class.Text = true

-- a mailbox is held, and was told nothing
abbrev pub is_mark : MailChange → Bool
is_mark m = is_text m.class && ((m.counts.new_count == 0) && ((m.counts.old_count == 4294967295) && (m.counts.urgent_old == 4294967295)))

-- what says so of the mailbox with this name
abbrev pub mark : List ℕ → MailChange
mark name = record { mailbox = name; class = class.Text; counts = record { new_count = 0; old_count = 4294967295; urgent_new = 0; urgent_old = 4294967295 } }

-- of those that may name a mailbox
abbrev pub marks : List (List ℕ) → List MailChange
marks names = map mark (filter is_word names)

-- what was told of mailboxes
abbrev pub mails : List MailChange → List Change
mails entries = map (λ m. change.Mail m) (filter (λ m. not (is_mark m)) entries)

-- with this name behind the others, unless it is one of them
abbrev pub with_name : List (List ℕ) → List ℕ → List (List ℕ)
with_name names name = if list_any (bytes_eq name) names then names else names ++ name ∷ []

-- these names, each once, where it comes first
abbrev pub each_once : List (List ℕ) → List (List ℕ)
each_once names = fold with_name [] names

-- the mailboxes that a worker holds
abbrev pub held_names : List MailChange → List (List ℕ)
held_names entries = each_once (map (λ m. m.mailbox) entries)

-- what a change tells of one of these mailboxes
abbrev pub told_of : List (List ℕ) → Change → List MailChange
told_of names (change.Mail m) = if list_any (bytes_eq m.mailbox) names then m ∷ [] else []
told_of names (change.Begin tag) = []
told_of names (change.Step step) = []
told_of names (change.Forget tag) = []

abbrev pub all_told : List (List ℕ) → List Change → List MailChange
all_told names changes = flat_map (told_of names) changes

-- what a worker was told that holds these mailboxes and begins with these changes
abbrev pub told_with : List (List ℕ) → List Change → Told
told_with names changes = record { events = 0; mails = 0; mail = marks names ++ all_told names changes; progress = [] }

-- ---- transfers (RFC 3515 section 2.4.5)

-- it watches a transfer
abbrev pub is_of_refer : Row → Bool
is_of_refer row = bytes_eq row.sub.want.event.package (codes "refer")

-- the transfers that these rows watch began
abbrev pub begins : List Row → List Change
begins rows = map (λ (row : Row). change.Begin row.sub.usage.local_tag) (filter is_of_refer rows)

-- the tags of the transfers that these rows watch
abbrev pub tags : List Row → List (List ℕ)
tags rows = map (λ (row : Row). row.sub.usage.local_tag) (filter is_of_refer rows)

-- of these steps those of the transfers with these tags
abbrev pub steps_of : List (List ℕ) → List Progress → List Progress
steps_of tags steps = filter (λ (p : Progress). list_any (bytes_eq p.tag) tags) steps

-- A transfer that no row watches is told to nobody any more: its last step is forgotten.
abbrev pub watched : List Row → List Progress → List Progress
watched rows steps = steps_of (tags rows) steps

-- what was told of the transfers that these rows watch: each began, and then its last step
abbrev pub transfers : List Row → List Progress → List Change
transfers rows steps = begins rows ++ map (λ p. change.Step p) steps

-- ---- packages

-- of these names: the mailboxes, with what was told of them, and the transfers that these rows watch, with their last steps
abbrev pub boxes_told : Bool → List (List ℕ) → Told → List Row → List Seen
boxes_told no_refer names told rows = boxes_left no_refer (mails told.mail) (transfers rows told.progress) names

-- What is forgotten of transfers makes nothing of the packages: they are as all steps make them.
abbrev pub ForgottenLaw : Type 0
ForgottenLaw = (no_refer : Bool) (names : List (List ℕ)) (told : Told) (rows : List Row) →
    boxes_told no_refer names (record told { progress = watched rows told.progress }) rows ≡ boxes_told no_refer names told rows

-- Nor does what a keeper forgets of transfers that are gone, where these rows watch none of them.
abbrev pub GoneLaw : Type 0
GoneLaw = (no_refer : Bool) (names gone : List (List ℕ)) (told : Told) (rows : List Row) →
    ((tag : List ℕ) → list_any (bytes_eq tag) (tags rows) ≡ true → list_any (bytes_eq tag) gone ≡ false) →
    boxes_told no_refer names (record told { progress = without gone told.progress }) rows ≡ boxes_told no_refer names told rows
