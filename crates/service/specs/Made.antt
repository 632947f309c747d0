-- The mailboxes that lines made in a run, with what workers were told of each, and handled: a row for each, in the order in which lines made them.
use Rattle.std.specs.Prelude.{ℕ, ◌≤◌, ◌==◌, IsTrue, bytes_eq, count_by, List, [], ◌∷◌, map, filter_map, flat_map, Option, option_and_then, if◌then◌else◌}
use Rattle.std.specs.List.{list_all}
use Rattle.notifier_model.specs.declared.event.Event.{Event}
use Rattle.notifier_model.specs.declared.event.Event.TheVariants as happened
use Rattle.package.specs.declared.counts.Class.{Class}
use Rattle.package.specs.declared.counts.Class.TheVariants.{Voice, Fax, Pager, Multimedia, Text}
use Rattle.package.specs.declared.counts.Counts.{Counts}
use Rattle.package.specs.Values.{MailChange}
use Rattle.package.specs.Texts.{is_word}
use Rattle.package.specs.Changes.{counts_of}
use Rattle.scripts.specs.Changes.{mail_of}
use Rattle.control_lines.specs.Told.{Row, told}
use Rattle.service.specs.Told.{worker_for}

-- what workers were told of them, behind this event
abbrev pub told_event : Event → List Row → List Row
told_event (happened.Mail m) rows = told m rows
told_event other rows = rows

abbrev pub names : List Row → List (List ℕ)
names rows = map (λ (row : Row). row.0) rows

-- names that a line can tell, each of them once
pub record AreNames (names : List (List ℕ)) : Type 0 where
  pub words : IsTrue (list_all is_word names)
  pub once : (name : List ℕ) → count_by (bytes_eq name) names ≤ 1

-- ---- what is told again

-- the classes, in the order in which a body tells them (RFC 3842 section 5.2)
abbrev pub classes : List Class
classes = Voice ∷ Fax ∷ Pager ∷ Multimedia ∷ Text ∷ []

-- these counts of a class of a mailbox, as a change that a line can tell
abbrev pub change_to : List ℕ → Class → Counts → Option MailChange
change_to mailbox class counts = mail_of (record { mailbox = mailbox; class = class; counts = counts })

-- the last change of this class, if the mailbox was told of it
abbrev pub last_change : Row → Class → Option MailChange
last_change row class = option_and_then (change_to row.0 class) (counts_of class row.1)

-- of each class that the mailbox was told of the last change
abbrev pub last_changes : Row → List MailChange
last_changes row = filter_map (last_change row) classes

-- the same where it is this worker's, among so many workers, and none otherwise
abbrev pub own_changes : ℕ → ℕ → Row → List MailChange
own_changes workers worker row = if worker_for workers row.0 == worker then last_changes row else []

-- what this worker was told last of those that are its own, in the order in which lines made them
abbrev pub worker_changes : ℕ → ℕ → List Row → List MailChange
worker_changes workers worker rows = flat_map (own_changes workers worker) rows
