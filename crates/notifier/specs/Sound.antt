-- What holds of every live row, so that no number leaves its type, and of all rows.
use Rattle.std.specs.Prelude.{◌≡◌, ℕ, ◌+◌, ◌<◌, ◌≤◌, List, [], ◌∷◌, All}
use Rattle.std.specs.List.{AllPairs}
use Rattle.notifier_model.specs.declared.place.Place.{Place}
use Rattle.notifier_model.specs.declared.row.Row.{Row}
use Rattle.notifier_model.specs.declared.row.Unanswered.{Unanswered}
use Rattle.notifier_model.specs.Start.{tag_of}

-- NOTIFYs in the order in which they were made
abbrev pub AreInOrder : List Unanswered → Type 0
AreInOrder notifys = AllPairs (λ older newer. older.moment ≤ newer.moment) notifys

-- NOTIFYs that were made by now
pub record AreTimely (clock : ℕ) (notifys : List Unanswered) : Type 0 where
  pub made : All (λ notify. notify.moment ≤ clock) notifys
  pub in_order : AreInOrder notifys

-- a live row has time left, and no more than can be granted, and no NOTIFY of it is of a moment to come
pub record IsLive (clock : ℕ) (row : Row) : Type 0 where
  pub has_time : clock < row.sub.due
  pub time_fits : row.sub.due ≤ clock + 4294967295
  pub timely : AreTimely clock row.unanswered

-- its serial was given, and its tag is that of its serial
pub record IsOwn (place : Place) (next : ℕ) (row : Row) : Type 0 where
  pub given : row.serial < next
  pub tagged : row.sub.usage.local_tag ≡ tag_of place row.serial

-- each row has a greater serial than those before it
abbrev pub AreRising : List Row → Type 0
AreRising [] = Unit {0}
AreRising (row ∷ rows) = All (λ other. row.serial < other.serial) rows × AreRising rows
