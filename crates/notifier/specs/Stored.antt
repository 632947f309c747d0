-- The live subscriptions as they are stored, and the list that they stand for.
use Rattle.std.specs.Prelude.{◌≡◌, ◌≤◌, ◌<◌, ℕ, Bool, true, false, ◌==◌, List, [], ◌∷◌, Option, Some, None, filter_map, find, min, ◌+◌, ◌-◌, ◌^◌, if◌then◌else◌}
use Rattle.std.specs.Option.{IsSomeAnd, option_and_then}
use Rattle.std.specs.Ordering.{nat_cmp, ordering_then}
use Rattle.std.specs.declared.cmp.Ordering.{Ordering}
use Rattle.std.specs.BTreeMap as tree
use Rattle.std.specs.BTreeSet as sorted
use Rattle.std.specs.BTreeSet.{BTreeSet}
use Rattle.slab.specs.Slab as slab
use Rattle.notifier_model.specs.declared.row.Row.{Row}
use Rattle.notifier_model.specs.declared.row.Unanswered.{Unanswered}
use Rattle.notifier_model.specs.declared.place.Place.{Place}
use Rattle.notifier_model.specs.Start.{patience, tag_of}
use Rattle.notifier.specs.Watchers.{is_watched, is_about, NoSetIsEmpty}
use Rattle.notifier.specs.declared.store.rows.Rows.{Rows}

-- the rows, by rising serial
abbrev pub rows_of : Rows → List Row
rows_of r = filter_map (λ e. slab.get r.slab e.1) r.order.entries

-- the row with this serial, by the index
abbrev pub row_at : Rows → ℕ → Option Row
row_at r serial = option_and_then (slab.get r.slab) (tree.get nat_cmp r.order serial)

-- the row with this serial, in a list
abbrev pub with_serial : ℕ → List Row → Option Row
with_serial serial rows = find (λ row. row.serial == serial) rows

abbrev pub by_time : ℕ × ℕ → ℕ × ℕ → Ordering
by_time x y = ordering_then (nat_cmp x.0 y.0) (nat_cmp x.1 y.1)

-- the first second in which this NOTIFY has been unanswered for too long
unfoldable pub gives_up : Unanswered → ℕ
gives_up notify = min (notify.moment + patience) (2 ^ 64 - 1)

-- the oldest stands first
abbrev pub alarm_with : ℕ → List Unanswered → ℕ
alarm_with due [] = due
alarm_with due (oldest ∷ newer) = min due (gives_up oldest)

-- the first second in which time may end a row: its time is up, or a NOTIFY of it has been unanswered for too long
unfoldable pub alarm_of : Row → ℕ
alarm_of row = alarm_with row.sub.due row.unanswered

abbrev pub is_timed_at : ℕ → Option Row → Bool
is_timed_at moment None = false
is_timed_at moment (Some row) = alarm_of row == moment

abbrev pub is_of : List ℕ → List ℕ → Option Row → Bool
is_of name resource None = false
is_of name resource (Some row) = is_about row.sub.want name resource

-- each serial leads to its row, each live row has its timer, and the watchers of each resource are its rows
pub record IsIndexed (r : Rows) : Type 0 where
  pub ordered : tree.IsOrdered nat_cmp r.order
  pub held : (serial key : ℕ) → tree.get nat_cmp r.order serial ≡ Some key → IsSomeAnd (slab.get r.slab key) (λ row. row.serial ≡ serial)
  pub timed : (due serial : ℕ) → sorted.contains by_time r.timers (due, serial) ≡ is_timed_at due (row_at r serial)
  pub watching : (name resource : List ℕ) (serial : ℕ) → is_watched r.watchers name resource serial ≡ is_of name resource (row_at r serial)
  pub none_left : NoSetIsEmpty r.watchers

-- after a step at one serial that leaves this row there, if any
pub record Turns (old new : Rows) (serial : ℕ) (row : Option Row) : Type 0 where
  pub at : (s : ℕ) → row_at new s ≡ (if serial == s then row else row_at old s)

-- the timer of this serial is up by this moment
abbrev pub IsTimed : BTreeSet (ℕ × ℕ) → ℕ → ℕ → Type 0
IsTimed timers clock serial = (due : ℕ) × ((due ≤ clock) × (sorted.contains by_time timers (due, serial) ≡ true))

-- what a tag gives a worker: the serial of which it is the local tag, if it is one
abbrev pub Gives : ℕ → List ℕ → Option ℕ → Type 0
Gives worker tag serial =
    (place : Place) (own : ℕ) → place.worker ≡ worker → own < 2 ^ 32 → tag ≡ tag_of place own → serial ≡ Some own
