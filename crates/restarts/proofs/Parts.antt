-- Books from which rows were taken out, and books whose rows have leapt, may go on.
use Rattle.std.proofs.Common.{◌≡◌, ℕ, ◌+◌, ◌<◌, ◌≤◌, ◌^◌, Bool, true, false, cond, List, [], ◌∷◌, All, map, filter, refl, arith}
use Rattle.std.specs.List.{AllPairs}
use Rattle.std.proofs.lemmas.List.Elements.{All-nil, All-cons, All-head, All-tail, All-filter}
use Rattle.notifier_model.specs.declared.place.Place.{Place}
use Rattle.notifier_model.specs.declared.row.Row.{Row}
use Rattle.notifier_model.specs.declared.row.Unanswered.{Unanswered}
use Rattle.notifier_model.specs.declared.saved.Saved.{Saved}
use Rattle.notifier.specs.Sound.{AreTimely, IsLive, IsOwn, AreRising}
use Rattle.notifier.specs.Resumed.{MayGoOn}
use Rattle.restarts.specs.Ahead.{ahead, all_ahead, book_ahead, has_room, serial_ahead}
use Rattle.restarts.specs.Withdrawn.{book_where}

rising_by_test : (p : Row → Bool) (row : Row) (rows : List Row) (b : Bool) → All (λ other. row.serial < other.serial) (filter p rows) → AreRising (filter p rows) → AreRising (cond b (row ∷ filter p rows) (filter p rows))
rising_by_test p row rows true above rise = (above, rise)
rising_by_test p row rows false above rise = rise

rising_part : (p : Row → Bool) (rows : List Row) → AreRising rows → AreRising (filter p rows)
rising_part p [] rise = tt
rising_part p (row ∷ rows) rise = rising_by_test p row rows (p row) (All-filter p (λ other. row.serial < other.serial) rows rise.0) (rising_part p rows rise.1)

pub part_goes_on : (place : Place) (book : Saved) (test : Row → Bool) → MayGoOn place book → MayGoOn place (book_where test book)
part_goes_on place book test may = record {
  clock_fits = may.clock_fits;
  next_begins = may.next_begins;
  next_fits = may.next_fits;
  rows_live = All-filter test (IsLive book.clock) book.rows may.rows_live;
  rows_own = All-filter test (IsOwn place book.next) book.rows may.rows_own;
  rows_rise = rising_part test book.rows may.rows_rise;
  ring_fits = may.ring_fits;
}

-- ---- rows that have leapt

timely_none : (clock : ℕ) → AreTimely clock []
timely_none clock = record { made = All-nil (λ notify. notify.moment ≤ clock); in_order = λ i j d lt within. absurd (omega arith) }

live_ahead : (clock : ℕ) (row : Row) → IsLive clock row → IsLive clock (ahead row)
live_ahead clock row live = record { has_time = live.has_time; time_fits = live.time_fits; timely = timely_none clock }

not_before : (next serial : ℕ) → next ≤ 2 ^ 32 → serial < next → serial < serial_ahead next
not_before next serial fits less = grind (arith)

own_ahead : (place : Place) (next : ℕ) → next ≤ 2 ^ 32 → (row : Row) → IsOwn place next row → IsOwn place (serial_ahead next) (ahead row)
own_ahead place next fits row own = record { given = not_before next row.serial fits own.given; tagged = own.tagged }

begins_ahead : (next : ℕ) → 1 ≤ next → 1 ≤ serial_ahead next
begins_ahead next begins = grind (arith)

fits_ahead : (next : ℕ) → serial_ahead next ≤ 2 ^ 32
fits_ahead next = grind (arith)

each_ahead : (P Q : Row → Type 0) → ((row : Row) → P row → Q (ahead row)) → (rows : List Row) → All P rows → All Q (map ahead rows)
each_ahead P Q f [] all = All-nil Q
each_ahead P Q f (row ∷ rows) all = All-cons Q (ahead row) (map ahead rows) (f row (All-head P row rows all)) (each_ahead P Q f rows (All-tail P row rows all))

rising_ahead : (rows : List Row) → AreRising rows → AreRising (map ahead rows)
rising_ahead [] rise = tt
rising_ahead (row ∷ rows) rise = (each_ahead (λ other. row.serial < other.serial) (λ other. row.serial < other.serial) (λ other less. less) rows rise.0, rising_ahead rows rise.1)

pub ahead_goes_on : (place : Place) (book : Saved) → MayGoOn place book → MayGoOn place (book_ahead book)
ahead_goes_on place book may =
    let part = part_goes_on place book has_room may in
    record {
      clock_fits = may.clock_fits;
      next_begins = begins_ahead book.next may.next_begins;
      next_fits = fits_ahead book.next;
      rows_live = each_ahead (IsLive book.clock) (IsLive book.clock) (live_ahead book.clock) (filter has_room book.rows) part.rows_live;
      rows_own = each_ahead (IsOwn place book.next) (IsOwn place (serial_ahead book.next)) (own_ahead place book.next may.next_fits) (filter has_room book.rows) part.rows_own;
      rows_rise = rising_ahead (filter has_room book.rows) part.rows_rise;
      ring_fits = may.ring_fits;
    }
