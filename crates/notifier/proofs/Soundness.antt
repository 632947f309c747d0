-- A ledger whose rows were told is sound.
use Rattle.std.proofs.Common.{◌≡◌, ℕ, ◌+◌, ◌<◌, ◌≤◌, List, All, sym, ap, subst, ◌∙◌, arith}
use Rattle.std.specs.Prelude.{IfSome, ◌^◌}
use Rattle.package.specs.Content.{Maps}
use Rattle.notifier_model.specs.declared.place.Place.{Place}
use Rattle.notifier_model.specs.declared.row.Row.{Row}
use Rattle.notifier.specs.declared.store.Ledger.{Ledger}
use Rattle.notifier_model.specs.Rows.{Telling, Turned, times_out}
use Rattle.notifier.specs.Ledger.{IsSound}
use Rattle.notifier.specs.Stored.{rows_of, IsIndexed}
use Rattle.notifier.specs.Sound.{IsLive, IsOwn, AreRising}
use Rattle.notifier.proofs.Lives.{all_left, due_lives}
use Rattle.notifier.proofs.Passes.{left}
use Rattle.notifier.proofs.Timely.{timely_later}
use Rattle.notifier.proofs.Owned.{Keeps, own_left, rising_left, due_keeps}

pub sound_told : {P : Type 0} (place : Place) (a b : Ledger P) (rule : Row → Turned) → ((row : Row) → IsLive a.clock row → IfSome (rule row).row (IsLive a.clock)) → Keeps rule → IsSound place a
    → rows_of b.rows ≡ left rule (rows_of a.rows) → IsIndexed b.rows → (b.clock ≡ a.clock) × (b.next ≡ a.next) × (b.ring ≡ a.ring) → IsSound place b
sound_told place a b rule lives keeps s rows indexed same = record {
  clock_fits = subst (λ n. n < 2 ^ 63) (sym same.0) s.clock_fits;
  next_begins = subst (λ n. 1 ≤ n) (sym same.1) s.next_begins;
  next_fits = subst (λ n. n ≤ 2 ^ 32) (sym same.1) s.next_fits;
  rows_indexed = indexed;
  rows_live = subst (λ n. All (IsLive n) (rows_of b.rows)) (sym same.0) (subst (All (IsLive a.clock)) (sym rows) (all_left rule (IsLive a.clock) (IsLive a.clock) lives (rows_of a.rows) s.rows_live));
  rows_own = subst (λ n. All (IsOwn place n) (rows_of b.rows)) (sym same.1) (subst (All (IsOwn place a.next)) (sym rows) (own_left place a.next rule keeps (rows_of a.rows) s.rows_own));
  rows_rise = subst AreRising (sym rows) (rising_left rule keeps (rows_of a.rows) s.rows_rise);
  ring_fits = ap (λ r. r.capacity) same.2 ∙ s.ring_fits;
}

-- the clock went on to a moment before these rows were told of it
pub sound_ticked : {maps : Maps} {P : Type 0} (place : Place) (a b : Ledger P) (t : Telling maps) → a.clock ≤ t.clock → t.clock < 2 ^ 63 → IsSound place a
    → rows_of b.rows ≡ left (times_out t) (rows_of a.rows) → IsIndexed b.rows → (b.clock ≡ t.clock) × (b.next ≡ a.next) × (b.ring ≡ a.ring) → IsSound place b
sound_ticked place a b t on fits s rows indexed same = record {
  clock_fits = subst (λ n. n < 2 ^ 63) (sym same.0) fits;
  next_begins = subst (λ n. 1 ≤ n) (sym same.1) s.next_begins;
  next_fits = subst (λ n. n ≤ 2 ^ 32) (sym same.1) s.next_fits;
  rows_indexed = indexed;
  rows_live = subst (λ n. All (IsLive n) (rows_of b.rows)) (sym same.0) (subst (All (IsLive t.clock)) (sym rows)
      (all_left (times_out t) (IsLive a.clock) (IsLive t.clock) (λ row h. due_lives t row (let fits_still : row.sub.due ≤ a.clock + 4294967295 = h.time_fits in omega arith) (timely_later a.clock t.clock row.unanswered on h.timely)) (rows_of a.rows) s.rows_live));
  rows_own = subst (λ n. All (IsOwn place n) (rows_of b.rows)) (sym same.1) (subst (All (IsOwn place a.next)) (sym rows) (own_left place a.next (times_out t) (due_keeps t) (rows_of a.rows) s.rows_own));
  rows_rise = subst AreRising (sym rows) (rising_left (times_out t) (due_keeps t) (rows_of a.rows) s.rows_rise);
  ring_fits = ap (λ r. r.capacity) same.2 ∙ s.ring_fits;
}
