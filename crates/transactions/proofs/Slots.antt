-- The slots of a slab, one at a time.
use Rattle.std.proofs.Common.{◌≡◌, ap, refl, ℕ, zero, suc, ◌<◌, cond, Option, Some, None, List, [], ◌∷◌, length, arith}
use Rattle.std.specs.Prelude.{is_some, count_by, slice_set, slice_index_or}
use Rattle.std.proofs.lemmas.List.{get_or-set_same, get_or-set_other}
use Rattle.std.proofs.lemmas.List.Sums.{sum_by-set, sum_by-cons}
use Rattle.slab.specs.Slab.{Slab, get, Updates, with_value}

module _ {T : Type 0} where
  -- where a slot is filled, it is one of the slots
  pub filled_within : (slots : List (Option T)) (k : ℕ) (t : T) → slice_index_or slots k None ≡ Some t → k < length slots
  filled_within [] k t e = absurd (cc)
  filled_within (slot ∷ slots) zero t e = omega arith
  filled_within (slot ∷ slots) (suc k) t e = let h = filled_within slots k t e in omega (arith, h)

  pub updates_one : (s : Slab T) (k : ℕ) (t u : T) → get s k ≡ Some t → Updates s (with_value s k u) k (Some u)
  updates_one s k t u e = record {
    changed = get_or-set_same s.slots k (Some u) None (filled_within s.slots k t e);
    others = λ j ne. get_or-set_other s.slots k j (Some u) None ne;
  }

  abbrev one_if : Option T → ℕ
  one_if slot = cond (is_some slot) 1 0

  pub count_set : (slots : List (Option T)) (k : ℕ) (t u : T) → slice_index_or slots k None ≡ Some t → count_by is_some (slice_set slots k (Some u)) ≡ count_by is_some slots
  count_set slots k t u e =
      let set = sum_by-set one_if slots k (Some u) None (filled_within slots k t e) in
      let one : one_if (slice_index_or slots k None) ≡ 1 = ap one_if e in
      omega (arith, set, one)

  -- where the count is not 0, some slot is filled
  pub some_filled : (slots : List (Option T)) → 0 < count_by is_some slots → (k : ℕ) × (t : T) × (slice_index_or slots k None ≡ Some t)
  some_filled [] p = absurd (omega (arith, p))
  some_filled (Some x ∷ slots) p = (0, x, refl)
  some_filled (None ∷ slots) p = let cons = sum_by-cons one_if None slots in let h = some_filled slots (omega (arith, p, cons)) in (suc h.0, h.1, h.2)
