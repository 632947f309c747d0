-- A turn leaves fewer that are due at its moment.
use Rattle.std.proofs.Common.{◌≡◌, ◌∙◌, sym, ap, refl, inl, inr, ℕ, zero, suc, ◌+◌, ◌<◌, ◌≤◌, Bool, true, false, Option, Some, None, List, [], ◌∷◌, ◌++◌, arith, option_to_list}
use Rattle.std.specs.Prelude.{filter_map, nat_le, if◌then◌else◌}
use Rattle.std.specs.List.{cons_option}
use Rattle.std.proofs.lemmas.List.{append-nil}
use Rattle.std.proofs.lemmas.Bool.Decides.{nat_tests}
use Rattle.transactions.specs.declared.open.Open.{Open}
use Rattle.transactions.specs.declared.book.Book.{Book}
use Rattle.transactions.specs.Timers.{has_name, alarm, again, is_over}
use Rattle.transactions.specs.Machine.{wherever, soonest, turned, up_count, ups}
use Rattle.transactions.specs.Stored.{at, with_serial, opened, live_list, IsSound}
use Rattle.transactions.proofs.Among.{Among, among_push, among_soonest}
use Rattle.transactions.proofs.Listing.{same_some, found_serial}
use Rattle.transactions.proofs.Sounds.{is_name, fired, longer_within}

ups-cons : (now : ℕ) (o : Option Open) (xs : List Open) → ups now (cons_option o xs) ≡ up_count now o + ups now xs
ups-cons now None xs = omega arith
ups-cons now (Some t) xs = refl

module _ (now : ℕ) (f : Open → Option Open) where
  ups_le : (xs : List Open) → ((u : Open) → Among u xs → up_count now (f u) ≤ up_count now (Some u)) → ups now (filter_map f xs) ≤ ups now xs
  ups_le [] h = omega arith
  ups_le (x ∷ xs) h =
      let first = h x (inl refl) in
      let rest = ups_le xs (λ u a. h u (inr a)) in
      let cons = ups-cons now (f x) (filter_map f xs) in
      omega (arith, first, rest, cons)

  ups_lt : (xs : List Open) (t : Open) → Among t xs → up_count now (f t) ≡ 0 → up_count now (Some t) ≡ 1 → ((u : Open) → Among u xs → up_count now (f u) ≤ up_count now (Some u)) → ups now (filter_map f xs) < ups now xs
  ups_lt [] t a gone was h = absurd a
  ups_lt (x ∷ xs) t (inl is) gone was h =
      let rest = ups_le xs (λ u a. h u (inr a)) in
      let cons = ups-cons now (f x) (filter_map f xs) in
      let less = ap (λ (y : Open). up_count now (f y)) (sym is) ∙ gone in
      let more = ap (λ (y : Open). up_count now (Some y)) (sym is) ∙ was in
      omega (arith, rest, cons, less, more)
  ups_lt (x ∷ xs) t (inr a) gone was h =
      let first = h x (inl refl) in
      let rest = ups_lt xs t a gone was (λ u b. h u (inr b)) in
      let cons = ups-cons now (f x) (filter_map f xs) in
      omega (arith, first, rest, cons)

-- what is sent again is not due at that moment
again_later : (now : ℕ) (t : Open) → 500 ≤ t.interval → nat_le (alarm t) now ≡ true → is_over now t ≡ false → up_count now (Some (again now t)) ≡ 0
unfolding again
again_later now t h up over =
    let early = (fired t now up over).1 in
    let long = (longer_within t.phase t.interval h).0 in
    let test : nat_le (alarm (again now t)) now ≡ false = grind (arith, nat_tests) in
    ap (λ b. if b then 1 else 0) test

among_opened : (one : ℕ → Option Open) (n : ℕ) (t : Open) → Among t (opened one n) → (s : ℕ) × (one s ≡ Some t)
among_opened one zero t a = absurd a
among_opened one (suc n) t a = by (one n) refl a (among_opened one n t)
  where
    by : (o : Option Open) → one n ≡ o → Among t (opened one n ++ option_to_list o) → (Among t (opened one n) → (s : ℕ) × (one s ≡ Some t)) → (s : ℕ) × (one s ≡ Some t)
    by None e b before = before (without b)
      where
        without : Among t (opened one n ++ []) → Among t (opened one n)
        without b = let same : opened one n ++ [] ≡ opened one n = append-nil (opened one n) in rw same at b
    by (Some u) e b before = elim (among_push t u (opened one n) b) [ inl c ↦ before c | inr is ↦ (n, e ∙ ap (λ (x : Open). Some x) (sym is)) ]

pub live_place : (b : Book) (t : Open) → Among t (live_list b) → (p : ℕ) × (at b p ≡ Some t)
live_place b t a =
    let it = among_opened (with_serial b.slab.slots) b.kept t a in
    let found = found_serial b.slab.slots it.0 t it.1 in
    (found.0, found.1)

pub turned_fewer : (now : ℕ) (b : Book) (t : Open) → IsSound b → Some t ≡ soonest (live_list b) → nat_le (alarm t) now ≡ true → ups now (filter_map (wherever t.tag t.number (turned now)) (live_list b)) < ups now (live_list b)
turned_fewer now b t h first up = ups_lt now (wherever t.tag t.number (turned now)) (live_list b) t among gone (ap (λ b. if b then 1 else 0) up) each
  where
    among : Among t (live_list b)
    among = among_soonest t (live_list b) (sym first)

    place : (p : ℕ) × (at b p ≡ Some t)
    place = live_place b t among

    own : has_name t.tag t.number t ≡ true
    own = is_name t.tag t.number t refl refl

    gone : up_count now (wherever t.tag t.number (turned now) t) ≡ 0
    gone = ap (λ b. up_count now (if b then turned now t else Some t)) own ∙ by (is_over now t) refl
      where
        by : (b : Bool) → is_over now t ≡ b → up_count now (if b then None else Some (again now t)) ≡ 0
        by true e = refl
        by false e = (let timely = h.timely place.0 t place.1 in again_later now t timely.shortest up e)

    each : (u : Open) → Among u (live_list b) → up_count now (wherever t.tag t.number (turned now) u) ≤ up_count now (Some u)
    each u a = by (has_name t.tag t.number u) refl
      where
        by : (x : Bool) → has_name t.tag t.number u ≡ x → up_count now (if x then turned now u else Some u) ≤ up_count now (Some u)
        by true e =
            let it = live_place b u a in
            let here = h.one_name place.0 it.0 t u place.1 it.1 e in
            let same : t ≡ u = same_some (ap (at b) (sym here) ∙ place.1) it.1 in
            let none = ap (λ (y : Open). up_count now (turned now y)) (sym same) ∙ sym (ap (λ b. up_count now (if b then turned now t else Some t)) own) ∙ gone in
            omega (arith, none)
        by false e = omega arith
