-- The first box of a name, by the place at which a scan finds it.
use Rattle.std.proofs.Common.{◌≡◌, ℕ, suc, ◌+◌, ◌<◌, List, [], ◌∷◌, Option, None, Some, Bool, true, false, cond, refl, sym, ap, subst, ◌∙◌, map, length, get_or, slice_set, arith}
use Rattle.std.specs.Str.{bytes_eq}
use Rattle.std.specs.List.{position_from}
use Rattle.package.specs.Content.{Seen}
use Rattle.package.specs.Changes.{change_of, event_of_change as event_of}
use Rattle.package.specs.Boxes.{first_box, change_first, before_boxes, after_box}
use Rattle.package.specs.declared.change.Change.{Change}
use Rattle.package.specs.declared.change.Outcome.{Outcome}
use Rattle.package.specs.declared.change.Outcome.TheVariants.{Unknown}

module _ {X : Type 0} (seen : X → Seen) (name : List ℕ) where
  abbrev pub scan : ℕ → List X → Option ℕ
  scan k xs = position_from (λ b. bytes_eq (seen b).name name) k xs

  -- the box at j is the first of the name
  pub record Hit (xs : List X) (j : ℕ) : Type 0 where
    pub within : j < length xs
    pub first : (x : X) → x ≡ get_or xs j x → first_box name (map seen xs) ≡ Some (seen x)
    pub change : (c : Change) → event_of c ≡ name → (x y : X) (o : Outcome) → x ≡ get_or xs j x → (o, seen y) ≡ change_of (seen x) c → (o, map seen (slice_set xs j y)) ≡ change_first (map seen xs) c
    pub same : (x y : X) → x ≡ get_or xs j x → seen y ≡ seen x → map seen (slice_set xs j y) ≡ map seen xs

  -- how `change_first` chooses at the first box
  chosen : (x : X) (xs : List X) (c : Change) (b : Bool) → event_of c ≡ name → bytes_eq (seen x).name name ≡ b → change_first (map seen (x ∷ xs)) c ≡ cond b (before_boxes (change_of (seen x) c) (map seen xs)) (after_box (seen x) (change_first (map seen xs) c))
  chosen x xs c b n p =
      ap (λ m. cond (bytes_eq (seen x).name m) (before_boxes (change_of (seen x) c) (map seen xs)) (after_box (seen x) (change_first (map seen xs) c))) n
      ∙ ap (λ t. cond t (before_boxes (change_of (seen x) c) (map seen xs)) (after_box (seen x) (change_first (map seen xs) c))) p

  here : (x : X) (xs : List X) → bytes_eq (seen x).name name ≡ true → Hit (x ∷ xs) 0
  here x xs p = record {
    within = omega arith;
    first = λ d q. ap (λ b. cond b (Some (seen x)) (first_box name (map seen xs))) p ∙ ap (λ z. Some (seen z)) (sym q);
    change = λ c n d y o q e. ap (λ r. before_boxes r (map seen xs)) (e ∙ ap (λ z. change_of (seen z) c) q) ∙ sym (chosen x xs c true n p);
    same = λ d y q e. ap (λ s. s ∷ map seen xs) (e ∙ ap seen q);
  }

  there : (x : X) (xs : List X) (j : ℕ) → bytes_eq (seen x).name name ≡ false → Hit xs j → Hit (x ∷ xs) (suc j)
  there x xs j p h = record {
    within = let w : j < length xs = h.within in omega arith;
    first = λ d q. ap (λ b. cond b (Some (seen x)) (first_box name (map seen xs))) p ∙ h.first d q;
    change = λ c n d y o q e. ap (after_box (seen x)) (h.change c n d y o q e) ∙ sym (chosen x xs c false n p);
    same = λ d y q e. ap (λ ss. seen x ∷ ss) (h.same d y q e);
  }

  pub found : (xs : List X) (k i : ℕ) → scan k xs ≡ Some i → (j : ℕ) × (i ≡ k + j) × Hit xs j
  found [] k i e = absurd (cc)
  found (x ∷ xs) k i e = by (bytes_eq (seen x).name name) refl e (found xs (k + 1) i)
    where
      by : (b : Bool) → bytes_eq (seen x).name name ≡ b → cond b (Some k) (scan (k + 1) xs) ≡ Some i → (scan (k + 1) xs ≡ Some i → (j : ℕ) × (i ≡ k + 1 + j) × Hit xs j) → (j : ℕ) × (i ≡ k + j) × Hit (x ∷ xs) j
      by true p e more = (0, (let q : k ≡ i = cc in omega arith), here x xs p)
      by false p e more = let r = more e in (suc r.0, (let q : i ≡ k + 1 + r.0 = r.1 in omega arith), there x xs r.0 p r.2)

  pub missed : (xs : List X) (k : ℕ) → scan k xs ≡ None → first_box name (map seen xs) ≡ None
  missed [] k e = refl
  missed (x ∷ xs) k e = by (bytes_eq (seen x).name name) refl e (missed xs (k + 1))
    where
      by : (b : Bool) → bytes_eq (seen x).name name ≡ b → cond b (Some k) (scan (k + 1) xs) ≡ None → (scan (k + 1) xs ≡ None → first_box name (map seen xs) ≡ None) → first_box name (map seen (x ∷ xs)) ≡ None
      by true p e more = absurd (cc)
      by false p e more = ap (λ b. cond b (Some (seen x)) (first_box name (map seen xs))) p ∙ more e

  pub missed_change : (c : Change) → event_of c ≡ name → (xs : List X) (k : ℕ) → scan k xs ≡ None → change_first (map seen xs) c ≡ (Unknown, map seen xs)
  missed_change c n [] k e = refl
  missed_change c n (x ∷ xs) k e = by (bytes_eq (seen x).name name) refl e (missed_change c n xs (k + 1))
    where
      by : (b : Bool) → bytes_eq (seen x).name name ≡ b → cond b (Some k) (scan (k + 1) xs) ≡ None → (scan (k + 1) xs ≡ None → change_first (map seen xs) c ≡ (Unknown, map seen xs)) → change_first (map seen (x ∷ xs)) c ≡ (Unknown, map seen (x ∷ xs))
      by true p e more = absurd (cc)
      by false p e more = chosen x xs c false n p ∙ ap (after_box (seen x)) (more e)

  -- at the place that a scan from the front answers
  pub hit : (xs : List X) (i : ℕ) → scan 0 xs ≡ Some i → Hit xs i
  hit xs i e = let r = found xs 0 i e in subst (Hit xs) (let q : i ≡ 0 + r.0 = r.1 in omega arith) r.2
