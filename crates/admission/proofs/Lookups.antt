-- Look-ups in a list of entries: without one of them, and without the last.
use Rattle.std.proofs.Common.{◌≡◌, ◌≢◌, ℕ, zero, suc, ◌+◌, ◌-◌, ◌<◌, ◌≤◌, Bool, true, false, cond, ◌⊎◌, inl, inr, List, [], ◌∷◌, length, take, Option, Some, None, nat_eq, refl, sym, ap, ◌∙◌, arith}
use Rattle.std.specs.Prelude.{slice_get}
use Rattle.std.specs.Map.{lookup, lookup_entry, remove_entry}
use Rattle.std.specs.Option.{option_map_or}
use Rattle.std.proofs.lemmas.Bool.{eqb-true, eq-eqb}
use Rattle.lru.specs.LruCache.{lru_cache, last_entry, put_entries}

-- other numbers are not equal
pub apart : (a b : ℕ) → a ≢ b → nat_eq a b ≡ false
apart a b ne = (elim (nat_eq a b) as (λ y. nat_eq a b ≡ y → y ≡ false) [ true ↦ λ e. absurd (ne (eqb-true a b e)) | false ↦ λ e. refl ]) refl

module _ {X : Type 0} where
  -- another entry is gone
  pub lookup-remove_other : (k s : ℕ) → s ≢ k → (es : List (ℕ × X)) → lookup (nat_eq s) (remove_entry (nat_eq k) es) ≡ lookup (nat_eq s) es
  lookup-remove_other k s ne [] = refl
  lookup-remove_other k s ne (f ∷ es) = (elim (nat_eq k f.0) as (λ y. nat_eq k f.0 ≡ y → lookup (nat_eq s) (cond y es (f ∷ remove_entry (nat_eq k) es)) ≡ lookup (nat_eq s) (f ∷ es)) [
    | true ↦ λ e. (let h : nat_eq s f.0 ≡ false = apart s f.0 (λ q. ne (q ∙ sym (eqb-true k f.0 e))) in rw h refl)
    | false ↦ λ e. ap (λ (o : Option X). cond (nat_eq s f.0) (Some f.1) o) (lookup-remove_other k s ne es)
  ]) refl

  -- no value, no entry
  pub no_entry : (test : ℕ → Bool) (es : List (ℕ × X)) → lookup test es ≡ None → lookup_entry test es ≡ None
  no_entry test [] h = refl
  no_entry test (f ∷ es) h = (elim (test f.0) as (λ y. test f.0 ≡ y → cond y (Some f) (lookup_entry test es) ≡ None) [
    | true ↦ λ e. (let k : Some f.1 ≡ None = rw e at h in absurd cc)
    | false ↦ λ e. no_entry test es (rw e at h)
  ]) refl

  -- an entry, a value
  pub some_entry : (test : ℕ → Bool) (es : List (ℕ × X)) (v : X) → lookup test es ≡ Some v → (e : ℕ × X) × (lookup_entry test es ≡ Some e) × (test e.0 ≡ true)
  some_entry test [] v h = absurd cc
  some_entry test (f ∷ es) v h = (elim (test f.0) as (λ y. test f.0 ≡ y → (e : ℕ × X) × (cond y (Some f) (lookup_entry test es) ≡ Some e) × (test e.0 ≡ true)) [
    | true ↦ λ e. (f, refl, e)
    | false ↦ λ e. some_entry test es v (rw e at h)
  ]) refl

  -- the last entry was the one that a look-up found, and is gone
  pub record WasLast (test : ℕ → Bool) (es kept : List (ℕ × X)) (n : ℕ) : Type 0 where
    pub entry : ℕ × X
    pub last : slice_get es n ≡ Some entry
    pub found : lookup test es ≡ Some entry.1
    pub gone : lookup test kept ≡ None

  head_found : (test : ℕ → Bool) (f : ℕ × X) (es : List (ℕ × X)) → test f.0 ≡ true → lookup test (f ∷ es) ≡ Some f.1
  head_found test f es e = rw e refl

  head_passed : (test : ℕ → Bool) (f : ℕ × X) (es : List (ℕ × X)) → test f.0 ≡ false → lookup test (f ∷ es) ≡ lookup test es
  head_passed test f es e = rw e refl

  -- all but the last
  pub lookup-front : (test : ℕ → Bool) (es : List (ℕ × X)) (n : ℕ) → length es ≡ suc n
      → (lookup test (take n es) ≡ lookup test es) ⊎ WasLast test es (take n es) n
  lookup-front test [] n h = absurd (omega (arith, h))
  lookup-front test (f ∷ []) zero h = (elim (test f.0) as (λ y. test f.0 ≡ y → (lookup test [] ≡ lookup test (f ∷ [])) ⊎ WasLast test (f ∷ []) [] zero) [
    | true ↦ λ e. inr (record { entry = f; last = refl; found = head_found test f [] e; gone = refl })
    | false ↦ λ e. inl (sym (head_passed test f [] e))
  ]) refl
  lookup-front test (f ∷ []) (suc n) h = absurd (omega (arith, h))
  lookup-front test (f ∷ g ∷ es) zero h = absurd (omega (arith, h))
  lookup-front test (f ∷ g ∷ es) (suc n) h = (elim (test f.0) as (λ y. test f.0 ≡ y → (lookup test (f ∷ take n (g ∷ es)) ≡ lookup test (f ∷ g ∷ es)) ⊎ WasLast test (f ∷ g ∷ es) (f ∷ take n (g ∷ es)) (suc n)) [
    | true ↦ λ e. inl (head_found test f (take n (g ∷ es)) e ∙ sym (head_found test f (g ∷ es) e))
    | false ↦ λ e. elim (lookup-front test (g ∷ es) n (omega (arith, h))) [
      | inl same ↦ inl (head_passed test f (take n (g ∷ es)) e ∙ same ∙ sym (head_passed test f (g ∷ es) e))
      | inr w ↦ inr (record { entry = w.entry; last = w.last; found = head_passed test f (g ∷ es) e ∙ w.found; gone = head_passed test f (take n (g ∷ es)) e ∙ w.gone })
    ]
  ]) refl
