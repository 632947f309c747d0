-- When requests were let through, as one more is or one is forgotten.
use Rattle.std.proofs.Common.{◌≡◌, ℕ, Bool, true, false, cond, List, Option, Some, None, refl, sym, ap, ◌∙◌, inl, inr}
use Rattle.std.specs.Ordering.{is_eq, nat_cmp}
use Rattle.std.specs.Cmp.Lexicographic.{slice_cmp, bytes_decides}
use Rattle.std.proofs.lemmas.Map.Text.{is_eq-slice_cmp}
use Rattle.service.specs.Newcomers.{IsPassed, IsSwept}

pub swept_same : (was : Option ℕ) → IsSwept was was
swept_same was = inl refl

pub swept_more : (a b c : Option ℕ) → IsSwept a b → IsSwept b c → IsSwept a c
swept_more a b c (inl first) (inl next) = inl (next ∙ first)
swept_more a b c (inr first) (inl next) = inr (next ∙ first)
swept_more a b c first (inr next) = inr next

-- one is forgotten, at this name or at another one
pub swept_where : (here : Bool) (was now : Option ℕ) → now ≡ cond here None was → IsSwept was now
swept_where true was now is = inr is
swept_where false was now is = inl is

pub passed_swept : (name : Option (List ℕ)) (moment : ℕ) (n : List ℕ) (was now : Option ℕ) → IsSwept was now → IsPassed name moment n was now
passed_swept name moment n was now swept = inl swept

pub passed_where : (name : List ℕ) (moment : ℕ) (n : List ℕ) (was mid now : Option ℕ) → IsSwept was mid
    → now ≡ cond (is_eq (slice_cmp nat_cmp name n)) (Some moment) mid → IsPassed (Some name) moment n was now
passed_where name moment n was mid now swept is = by_name (is_eq (slice_cmp nat_cmp name n)) refl is where
  by_name : (here : Bool) → is_eq (slice_cmp nat_cmp name n) ≡ here → now ≡ cond here (Some moment) mid → IsPassed (Some name) moment n was now
  by_name true same at_name = inr (ap Some ((bytes_decides name n).0 (sym (is_eq-slice_cmp name n) ∙ same)), at_name)
  by_name false other same = inl (swept_more was mid now swept (inl same))
