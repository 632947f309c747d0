-- What was read and written, piece by piece.
use Rattle.std.specs.Prelude.{◌&&◌}
use Rattle.std.proofs.lemmas.Bool.{ne_eqb}
use Rattle.std.proofs.Common.{◌≡◌, ℕ, ◌≤◌, Bool, eqb, cond, List, [], ◌++◌, length, take, drop, Option, Some, None, refl, sym, ap, ◌∙◌, append_assoc}
use Rattle.std.specs.Io.KnownBytes.{Consumes, Appends, Keeps}
use Rattle.std.proofs.lemmas.List.{append-nil, take-append-drop}
use Rattle.transport.specs.Devices.{AppendsFront}

-- ---- reading

-- a reader that gave these bytes so far, in so many reads, and none failed
pub record GaveSoFar (old new : Option (List ℕ)) (bytes : List ℕ) (count before now : ℕ) : Type 0 where
  pub consumed : Consumes old new bytes
  pub fits : length bytes ≤ 1048576
  pub reads : count ≤ length bytes
  pub same : now ≡ before

pub consumes_none : (known : Option (List ℕ)) → Consumes known known []
consumes_none None = tt
consumes_none (Some xs) = refl

pub consumes_more : (old mid new : Option (List ℕ)) (xs ys : List ℕ) → Consumes old mid xs → Consumes mid new ys → Consumes old new (xs ++ ys)
consumes_more None mid new xs ys a b = tt
consumes_more (Some p) None new xs ys a b = absurd a
consumes_more (Some p) (Some q) None xs ys a b = absurd b
consumes_more (Some p) (Some q) (Some r) xs ys a b = a ∙ ap (λ (l : List ℕ). xs ++ l) b ∙ sym (append_assoc xs ys r)

-- ---- writing

pub appends_none : (known : Option (List ℕ)) → Appends known known []
appends_none None = tt
appends_none (Some xs) = sym (append-nil xs)

pub appends_more : (old mid new : Option (List ℕ)) (xs ys : List ℕ) → Appends old mid xs → Appends mid new ys → Appends old new (xs ++ ys)
appends_more None mid new xs ys a b = tt
appends_more (Some p) None new xs ys a b = absurd a
appends_more (Some p) (Some q) None xs ys a b = absurd b
appends_more (Some p) (Some q) (Some r) xs ys a b = b ∙ ap (λ (l : List ℕ). l ++ ys) a ∙ append_assoc p xs ys

pub appends_kept : (old mid new : Option (List ℕ)) (xs : List ℕ) → Appends old mid xs → Keeps mid new → Appends old new xs
appends_kept None mid new xs a b = tt
appends_kept (Some p) None new xs a b = absurd a
appends_kept (Some p) (Some q) None xs a b = absurd b
appends_kept (Some p) (Some q) (Some r) xs a b = b ∙ a

pub front_of : (old new : Option (List ℕ)) (bytes : List ℕ) (n : ℕ) → Appends old new (take n bytes) → AppendsFront old new bytes
front_of old new bytes n a = (take n bytes, drop n bytes, a, sym (take-append-drop n bytes))

-- a writer that took a front of the page, and didn't fail
pub record TookSoFar (old new : Option (List ℕ)) (page : List ℕ) (sent before now : ℕ) : Type 0 where
  pub appended : Appends old new (take sent page)
  pub within : sent ≤ length page
  pub same : now ≡ before

-- a write that took a byte is no failure
pub took_some : (n : ℕ) (b : Bool) (x y : ℕ) → (n ≡ 0 → ⊥) → cond (eqb n 0 && b) x y ≡ y
took_some n b x y h = rw (ne_eqb n 0 h) refl
