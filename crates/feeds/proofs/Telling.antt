-- Lists that a wire tells, piece by piece.
use Rattle.std.proofs.Common.{List, [], ◌++◌, Option, Some, None, ap, sym, ◌∙◌, subst, append_assoc}
use Rattle.std.proofs.lemmas.List.{append-nil}
use Rattle.transport.specs.Wires.{Grows}

module _ {T : Type 0} where
  pub grows_none : (known : Option (List T)) → Grows known known []
  grows_none None = tt
  grows_none (Some xs) = sym (append-nil xs)

  pub grows_more : (old mid new : Option (List T)) (xs ys : List T) → Grows old mid xs → Grows mid new ys → Grows old new (xs ++ ys)
  grows_more None mid new xs ys a b = tt
  grows_more (Some p) None new xs ys a b = absurd a
  grows_more (Some p) (Some q) None xs ys a b = absurd b
  grows_more (Some p) (Some q) (Some r) xs ys a b = b ∙ ap (λ l. l ++ ys) a ∙ append_assoc p xs ys

  pub grows_same : (old mid new : Option (List T)) (xs : List T) → Grows old mid xs → Grows mid new [] → Grows old new xs
  grows_same old mid new xs a b = let P : List T → Type 0 = λ l. Grows old new l in subst P (append-nil xs) (grows_more old mid new xs [] a b)
