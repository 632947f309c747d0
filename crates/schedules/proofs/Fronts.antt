-- Lists of which one is the first part of another.
use Rattle.std.proofs.Common.{◌≡◌, List, [], ◌∷◌, ◌++◌, length, drop, ap, sym, ◌∙◌, append_assoc}
use Rattle.std.proofs.Math.Seq.{drop-append_seam}
use Rattle.queues.specs.Items.{StartsWith}

module _ {A : Type 0} where
  pub first_of_more : (some all more : List A) → StartsWith all some → StartsWith (all ++ more) some
  first_of_more some all more h = (h.0 ++ more, ap (λ l. l ++ more) h.1 ∙ append_assoc some h.0 more)

  pub first_of_all : (some all whole : List A) → StartsWith all some → StartsWith whole all → StartsWith whole some
  first_of_all some all whole h g = (h.0 ++ g.0, g.1 ∙ ap (λ l. l ++ g.0) h.1 ∙ append_assoc some h.0 g.0)

  -- with the next one
  pub next_first : (some all more : List A) (x : A) → StartsWith all some → drop (length some) all ≡ x ∷ more → StartsWith all (some ++ x ∷ [])
  next_first some all more x h is =
      let rest : h.0 ≡ x ∷ more = sym (drop-append_seam some h.0) ∙ ap (drop (length some)) (sym h.1) ∙ is in
      (more, h.1 ∙ ap (λ l. some ++ l) rest ∙ sym (append_assoc some (x ∷ []) more))
