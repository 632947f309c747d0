-- What a writer has once a line was written there whole.
use Rattle.std.proofs.Common.{◌≡◌, ◌∙◌, ◌==◌, ℕ, List, [], ◌∷◌, Bool, true, Option, Some, None, Result, Ok, Err, OnOk, length, sym, subst, arith}
use Rattle.std.proofs.lemmas.Bool.{eqb-true}
use Rattle.std.proofs.lemmas.List.{append-nil}
use Rattle.std.specs.Io.KnownBytes.{Appends, Keeps}

-- a line without bytes adds nothing
pub nothing_more : (known : Option (List ℕ)) (line : List ℕ) (b : Bool) → b ≡ (length line == 0) → b ≡ true → Appends known known line
nothing_more None line b is empty = tt
nothing_more (Some xs) [] b is empty = sym (append-nil xs)
nothing_more (Some xs) (x ∷ line) b is empty = absurd (omega (arith, eqb-true (length (x ∷ line)) 0 (sym is ∙ empty)))

-- it is written, and then nothing more
pub whole_then : {T U E : Type 0} (r : Result T E) (q : Result U E) (x : T) (a b c : Option (List ℕ)) (line : List ℕ) → r ≡ Ok x → OnOk r (Appends a b line) → Keeps b c → OnOk q (Appends a c line)
whole_then r (Err e) x a b c line is h k = tt
whole_then r (Ok y) x a b c line is h k = then_kept a b c (subst (λ o. OnOk o (Appends a b line)) is h) k where
  then_kept : (a b c : Option (List ℕ)) → Appends a b line → Keeps b c → Appends a c line
  then_kept None b c h k = tt
  then_kept (Some xs) None c h k = absurd h
  then_kept (Some xs) (Some ys) None h k = absurd k
  then_kept (Some xs) (Some ys) (Some zs) h k = k ∙ h
