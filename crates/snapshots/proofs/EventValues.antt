-- The event that a pair of texts is, if they are tokens.
use Rattle.std.proofs.Common.{◌≡◌, ◌<◌, ℕ, Bool, true, false, cond, List, [], ◌∷◌, Option, Some, None, length, refl, sym, ap, ◌∙◌, arith}
use Rattle.std.specs.Prelude.{IfSome, IsSome, nat_lt, ◌&&◌}
use Rattle.std.specs.List.{list_all}
use Rattle.std.proofs.lemmas.Bool.Decides.{nat_tests}
use Rattle.sip_text.specs.declared.scan.Class.TheVariants as class
use Rattle.sip_text.specs.Bytes.{is_in}
use Rattle.sip_text.specs.Grammar.{IsToken}
use Rattle.sip_text.specs.Tokens.{is_token}
use Rattle.sip_text.proofs.Pieces.{and_both}
use Rattle.event_headers.specs.Values.{EventValue}
use Rattle.event_headers.specs.Headers.{IsEventValue}
use Rattle.event_headers.proofs.Tokens.{token_tested}
use Rattle.snapshots.specs.Rows.{is_some_token, is_event, event_of}

pub tested_token : (text : List ℕ) → IsToken text → is_token text ≡ true
tested_token [] h = absurd (h.1 refl)
tested_token (x ∷ xs) h =
    let some : nat_lt 0 (length (x ∷ xs)) ≡ true = grind (arith, nat_tests) in
    rw some h.0

some_tested : (o : Option (List ℕ)) → is_some_token o ≡ true → IfSome o IsToken
some_tested None e = tt
some_tested (Some w) e = token_tested w e

tested_some : (o : Option (List ℕ)) → IfSome o IsToken → is_some_token o ≡ true
tested_some None h = refl
tested_some (Some w) h = tested_token w h

abbrev pub pair_event : List ℕ → Option (List ℕ) → EventValue
pair_event p i = record { «package» = p; id = i }

pub event_made : (r : Option EventValue) (p : List ℕ) (i : Option (List ℕ)) → IfSome r (λ e. e ≡ pair_event p i) → (IsSome r → IsEventValue (pair_event p i)) → (IsEventValue (pair_event p i) → IsSome r) → r ≡ event_of (p, i)
unfolding event_of
event_made r p i value good found = step (is_token p && is_some_token i) refl r value good found where
  step : (b : Bool) → (is_token p && is_some_token i) ≡ b → (r : Option EventValue) → IfSome r (λ e. e ≡ pair_event p i) → (IsSome r → IsEventValue (pair_event p i)) → (IsEventValue (pair_event p i) → IsSome r) → r ≡ cond b (Some (pair_event p i)) None
  step true e (Some x) value good found = ap (λ v. Some v) value
  step true e None value good found = let both = and_both (is_token p) (is_some_token i) e in let none = found (token_tested p both.0, some_tested i both.1) in absurd (cc)
  step false e (Some x) value good found =
      let h = good refl in
      let a = tested_token p h.0 in
      let b = tested_some i h.1 in
      let both : (is_token p && is_some_token i) ≡ true = rw (a, b) refl in
      absurd (cc)
  step false e None value good found = refl

pub are_tested : (e : EventValue) → IsEventValue e → is_event e ≡ true
are_tested e h = rw (tested_token e.package h.0, tested_some e.id h.1) refl
