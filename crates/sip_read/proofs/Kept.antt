-- What is kept of a header that may stand.
use Rattle.std.proofs.Common.{◌≡◌, ℕ, Bool, true, false, cond, List, Option, Some, None, Result, Ok, Err, refl, sym, subst}
use Rattle.std.specs.Prelude.{IfOk}
use Rattle.event_headers.specs.declared.error.HeaderError.{HeaderError}
use Rattle.event_headers.specs.declared.error.HeaderError.TheVariants as header_errors
use Rattle.sip_text.specs.declared.error.NoMemory.{NoMemory}
use Rattle.event_headers.specs.Headers.{Says, IsSaid}
use Rattle.sip_text.proofs.Pieces.{some_is}
use Rattle.sip_read.specs.FieldsComputed.{kept, KeptOf}
use Rattle.sip_read.specs.Message.{IsKept}

module _ {V : Type 0} (Is : List ℕ → V → Type 0) (Fits : V → Type 0) (reads : List ℕ → Option V) (fits : V → Bool)
    (takes : (t : List ℕ) (v : V) → reads t ≡ Some v → Is t v) (again : (t : List ℕ) (v : V) → Is t v → reads t ≡ Some v)
    (fit : (v : V) → fits v ≡ true → Fits v) (large : (v : V) → fits v ≡ false → ¬ (Fits v)) where
  pub kept_takes : (t : List ℕ) (x : V) → kept fits (reads t) ≡ Some x → IsKept Is Fits t x
  kept_takes t x e = step (reads t) refl e where
    made : (v : V) → reads t ≡ Some v → (b : Bool) → fits v ≡ b → cond {A = Option V} b (Some v) None ≡ Some x → IsKept Is Fits t x
    made v is true good e = subst (IsKept Is Fits t) (some_is v x e) (takes t v is, fit v good)
    made v is false bad e = absurd cc

    step : (o : Option V) → reads t ≡ o → kept fits o ≡ Some x → IsKept Is Fits t x
    step None is e = absurd cc
    step (Some v) is e = made v is (fits v) refl e

  fits_so : (v : V) → Fits v → fits v ≡ true
  fits_so v f = step (fits v) refl where
    step : (b : Bool) → fits v ≡ b → b ≡ true
    step true e = refl
    step false e = absurd (large v e f)

  pub kept_again : (t : List ℕ) (x : V) → IsKept Is Fits t x → kept fits (reads t) ≡ Some x
  kept_again t x h = rw (again t x h.0, fits_so x h.1) refl

  none_said : (t : List ℕ) → ((v : V) → ¬ (Is t v)) → None ≡ kept fits (reads t)
  none_said t h = step (reads t) refl where
    step : (o : Option V) → reads t ≡ o → None ≡ kept fits o
    step None is = refl
    step (Some v) is = absurd (h v (takes t v is))

  large_said : (t : List ℕ) (v : V) → Is t v → ¬ (Fits v) → None ≡ kept fits (reads t)
  large_said t v is not = rw (again t v is) (step (fits v) refl) where
    step : (b : Bool) → fits v ≡ b → None ≡ cond {A = Option V} b (Some v) None
    step true e = absurd (not (fit v e))
    step false e = refl

  at : (r : Result (Option V) NoMemory) (o p : Option V) → r ≡ Ok o → o ≡ p → IfOk r (λ q. q ≡ p)
  at r o p e same = rw e same

  -- a reader's answer, as the value or none, is what is computed
  pub kept_said : (t : List ℕ) (a : Result V HeaderError) (r : Result (Option V) NoMemory) → IsSaid Is Fits t a → KeptOf a r → IfOk r (λ o. o ≡ kept fits (reads t))
  kept_said t (Ok v) r s k = at r (Some v) (kept fits (reads t)) k (sym (kept_again t v s))
  kept_said t (Err header_errors.Grammar) r s k = at r None (kept fits (reads t)) k (none_said t s)
  kept_said t (Err header_errors.TooLarge) r s k = at r None (kept fits (reads t)) k (large_said t s.0 s.1 s.2)
  kept_said t (Err header_errors.NoMemory) (Ok o) s k = absurd k
  kept_said t (Err header_errors.NoMemory) (Err e) s k = tt

  -- what is said by a reader that takes no memory
  pub said_is : (t : List ℕ) (a : Result V HeaderError) → Says Is Fits t a → IsSaid Is Fits t a
  said_is t (Ok v) s = s
  said_is t (Err header_errors.Grammar) s = s
  said_is t (Err header_errors.TooLarge) s = s
  said_is t (Err header_errors.NoMemory) s = tt
