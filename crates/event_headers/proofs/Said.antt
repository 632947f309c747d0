-- From what the functions on lists give to what a text says.
use Rattle.std.proofs.Common.{◌≡◌, ℕ, Bool, true, false, cond, List, Option, Some, None, Result, Ok, Err, refl, sym, subst}
use Rattle.event_headers.specs.declared.error.HeaderError.{HeaderError}
use Rattle.event_headers.specs.declared.error.HeaderError.TheVariants as errors
use Rattle.event_headers.specs.HeaderReading.{outcome}
use Rattle.event_headers.specs.Headers.{Says, IsSaid, Answers, IsExact}

-- the relation, whether numbers fit, and the functions that compute both
module _ {V : Type 0} (Is : List ℕ → V → Type 0) (Fits : V → Type 0) (f : List ℕ → Option V) (fits : V → Bool)
    (takes : (t : List ℕ) (v : V) → f t ≡ Some v → Is t v) (again : (t : List ℕ) (v : V) → Is t v → f t ≡ Some v)
    (fit : (v : V) → fits v ≡ true → Fits v) (large : (v : V) → fits v ≡ false → ¬ (Fits v)) where
  abbrev Answer : Type 0
  Answer = Result V HeaderError

  abbrev right : V → Answer
  right v = Ok v

  abbrev wrong : HeaderError → Answer
  wrong e = Err e

  said_of : (t : List ℕ) (o : Option V) → f t ≡ o → Says Is Fits t (outcome fits o)
  said_of t None e = λ v is. (let k = again t v is in absurd cc)
  said_of t (Some v) e = step (fits v) refl where
    step : (b : Bool) → fits v ≡ b → Says Is Fits t (cond {A = Answer} b (right v) (wrong errors.TooLarge))
    step true h = (takes t v e, fit v h)
    step false h = (v, takes t v e, large v h)

  -- the text says what is computed
  pub said : (t : List ℕ) → Says Is Fits t (outcome fits (f t))
  said t = said_of t (f t) refl

  fitting : (v : V) (b : Bool) → fits v ≡ b → Fits v → right v ≡ cond {A = Answer} b (right v) (wrong errors.TooLarge)
  fitting v true h k = refl
  fitting v false h k = absurd (large v h k)

  exceeding : (v : V) (b : Bool) → fits v ≡ b → ¬ (Fits v) → wrong errors.TooLarge ≡ cond {A = Answer} b (right v) (wrong errors.TooLarge)
  exceeding v true h k = absurd (k (fit v h))
  exceeding v false h k = refl

  nothing : (t : List ℕ) (o : Option V) → f t ≡ o → ((v : V) → ¬ (Is t v)) → wrong errors.Grammar ≡ outcome fits o
  nothing t None e none = refl
  nothing t (Some v) e none = absurd (none v (takes t v e))

  -- and nothing else
  pub sole : (t : List ℕ) (r : Answer) → Says Is Fits t r → r ≡ outcome fits (f t)
  sole t (Ok v) h = rw (again t v h.0) (fitting v (fits v) refl h.1)
  sole t (Err errors.Grammar) h = nothing t (f t) refl h
  sole t (Err errors.TooLarge) h = rw (again t h.0 h.1) (exceeding h.0 (fits h.0) refl h.2)
  sole t (Err errors.NoMemory) h = absurd h

  pub exact : IsExact Is Fits
  exact t = (outcome fits (f t), said t, λ q h. sole t q h)

  said_if : (t : List ℕ) (r said : Answer) → Answers r said → Says Is Fits t said → IsSaid Is Fits t r
  said_if t (Ok v) s a h = subst (Says Is Fits t) (sym a) h
  said_if t (Err errors.Grammar) s a h = subst (Says Is Fits t) (sym a) h
  said_if t (Err errors.TooLarge) s a h = subst (Says Is Fits t) (sym a) h
  said_if t (Err errors.NoMemory) s a h = tt

  pub is_said : (t : List ℕ) (r : Answer) → Answers r (outcome fits (f t)) → IsSaid Is Fits t r
  is_said t r a = said_if t r (outcome fits (f t)) a (said t)

  pub is_only : (t : List ℕ) (r : Answer) → Answers r (outcome fits (f t)) → (q : Answer) → Says Is Fits t q → Answers r q
  is_only t r a q h = subst (Answers r) (sym (sole t q h)) a
