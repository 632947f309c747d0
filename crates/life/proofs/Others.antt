-- An event that isn't its own is nothing to a subscription.
use Rattle.std.proofs.Common.{◌≡◌, ℕ, ◌+◌, List, Some, None, true, false, ◌&&◌, refl, ◌∙◌, ap}
use Rattle.std.specs.Prelude.{◌==◌, is_some}
use Rattle.sip_read.specs.declared.message.Request.{Request}
use Rattle.notifier_model.specs.declared.event.Event.{Event}
use Rattle.notifier_model.specs.Start.{Start, tag_of}
use Rattle.life.specs.Life.{Life, birth}
use Rattle.life.specs.Lives.{concerns, lived, births, life, birth_at, befell, is_born_at}
use Rattle.life.specs.Own.{is_own}
use Rattle.life.proofs.Texts.{never_both}
use Rattle.life.proofs.NextLives.{by_fate}
use Rattle.life.proofs.Mine.{or-left, or-right}

-- an event that doesn't concern it doesn't befall it
unconcerned : (start : Start) (serial : ℕ) (past : List Event) (e : Event) (l : Life) → concerns (tag_of start.place serial) (birth l) e ≡ false → lived start serial past e l ≡ None
unfolding lived
unconcerned start serial past e l h = rw h refl

-- x is the request that it was born of, if it was born
abbrev pub IsBornOf : Start → ℕ → Request → List Event → Type 0
IsBornOf start serial x past = (l : Life) → life start past serial ≡ Some l → birth l ≡ x

pub not_own-befell : (start : Start) (serial : ℕ) (x : Request) (past : List Event) (e : Event) → IsBornOf start serial x past → is_own start serial x past e ≡ false → befell start past e serial ≡ None
unfolding is_own is_born_at
not_own-befell start serial x past e born h = by_fate start past e serial (λ o before. o ≡ None) (λ unborn. refl) (λ l next begins. absurd (born_here l next begins)) (λ l is gone. refl)
    (λ l is alive. unconcerned start serial past e l (ap (λ (y : Request). concerns (tag_of start.place serial) y e) (born l is) ∙ or-left (concerns (tag_of start.place serial) x e) (serial == births start past + 1 && is_some (birth_at start past e)) h))
  where
    born_here : (l : Life) → (serial == births start past + 1) ≡ true → birth_at start past e ≡ Some l → ⊥
    born_here l next begins =
        never_both (serial == births start past + 1 && is_some (birth_at start past e)) (rw (next, begins) refl)
        (or-right (concerns (tag_of start.place serial) x e) (serial == births start past + 1 && is_some (birth_at start past e)) h)
