-- Two ports that were closed.
use Rattle.std.proofs.Common.{◌≡◌, ℕ, zero, suc, ◌<◌, false, List, [], ◌∷◌, ◌++◌, length, get_or, refl, ap, sym, ◌∙◌, subst, arith}
use Rattle.std.proofs.lemmas.List.{nil_from_length}
use Rattle.notifier_model.specs.Start.{Start}
use Rattle.queues.specs.OutboxSeats.{TakerSeat}
use Rattle.crew.specs.Ports.{PortSeats}
use Rattle.crew.specs.Kept.{SameSeats, AllClosed}
use Rattle.crew.specs.Started.{Hired, IsStarted}
use Rattle.crew.specs.Joined.{IsPortOf}
use Rattle.crew.proofs.Keeping.{started_port}

both_shut : (a b : PortSeats) → a.is_open ≡ false → b.is_open ≡ false → (k : ℕ) (p : PortSeats) → k < 2 → (get_or (a ∷ b ∷ []) k p).is_open ≡ false
both_shut a b shut shut' zero p low = shut
both_shut a b shut shut' (suc zero) p low = shut'
both_shut a b shut shut' (suc (suc k)) p low = absurd (omega arith)

both_same : (a b a' b' : PortSeats) → SameSeats a a' → SameSeats b b' → (k : ℕ) (p : PortSeats) → k < 2
    → SameSeats (get_or (a ∷ b ∷ []) k p) (get_or (a' ∷ b' ∷ []) k p)
both_same a b a' b' same same' zero p low = same
both_same a b a' b' same same' (suc zero) p low = same'
both_same a b a' b' same same' (suc (suc k)) p low = absurd (omega arith)

two_closed : (a b a' b' : PortSeats) → a'.is_open ≡ false → b'.is_open ≡ false → SameSeats a a' → SameSeats b b' → AllClosed (a ∷ b ∷ []) (a' ∷ b' ∷ [])
two_closed a b a' b' shut shut' same same' = record { len = refl; closed = both_shut a' b' shut shut'; seats = both_same a b a' b' same same' }

-- what `join` asks of them
pub ports_closed : (start : ℕ → Start) {workers : ℕ} {crew : List Hired} {a b : PortSeats} {taker : TakerSeat} (is : IsStarted start workers 2 crew (a ∷ b ∷ []) taker)
    (a' b' : PortSeats) (ports : List PortSeats) → ports ≡ a' ∷ b' ∷ [] → a'.is_open ≡ false → b'.is_open ≡ false → SameSeats a a' → SameSeats b b'
    → (p : ℕ) (q : PortSeats) → p < length ports → IsPortOf crew (get_or ports p q)
ports_closed start {crew = crew} {a = a} {b = b} is a' b' ports are shut shut' same same' p q low =
    let P : List PortSeats → Type 0 = λ l. p < length l → IsPortOf crew (get_or l p q) in
    subst P (sym are) (started_port is (a' ∷ b' ∷ []) (two_closed a b a' b' shut shut' same same') p q) low

pub pushed_two : {A : Type 0} (none one both : List A) (a b : A) → length none ≡ 0 → one ≡ none ++ a ∷ [] → both ≡ one ++ b ∷ [] → both ≡ a ∷ b ∷ []
pushed_two none one both a b empty is is' = is' ∙ ap (λ l. l ++ b ∷ []) (is ∙ ap (λ l. l ++ a ∷ []) (nil_from_length none empty))
