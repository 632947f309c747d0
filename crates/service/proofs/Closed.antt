-- Three ports that were closed.
use Rattle.std.proofs.Common.{◌≡◌, ℕ, zero, suc, ◌<◌, true, false, List, [], ◌∷◌, ◌++◌, length, get_or, refl, ap, sym, ◌∙◌, subst, arith}
use Rattle.std.proofs.lemmas.List.{nil_from_length}
use Rattle.notifier.specs.Standing.{Standing}
use Rattle.queues.specs.OutboxSeats.{TakerSeat}
use Rattle.crew.specs.Ports.{PortSeats}
use Rattle.crew.specs.Kept.{SameSeats, AllClosed}
use Rattle.crew.specs.Started.{Hired, HaveBegun}
use Rattle.crew.specs.Joined.{IsPortOf}
use Rattle.crew.proofs.Keeping.{started_open, started_port}

-- ---- the crew as it was started

module _ {stands : ℕ → Standing} {workers n : ℕ} {crew : List Hired} {ports : List PortSeats} {taker : TakerSeat} (is : HaveBegun stands workers n crew ports taker) where
  pub ports_len : length ports ≡ n
  ports_len = is.dealt.len

  pub taker_new : taker.got ≡ []
  taker_new = ap (λ (t : TakerSeat). t.got) is.takes

  pub taker_workers : taker.workers ≡ workers
  taker_workers = ap (λ (t : TakerSeat). t.workers) is.takes

  -- its ports are open, where there are workers
  pub ports_open : 0 < workers → (k : ℕ) (p : PortSeats) → k < length ports → (get_or ports k p).is_open ≡ true
  ports_open some k p low = let many = ports_len in started_open is some k p (omega (arith, low, many))

-- ---- its three ports

module _ (a b c a' b' c' : PortSeats) where
  all_shut : a'.is_open ≡ false → b'.is_open ≡ false → c'.is_open ≡ false → (k : ℕ) (p : PortSeats) → k < 3 → (get_or (a' ∷ b' ∷ c' ∷ []) k p).is_open ≡ false
  all_shut x y z zero p low = x
  all_shut x y z (suc zero) p low = y
  all_shut x y z (suc (suc zero)) p low = z
  all_shut x y z (suc (suc (suc k))) p low = absurd (omega arith)

  all_same : SameSeats a a' → SameSeats b b' → SameSeats c c' → (k : ℕ) (p : PortSeats) → k < 3
      → SameSeats (get_or (a ∷ b ∷ c ∷ []) k p) (get_or (a' ∷ b' ∷ c' ∷ []) k p)
  all_same x y z zero p low = x
  all_same x y z (suc zero) p low = y
  all_same x y z (suc (suc zero)) p low = z
  all_same x y z (suc (suc (suc k))) p low = absurd (omega arith)

  -- what `join` asks of them
  pub ports_closed : {stands : ℕ → Standing} {workers : ℕ} {crew : List Hired} {taker : TakerSeat} (is : HaveBegun stands workers 3 crew (a ∷ b ∷ c ∷ []) taker)
      (ports : List PortSeats) → ports ≡ a' ∷ b' ∷ c' ∷ [] → a'.is_open ≡ false → b'.is_open ≡ false → c'.is_open ≡ false
      → SameSeats a a' → SameSeats b b' → SameSeats c c' → (p : ℕ) (q : PortSeats) → p < length ports → IsPortOf crew (get_or ports p q)
  ports_closed {crew = crew} is ports are shut shut' shut'' same same' same'' p q low =
      let P : List PortSeats → Type 0 = λ l. p < length l → IsPortOf crew (get_or l p q) in
      let all : AllClosed (a ∷ b ∷ c ∷ []) (a' ∷ b' ∷ c' ∷ []) =
      record { len = refl; closed = all_shut shut shut' shut''; seats = all_same same same' same'' } in
      subst P (sym are) (started_port is (a' ∷ b' ∷ c' ∷ []) all p q) low

pub pushed_three : {A : Type 0} (none one two three : List A) (a b c : A) → length none ≡ 0 → one ≡ none ++ a ∷ [] → two ≡ one ++ b ∷ [] → three ≡ two ++ c ∷ []
    → three ≡ a ∷ b ∷ c ∷ []
pushed_three none one two three a b c empty is is' is'' =
    is'' ∙ ap (λ l. l ++ c ∷ []) (is' ∙ ap (λ l. l ++ b ∷ []) (is ∙ ap (λ l. l ++ a ∷ []) (nil_from_length none empty)))
