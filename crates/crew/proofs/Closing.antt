-- How the seats of a port are closed one by one.
use Rattle.std.proofs.Common.{◌≡◌, ◌⊎◌, ℕ, nat_lt, Bool, true, false, List, [], ◌∷◌, ◌++◌, map, reverse, ap, ◌∙◌, refl, sym, inl, inr, append_assoc, arith, MatchBool}
use Rattle.std.proofs.lemmas.Bool.{ltb-false}
use Rattle.std.proofs.lemmas.List.{reverse-append}
use Rattle.queues.specs.Values.{end_item}
use Rattle.queues.specs.InboxSeats.{SenderSeat, with_sent}
use Rattle.crew.specs.Ports.{ClosesSome, OneStays}

abbrev pub ended : SenderSeat → SenderSeat
ended s = with_sent s (end_item s.number)

pub closes_same : (xs : List SenderSeat) → ClosesSome xs xs
closes_same [] = refl
closes_same (s ∷ xs) = (s, xs, refl, inl refl, closes_same xs)

either_way : {P Q : Type 0} (b : Bool) → MatchBool b P Q → Q ⊎ P
either_way true p = inr p
either_way false q = inl q

when_true : (P Q : Type 0) (b : Bool) → MatchBool b P Q → b ≡ true → P
when_true P Q true p e = p
when_true P Q false q e = cc e

pub none_ends : (xs : List SenderSeat) → xs ≡ [] → reverse xs ≡ map ended (reverse xs)
none_ends xs none = ap reverse none ∙ sym (ap (λ l. map ended (reverse l)) none)

pub none_left : (n : ℕ) → nat_lt 0 n ≡ false → n ≡ 0
none_left n none = let low = ltb-false 0 n none in omega arith

stays_one : (olds done : List SenderSeat) (s t : SenderSeat) (b was : Bool) → MatchBool b (t ≡ ended s) (t ≡ s) → (was ≡ false → OneStays olds done) → (was ≡ false) ⊎ (b ≡ false)
    → OneStays (s ∷ olds) (t ∷ done)
stays_one olds done s t b was told stays (inl e) = (t, done, refl, inr (stays e))
stays_one olds done s t true was told stays (inr e) = cc e
stays_one olds done s t false was told stays (inr e) = (t, done, refl, inl told)

pub closes_one : (all senders front olds done done' : List SenderSeat) (s t : SenderSeat) (b was now : Bool) (Open : Type 0) → all ≡ senders ++ olds → senders ≡ front ++ s ∷ [] → done' ≡ done ++ t ∷ []
    → MatchBool b (t ≡ ended s) (t ≡ s) → ClosesSome olds (reverse done) → (was ≡ true → Open → reverse done ≡ map ended olds) → (now ≡ true → (was ≡ true) × (b ≡ true))
    → (was ≡ false → OneStays olds (reverse done)) → (now ≡ false → (was ≡ false) ⊎ (b ≡ false))
    → (x : List SenderSeat) × (all ≡ front ++ x) × ClosesSome x (reverse done') × (now ≡ true → Open → reverse done' ≡ map ended x) × (now ≡ false → OneStays x (reverse done'))
closes_one all senders front olds done done' s t b was now Open whole last more told closed ends both stays either =
    let turned : reverse done' ≡ t ∷ reverse done = ap reverse more ∙ reverse-append done (t ∷ []) in (
      s ∷ olds,
      whole ∙ ap (λ l. l ++ olds) last ∙ append_assoc front (s ∷ []) olds,
      (t, reverse done, turned, either_way b told, closed),
      λ e opened. let k = both e in turned ∙ ap (λ l. t ∷ l) (ends k.0 opened) ∙ ap (λ x. x ∷ map ended olds) (when_true _ _ b told k.1),
      λ e. rw turned (stays_one olds (reverse done) s t b was told stays (either e)),
    )
