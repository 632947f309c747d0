-- What a port's seats have sent.
use Rattle.std.proofs.Common.{◌≡◌, ℕ, zero, suc, ◌<◌, ◌+◌, List, [], ◌∷◌, set, length, Some, sym, ap, ◌∙◌, arith, add-one}
use Rattle.std.specs.Prelude.{slice_get}
use Rattle.notifier_model.specs.declared.event.Event.{Event}
use Rattle.queues.specs.Values.{value_item}
use Rattle.queues.specs.InboxSeats.{SenderSeat, with_sent}
use Rattle.crew.specs.Ports.{SendsAt, sent_first}

abbrev pub one_more : Event → SenderSeat → SenderSeat
one_more e s = with_sent s (value_item s.number e)

some_is : {A : Type 0} (x y : A) → Some x ≡ Some y → x ≡ y
some_is x y e = cc

-- one seat more has sent
set_first : (e : Event) (i : ℕ) (xs : List SenderSeat) (s : SenderSeat) → i < length xs → slice_get (sent_first i e xs) i ≡ Some s → set (sent_first i e xs) i (one_more e s) ≡ sent_first (suc i) e xs
set_first e i [] s low at = absurd (omega arith)
set_first e zero (x ∷ xs) s low at = ap (λ y. one_more e y ∷ xs) (sym (some_is x s at))
set_first e (suc i) (x ∷ xs) s low at = ap (λ l. one_more e x ∷ l) (set_first e i xs s (omega arith) at)

pub sent_more : (e : Event) (i j : ℕ) (old now next : List SenderSeat) → now ≡ sent_first i e old → i < length old → j ≡ i + 1 → SendsAt now i e next → next ≡ sent_first j e old
sent_more e i j old now next is low more k =
    let at : slice_get (sent_first i e old) i ≡ Some k.seat = ap (λ l. slice_get l i) (sym is) ∙ k.stood in
    k.stands ∙ ap (λ l. set l i (one_more e k.seat)) is ∙ set_first e i old k.seat low at ∙ ap (λ n. sent_first n e old) (sym (more ∙ add-one i))
