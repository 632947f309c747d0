-- Whom requests were sent to: what is known of their answers behind several outs.
use Rattle.std.proofs.Common.{◌≡◌, ◌<◌, ◌≤◌, ◌+◌, ℕ, List, [], ◌∷◌, ◌++◌, take, length, get_or, refl, sym, subst}
use Rattle.std.proofs.lemmas.List.{take_more, take_all}
use Rattle.notifier_model.specs.declared.event.Out.{Out}
use Rattle.service.specs.declared.asked.Answered.{Answered}
use Rattle.service.specs.Asked.{IsNoted, AreNoted}

noted_more : (whom : List ℕ) (outs : List Out) (o : Out) (a b c : List Answered) → AreNoted whom outs a b → IsNoted whom o b c → AreNoted whom (outs ++ o ∷ []) a c
noted_more whom [] o a b c first next = (c, subst (λ l. IsNoted whom o l c) first next, refl)
noted_more whom (x ∷ outs) o a b c first next = (first.0, first.1, noted_more whom outs o first.0 b c first.2 next)

pub noted_next : (whom : List ℕ) (outs : List Out) (i : ℕ) (o : Out) (a b c : List Answered) → i < length outs → o ≡ get_or outs i o
    → AreNoted whom (take i outs) a b → IsNoted whom o b c → AreNoted whom (take (i + 1) outs) a c
noted_next whom outs i o a b c lt is first next =
    subst (λ l. AreNoted whom l a c) (sym (take_more outs i o lt))
    (noted_more whom (take i outs) (get_or outs i o) a b c first (subst (λ x. IsNoted whom x b c) is next))

pub noted_all : (whom : List ℕ) (outs : List Out) (i : ℕ) (a b : List Answered) → length outs ≤ i → AreNoted whom (take i outs) a b → AreNoted whom outs a b
noted_all whom outs i a b high noted = subst (λ l. AreNoted whom l a b) (take_all i outs high) noted
