-- What a planned stop adds to the events of a worker.
use Rattle.std.proofs.Common.{◌≡◌, ℕ, zero, suc, Bool, true, false, ◌&&◌, List, ◌++◌, refl, sym, subst, arith, ⊎_elim}
use Rattle.std.proofs.lemmas.List.{append-nil}
use Rattle.std.proofs.lemmas.Bool.{false_from_ne_true}
use Rattle.std.proofs.lemmas.Bool.Decides.{eqb_tells}
use Rattle.queues.specs.declared.items.Item.{Item}
use Rattle.queues.specs.Items.{items_of, has_end}
use Rattle.queues.specs.Ended.{AllEnded}
use Rattle.queues.specs.Values.{values}
use Rattle.notifier_model.specs.declared.event.Event.{Event}
use Rattle.notifier_model.specs.Home.{at_the_stop}
use Rattle.queues.specs.InboxEvents.{have_ended, events_of}

pub have_ended_all : (n : ℕ) (xs : List (Item Event)) → AllEnded n xs → have_ended n xs ≡ true
have_ended_all zero xs all = refl
have_ended_all (suc n) xs all = rw (all n (omega arith), have_ended_all n xs (λ p low. all p (omega arith))) refl

both : (a b : Bool) → (a && b) ≡ true → (a ≡ true) × (b ≡ true)
both true true e = (refl, refl)
both true false e = absurd cc
both false b e = absurd cc

pub all_have_ended : (n : ℕ) (xs : List (Item Event)) → have_ended n xs ≡ true → AllEnded n xs
all_have_ended zero xs e p low = absurd (omega arith)
all_have_ended (suc n) xs e p low =
    let k = both (has_end (items_of n xs)) (have_ended n xs) e in
    ⊎_elim (λ t. subst (λ q. has_end (items_of q xs) ≡ true) (sym t.1) k.0) (λ t. let ne = t.1 in all_have_ended n xs k.1 p (omega arith)) (eqb_tells p n)

-- once all ports have ended
pub events_ended : (stop : Bool) (n : ℕ) (xs : List (Item Event)) → AllEnded n xs → events_of stop n xs ≡ values xs ++ at_the_stop stop
events_ended stop n xs all = rw (have_ended_all n xs all) refl

-- before
pub events_open : (stop : Bool) (n : ℕ) (xs : List (Item Event)) → (AllEnded n xs → ⊥) → events_of stop n xs ≡ values xs
events_open stop n xs some =
    let none : have_ended n xs ≡ false = false_from_ne_true (have_ended n xs) (λ e. some (all_have_ended n xs e)) in
    rw none (append-nil (values xs))
