-- What a step tells, as the ends' contracts say it.
use Rattle.std.proofs.Common.{◌≡◌, ◌<◌, ◌∙◌, ℕ, List, [], ◌∷◌, ◌++◌, ap, subst}
use Rattle.queues.specs.declared.items.Item.{Item}
use Rattle.queues.specs.declared.items.Entry.{Entry}
use Rattle.queues.specs.declared.items.Entry.TheVariants.{Value, End}
use Rattle.queues.specs.declared.views.View.{View}
use Rattle.queues.specs.Rule.{TakesItem}
use Rattle.queues.specs.declared.many_to_one.Taken.TheVariants.{Event, Ended}
use Rattle.queues.specs.EndSeats.{Inbox, ReceiverSeat}
use Rattle.queues.specs.EndTook.{Took}

module _ {T : Type 0} (inbox : Inbox T) (ports : ℕ) where
  abbrev seat : List (Item T) → ReceiverSeat T
  seat taken = record { inbox = inbox; ports = ports; taken = taken }

  -- the entry of the item that was taken is written out
  taken_is : (v w : View T) (x : Item T) (entry : Entry T) → x.entry ≡ entry → TakesItem v x w
      → seat w.taken ≡ seat (v.taken ++ record { from = x.from; entry = entry } ∷ [])
  taken_is v w x entry same next = ap (λ (u : View T). seat u.taken) next.0
      ∙ ap (λ (y : Entry T). seat (v.taken ++ record { from = x.from; entry = y } ∷ [])) same

  pub took_event : (v w : View T) (x : Item T) (r : ReceiverSeat T) (e : T) → seat v.taken ≡ r → v.senders ≡ ports
      → x.entry ≡ Value e → TakesItem v x w → Took r (Event e) (seat w.taken)
  took_event v w x r e is count same next =
      let P : ReceiverSeat T → Type 0 = λ r. Took r (Event e) (seat w.taken) in
      subst P is (x.from, taken_is v w x (Value e) same next, (subst (λ n. x.from < n) count next.1, next.2))

  pub took_end : (v w : View T) (x : Item T) (r : ReceiverSeat T) → seat v.taken ≡ r → v.senders ≡ ports
      → x.entry ≡ End → TakesItem v x w → Took r (Ended x.from) (seat w.taken)
  took_end v w x r is count same next =
      let P : ReceiverSeat T → Type 0 = λ r. Took r (Ended x.from) (seat w.taken) in
      subst P is (taken_is v w x End same next, (subst (λ n. x.from < n) count next.1, next.2))

  pub took_nothing : (v w : View T) (r : ReceiverSeat T) → w ≡ v → seat v.taken ≡ r → seat w.taken ≡ r
  took_nothing v w r same is = ap (λ (u : View T). seat u.taken) same ∙ is
