-- What a worker has done once it has ended.
use Rattle.std.specs.Prelude.{◌≡◌, ◌<◌, ℕ, Bool, true, false, List, [], ◌∷◌, ◌++◌, length, take, map}
use Rattle.std.specs.List.{All}
use Rattle.queues.specs.declared.items.Item.{Item}
use Rattle.queues.specs.Ended.{AllEnded}
use Rattle.queues.specs.Values.{values_by, end_item}
use Rattle.notifier_model.specs.declared.event.Event.{Event}
use Rattle.notifier_model.specs.declared.event.Out.{Out}
use Rattle.notifier_model.specs.Out.{out_of}
use Rattle.notifier_model.specs.Run.{made_from}
use Rattle.notifier.specs.Standing.{Standing}
use Rattle.queues.specs.InboxSeats.{ReceiverSeat}
use Rattle.queues.specs.InboxEvents.{events_of}
use Rattle.queues.specs.OutboxSeats.{PosterSeat}
use Rattle.crew.specs.declared.end.End.{End}
use Rattle.crew.specs.declared.end.End.TheVariants.{Closed, NoMemory, Abandoned}
use Rattle.crew.specs.declared.end.Done.{Done}

-- the outs of the one-thread notifier that stands so, for these events
abbrev pub outs_for : Standing → List Event → List Out
outs_for stands events = map out_of (made_from stands.place stands.book events)

-- each item is of one of the first n ports
abbrev pub AllFrom : ℕ → List (Item Event) → Type 0
AllFrom n taken = All (λ (x : Item Event). x.from < n) taken

-- whether all ports have ended, and how many of the worker's events are handled, by how it ended
abbrev pub Ends : Bool → ℕ → List (Item Event) → ℕ → End → Type 0
Ends stop ports taken handled Closed =
    AllEnded ports taken × (handled ≡ length (events_of stop ports taken))
Ends stop ports taken handled (NoMemory j) =
    AllEnded ports taken × (handled ≡ j) × (j < length (events_of stop ports taken))
Ends stop ports taken handled (Abandoned false) =
    (AllEnded ports taken → ⊥) × (handled ≡ length (events_of stop ports taken))
Ends stop ports taken handled (Abandoned true) =
    (AllEnded ports taken → ⊥) × (handled < length (events_of stop ports taken))

-- the ends of the queues are still those of the same inbox, outbox and numbers
pub record KeepsQueues (reads reads' : ReceiverSeat) (posts posts' : PosterSeat) : Type 0 where
  pub inbox : reads'.inbox ≡ reads.inbox
  pub ports : reads'.ports ≡ reads.ports
  pub outbox : posts'.outbox ≡ posts.outbox
  pub number : posts'.number ≡ posts.number

-- the first of the events that a worker took that began so, as many as it handled
abbrev pub handled_of : Standing → ℕ → List (Item Event) → ℕ → List Event
handled_of stands ports taken handled = take handled (events_of stands.place.stop ports taken)

-- what a worker leaves that began with a desk that stood so and these ends of the queues: it posted the outs of the events that it
-- handled, then its end mark, and nothing else
pub record IsWorked (stands : Standing) (reads : ReceiverSeat) (posts : PosterSeat) (done : Done) : Type 0 where
  pub same : KeepsQueues reads done.receiver posts done.poster
  pub among : AllFrom reads.ports done.receiver.taken
  pub posted : done.poster.posted
      ≡ values_by posts.number (outs_for stands (handled_of stands reads.ports done.receiver.taken done.handled)) ++ end_item posts.number ∷ []
  pub total : done.made ≡ length (outs_for stands (handled_of stands reads.ports done.receiver.taken done.handled))
  pub ends : Ends stands.place.stop reads.ports done.receiver.taken done.handled done.end
