-- What stands while a worker runs. Nothing outside this crate speaks of it.
use Rattle.std.specs.Prelude.{◌≡◌, ◌<◌, ℕ, ◌+◌, List, ◌++◌, length, take, map, Option, Some}
use Rattle.queues.specs.declared.items.Item.{Item}
use Rattle.queues.specs.Ended.{AllEnded}
use Rattle.queues.specs.Values.{values, values_by}
use Rattle.notifier_model.specs.declared.event.Event.{Event}
use Rattle.notifier_model.specs.declared.event.Out.{Out}
use Rattle.notifier_model.specs.Book.{step}
use Rattle.notifier_model.specs.Out.{out_of}
use Rattle.notifier_model.specs.Run.{run_from}
use Rattle.notifier.specs.Standing.{Standing}
use Rattle.queues.specs.InboxEvents.{events_of}
use Rattle.queues.specs.OutboxSeats.{PosterSeat}
use Rattle.crew.specs.Worked.{outs_for, Ends}
use Rattle.crew.specs.declared.end.End.{End}
use Rattle.crew.specs.declared.hand.Stop.{Stop}
use Rattle.crew.specs.declared.hand.Stop.TheVariants.{Finished, Full, Deserted}

-- the desk that stood so, after these events
abbrev pub desk_after : Standing → List Event → Standing
desk_after stands events = record { place = stands.place; book = run_from stands.place stands.book events }

-- with these outs more
abbrev pub posts_all : PosterSeat → List Out → PosterSeat
posts_all p outs = record { outbox = p.outbox; number = p.number; posted = p.posted ++ values_by p.number outs }

-- one event is handled, and its outs are posted and counted
pub record HandlesOne (desk : Standing) (event : Event) (after : Option Standing) (before now : PosterSeat) (count count' : ℕ) : Type 0 where
  pub book : after ≡ Some (record { place = desk.place; book = (step desk.place desk.book event).book })
  pub posts : now ≡ posts_all before (map out_of (step desk.place desk.book event).outs)
  pub total : count' ≡ count + length (map out_of (step desk.place desk.book event).outs)

-- worker w has handled these events, and posted all their outs
pub record Serving (w : ℕ) (stands : Standing) (events : List Event) (desk : Option Standing) (posted : List (Item Out)) (handled count : ℕ) : Type 0 where
  pub book : desk ≡ Some (desk_after stands events)
  pub posts : posted ≡ values_by w (outs_for stands events)
  pub number : handled ≡ length events
  pub total : count ≡ length (outs_for stands events)

-- worker w has handled the first of these events, and posted all their outs and no others
pub record Stopped (w : ℕ) (stands : Standing) (events : List Event) (posted : List (Item Out)) (handled count : ℕ) : Type 0 where
  pub posts : posted ≡ values_by w (outs_for stands (take handled events))
  pub total : count ≡ length (outs_for stands (take handled events))

-- after the loop, by why it ended
abbrev pub Halted : ℕ → ℕ → Standing → List (Item Event) → Option Standing → List (Item Out) → ℕ → ℕ → Stop → Type 0
Halted w ports stands taken desk posted handled count Finished =
    Serving w stands (values taken) desk posted handled count × AllEnded ports taken
Halted w ports stands taken desk posted handled count Full =
    Stopped w stands (values taken) posted handled count × (handled < length (values taken))
Halted w ports stands taken desk posted handled count Deserted =
    Serving w stands (values taken) desk posted handled count × (AllEnded ports taken → ⊥)

-- once all that is to come was taken
pub record Halts (w ports : ℕ) (stands : Standing) (taken : List (Item Event)) (posted : List (Item Out)) (handled count : ℕ) (end : End) : Type 0 where
  pub stopped : Stopped w stands (events_of stands.place.stop ports taken) posted handled count
  pub ends : Ends stands.place.stop ports taken handled end
