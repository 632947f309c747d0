-- The events among the items that a worker took from its inbox.
use Rattle.std.specs.Prelude.{ℕ, zero, suc, Bool, true, ◌&&◌, List, [], ◌++◌, if◌then◌else◌}
use Rattle.queues.specs.declared.items.Item.{Item}
use Rattle.queues.specs.Items.{items_of, has_end}
use Rattle.queues.specs.Values.{values}
use Rattle.notifier_model.specs.declared.event.Event.{Event}
use Rattle.notifier_model.specs.Home.{at_the_stop}

-- the end marks of all of the first n ports stand here
abbrev pub have_ended : ℕ → List (Item Event) → Bool
have_ended zero xs = true
have_ended (suc n) xs = has_end (items_of n xs) && have_ended n xs

-- the events among the items that a worker took from an inbox with so many ports: with the planned stop, where one was asked
-- for and all ports have ended
abbrev pub events_of : Bool → ℕ → List (Item Event) → List Event
events_of stop ports taken = values taken ++ (if have_ended ports taken then at_the_stop stop else [])
