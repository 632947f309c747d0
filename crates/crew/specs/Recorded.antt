-- What a replay is seen as.
use Rattle.std.specs.Prelude.{◌≡◌, List, map, Option, None, Some}
use Rattle.notifier_model.specs.declared.event.Event.{Event}
use Rattle.notifier_model.specs.declared.event.Out.{Out}
use Rattle.notifier_model.specs.Out.{out_of}
use Rattle.notifier_model.specs.Book.{step}
use Rattle.notifier_model.specs.Run.{run_from}
use Rattle.notifier.specs.Standing.{Standing}

-- the desk as it came, the events that it handled since, and the desk now: nothing where it is spent
pub record Recorded : Type 0 where
  pub start : Option Standing
  pub events : List Event
  pub now : Option Standing

-- unless the desk is spent, its book is the run of its start over its events. For a new desk, whose book is empty, that is
-- the definition `run`
abbrev pub IsRun : Option Standing → List Event → Option Standing → Type 0
IsRun None events now = now ≡ None
IsRun (Some start) events None = Unit {0}
IsRun (Some start) events (Some now) = now ≡ record { place = start.place; book = run_from start.place start.book events }

-- these are the outs of this event at a desk that began somehow and had handled some events
pub record AreOutsOf (event : Event) (outs : List Out) : Type 0 where
  pub start : Standing
  pub before : List Event
  pub outs_are : outs ≡ map out_of (step start.place (run_from start.place start.book before) event).outs
