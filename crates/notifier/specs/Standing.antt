-- What a desk that isn't spent is seen as, and what an event makes of it.
use Rattle.std.specs.Prelude.{◌≡◌, List, map, Option, Some}
use Rattle.notifier_model.specs.declared.place.Place.{Place}
use Rattle.notifier_model.specs.declared.event.Event.{Event}
use Rattle.notifier_model.specs.declared.event.Out.{Out}
use Rattle.notifier_model.specs.Start.{Start}
use Rattle.notifier_model.specs.Out.{out_of}
use Rattle.notifier_model.specs.Book.{Book, step}
use Rattle.notifier_model.specs.Run.{empty}

pub record Standing : Type 0 where
  pub place : Place
  pub book : Book

-- a desk at its start
abbrev pub first_standing : Start → Standing
first_standing start = record { place = start.place; book = empty start }

-- the new book and the outs are those of the step
pub record IsHandled (desk : Standing) (event : Event) (after : Option Standing) (outs : List Out) : Type 0 where
  pub book_is : after ≡ Some (record { place = desk.place; book = (step desk.place desk.book event).book })
  pub outs_are : outs ≡ map out_of (step desk.place desk.book event).outs
