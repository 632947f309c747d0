-- Runs: the book after a list of events, and all that they sent.
use Rattle.std.specs.Prelude.{List, [], ◌∷◌, ◌++◌}
use Rattle.package.specs.Content.{Maps}
use Rattle.notifier_model.specs.declared.place.Place.{Place}
use Rattle.notifier_model.specs.declared.event.Event.{Event}
use Rattle.notifier_model.specs.Start.{StartBy}
use Rattle.notifier_model.specs.Out.{Send}
use Rattle.notifier_model.specs.Book.{BookBy, step}

module _ {maps : Maps} where
  unfoldable pub empty : StartBy maps → BookBy maps
  empty start = record { clock = 0; next = 1; rows = []; boxes = start.boxes; ring = [] }

  unfoldable pub run_from : Place → BookBy maps → List Event → BookBy maps
  run_from place b [] = b
  run_from place b (e ∷ es) = run_from place (step place b e).book es

  unfoldable pub made_from : Place → BookBy maps → List Event → List Send
  made_from place b [] = []
  made_from place b (e ∷ es) = (step place b e).outs ++ made_from place (step place b e).book es

  -- the book after these events
  unfoldable pub run : StartBy maps → List Event → BookBy maps
  run start es = run_from start.place (empty start) es

  -- all that they sent
  unfoldable pub made : StartBy maps → List Event → List Send
  made start es = made_from start.place (empty start) es
