-- What a notifier starts from.
use Rattle.std.specs.Prelude.{ℕ, List}
use Rattle.package.specs.Content.{Maps, finite_maps, SeenBy}
use Rattle.notifier_model.specs.declared.place.Setup.{Setup}
use Rattle.notifier_model.specs.declared.place.Place.{Place}
use Rattle.notifier_model.specs.Tag.{local_tag}

-- the place of a worker, and its boxes as they are at first
pub record StartBy (maps : Maps) : Type 0 where
  pub place : Place
  pub boxes : List (SeenBy maps)

abbrev pub Start : Type 0
Start = StartBy finite_maps

-- the place of this worker
abbrev pub place_of : Setup → ℕ → Place
place_of setup worker = record { limits = setup.limits; seed = setup.seed; me = setup.me; stop = setup.stop; worker = worker }

-- the local tag of the subscription with this serial
abbrev pub tag_of : Place → ℕ → List ℕ
tag_of place serial = local_tag place.seed place.worker serial

-- the latest moment that a Tick may have
abbrev pub last_moment : ℕ
last_moment = 9223372036854775807

-- how many seconds a NOTIFY may stay unanswered: timer F of RFC 3261, section 17.1.2.2
abbrev pub patience : ℕ
patience = 32
