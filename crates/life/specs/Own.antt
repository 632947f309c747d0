-- The events of one subscription alone: the one that it was born of, and all that concern it (`concerns` in `Lives`).
use Rattle.std.specs.Prelude.{ℕ, Bool, ◌||◌, List, [], ◌∷◌, if◌then◌else◌, Option, option_map}
use Rattle.sip_read.specs.declared.message.Request.{Request}
use Rattle.package.specs.Content.{Maps}
use Rattle.notifier_model.specs.declared.event.Event.{Event}
use Rattle.notifier_model.specs.Start.{StartBy, tag_of}
use Rattle.life.specs.Life.{birth}
use Rattle.life.specs.Lives.{concerns, is_born_at, life}

module _ {maps : Maps} where
  -- is the event its own: does it concern it, or is it its birth?
  unfoldable pub is_own : StartBy maps → ℕ → Request → List Event → Event → Bool
  is_own start serial x past e = concerns (tag_of start.place serial) x e || is_born_at start serial past e

  -- its own events, newest first
  unfoldable pub own : StartBy maps → ℕ → Request → List Event → List Event
  own start serial x [] = []
  own start serial x (e ∷ past) = if is_own start serial x past e then e ∷ own start serial x past else own start serial x past

  -- the request that it was born of, among these events
  unfoldable pub born_of : StartBy maps → ℕ → List Event → Option Request
  born_of start serial past = option_map birth (life start past serial)
