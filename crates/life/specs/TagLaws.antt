-- What a local tag tells apart.
use Rattle.std.specs.Prelude.{ℕ, ◌≡◌, ◌≢◌, ◌<◌, ◌^◌, List, All, AllPairs}
use Rattle.notifier_model.specs.declared.event.Event.{Event}
use Rattle.notifier_model.specs.declared.place.Place.{Place}
use Rattle.notifier_model.specs.declared.row.Row.{Row}
use Rattle.notifier_model.specs.Start.{Start, tag_of}
use Rattle.notifier_model.specs.Run.{run}
use Rattle.life.specs.Laws.{IsStart}

-- One tag, one worker and one serial. Both numbers are below 2^32, so the bounds leave none out.
abbrev pub ApartLaw : Type 0
ApartLaw = (a b : Place) (s t : ℕ) → a.worker < 2 ^ 64 → b.worker < 2 ^ 64 → s < 2 ^ 64 → t < 2 ^ 64 →
    tag_of a s ≡ tag_of b t → (a.worker ≡ b.worker) × (s ≡ t)

-- the tag of a live subscription
abbrev pub tag_in : Row → List ℕ
tag_in row = row.sub.usage.local_tag

-- the live subscriptions after these events
abbrev pub live_rows : Start → List Event → List Row
live_rows start es = (run start es).rows

-- two live subscriptions with two tags
abbrev pub HaveTwoTags : Row → Row → Type 0
HaveTwoTags row other = tag_in row ≢ tag_in other

-- At any moment no two live subscriptions of a worker share a tag.
abbrev pub LiveLaw : Type 0
LiveLaw = (start : Start) (es : List Event) → IsStart start → AllPairs HaveTwoTags (live_rows start es)

-- Nor do those of two workers, at any two moments.
abbrev pub OthersLaw : Type 0
OthersLaw = (start other : Start) (es fs : List Event) → IsStart start → IsStart other →
    start.place.worker < 2 ^ 64 → other.place.worker < 2 ^ 64 → start.place.worker ≢ other.place.worker →
    All (λ row. All (HaveTwoTags row) (live_rows other fs)) (live_rows start es)
