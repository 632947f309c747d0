-- Packages in a row: of two with one name the first counts.
use Rattle.std.specs.Prelude.{ℕ, if◌then◌else◌, List, [], ◌∷◌, Option, None, Some, bytes_eq}
use Rattle.package.specs.declared.change.Change.{Change}
use Rattle.package.specs.declared.change.Outcome.{Outcome}
use Rattle.package.specs.declared.change.Outcome.TheVariants.{Unknown}
use Rattle.package.specs.Content.{Content, Maps, SeenBy}
use Rattle.package.specs.Changes.{event_of_change, change_of}

module _ {maps : Maps} where
  abbrev pub first_box : List ℕ → List (SeenBy maps) → Option (SeenBy maps)
  first_box name [] = None
  first_box name (box ∷ boxes) = if bytes_eq box.name name then Some box else first_box name boxes

  abbrev pub after_box : SeenBy maps → Outcome × List (SeenBy maps) → Outcome × List (SeenBy maps)
  after_box box r = (r.0, box ∷ r.1)

  abbrev pub before_boxes : Outcome × SeenBy maps → List (SeenBy maps) → Outcome × List (SeenBy maps)
  before_boxes r boxes = (r.0, r.1 ∷ boxes)

  -- a change goes to the first box of its package
  abbrev pub change_first : List (SeenBy maps) → Change → Outcome × List (SeenBy maps)
  change_first [] c = (Unknown, [])
  change_first (box ∷ boxes) c =
      if bytes_eq box.name (event_of_change c) then before_boxes (change_of box c) boxes
      else after_box box (change_first boxes c)

  abbrev pub held_by : List ℕ → Option (SeenBy maps) → Option Content
  held_by resource None = None
  held_by resource (Some box) = maps.held box.contents resource

  -- what the first box of the name holds of the resource
  abbrev pub content_in : List (SeenBy maps) → List ℕ → List ℕ → Option Content
  content_in boxes name resource = held_by resource (first_box name boxes)

  -- its content type, where there is one
  abbrev pub type_of : Option (SeenBy maps) → List ℕ
  type_of None = []
  type_of (Some box) = box.content_type
