-- The book that was saved, with these packages.
use Rattle.std.specs.Prelude.{List}
use Rattle.package.specs.Content.{Maps, SeenBy}
use Rattle.notifier_model.specs.declared.saved.Saved.{Saved}
use Rattle.notifier_model.specs.Book.{BookBy}

module _ {maps : Maps} where
  abbrev pub book_with : Saved → List (SeenBy maps) → BookBy maps
  book_with saved boxes = record { clock = saved.clock; next = saved.next; rows = saved.rows; boxes = boxes; ring = saved.ring }
