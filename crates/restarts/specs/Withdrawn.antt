-- A book without those who watch what isn't held.
use Rattle.std.specs.Prelude.{Bool, List, filter, is_some}
use Rattle.package.specs.Content.{Maps, SeenBy}
use Rattle.package.specs.Boxes.{content_in}
use Rattle.notifier_model.specs.declared.row.Row.{Row}
use Rattle.notifier_model.specs.declared.saved.Saved.{Saved}

-- the boxes hold what the row watches
abbrev pub is_held : {maps : Maps} → List (SeenBy maps) → Row → Bool
is_held boxes row = is_some (content_in boxes row.sub.want.event.package row.sub.want.resource)

-- the book with those rows alone that pass the test
abbrev pub book_where : (Row → Bool) → Saved → Saved
book_where test book = record book { rows = filter test book.rows }
