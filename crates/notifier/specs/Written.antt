-- What a desk writes of its book.
use Rattle.std.specs.Prelude.{◌≡◌, ℕ, List, [], Option, Some, None, Result, Ok, Err}
use Rattle.notifier_model.specs.declared.row.Row.{Row}
use Rattle.notifier_model.specs.declared.saved.Saved.{Saved}
use Rattle.package.specs.Content.{Maps}
use Rattle.notifier_model.specs.Book.{BookBy}
use Rattle.snapshots.specs.Rows.{row_text, IsRow}
use Rattle.snapshots.specs.declared.book.BookError.{BookError}
use Rattle.snapshots.specs.declared.book.BookError.TheVariants.{NoMemory, OtherVersion, Bad}
use Rattle.notifier.specs.Stored.{rows_of}
use Rattle.notifier.specs.declared.store.Ledger.{Ledger}

-- what is saved of a book: all but its boxes
abbrev pub saved_of : {maps : Maps} → BookBy maps → Saved
saved_of b = record { clock = b.clock; next = b.next; rows = b.rows; ring = b.ring }

-- the same of the stored parts
abbrev pub saved_ledger : {P : Type 0} → Ledger P → Saved
saved_ledger ledger = record { clock = ledger.clock; next = ledger.next; rows = rows_of ledger.rows; ring = ledger.ring.items }

abbrev pub some_text : Option Row → List ℕ
some_text None = []
some_text (Some row) = row_text row

-- if there is a row, it is read again
abbrev pub IsSomeRow : Option Row → Type 0
IsSomeRow None = Unit {0}
IsSomeRow (Some row) = IsRow row

-- it was read as this book, or memory was wanting
abbrev pub IsReadAs : Saved → Result Saved BookError → Type 0
IsReadAs book (Ok read) = read ≡ book
IsReadAs book (Err NoMemory) = Unit {0}
IsReadAs book (Err OtherVersion) = ⊥
IsReadAs book (Err Bad) = ⊥
