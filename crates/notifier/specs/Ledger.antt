-- The book that the stored parts of a desk stand for.
use Rattle.std.specs.Prelude.{◌≡◌, ◌<◌, ◌≤◌, ◌^◌, List, map, All}
use Rattle.package.specs.Content.{Seen, finite_maps}
use Rattle.notifier.specs.declared.store.Ledger.{Ledger}
use Rattle.notifier_model.specs.declared.event.Out.{Out}
use Rattle.notifier_model.specs.declared.place.Place.{Place}
use Rattle.notifier_model.specs.Out.{out_of}
use Rattle.notifier_model.specs.Book.{Book, SteppedBy}
use Rattle.notifier.specs.Stored.{rows_of, IsIndexed}
use Rattle.notifier.specs.Sound.{IsLive, IsOwn, AreRising}

module _ {P : Type 0} (seen : P → Seen) where
  abbrev pub book_of : Ledger P → Book
  book_of ledger = record {
    clock = ledger.clock;
    next = ledger.next;
    rows = rows_of ledger.rows;
    boxes = map seen ledger.boxes.items;
    ring = ledger.ring.items;
  }

-- the book and the outs are those of the step
pub record IsStep (stepped : SteppedBy finite_maps) (book : Book) (outs : List Out) : Type 0 where
  pub book_is : book ≡ stepped.book
  pub outs_are : outs ≡ map out_of stepped.outs

-- the numbers stay within their types, each index leads to its rows, each row is of its serial, serials rise, and the ring has the room of the limits
pub record IsSound {P : Type 0} (place : Place) (ledger : Ledger P) : Type 0 where
  pub clock_fits : ledger.clock < 2 ^ 63
  pub next_begins : 1 ≤ ledger.next
  pub next_fits : ledger.next ≤ 2 ^ 32
  pub rows_indexed : IsIndexed ledger.rows
  pub rows_live : All (IsLive ledger.clock) (rows_of ledger.rows)
  pub rows_own : All (IsOwn place ledger.next) (rows_of ledger.rows)
  pub rows_rise : AreRising (rows_of ledger.rows)
  pub ring_fits : ledger.ring.capacity ≡ place.limits.kept
