-- What a Model keeps of a desk: its place and its book, with the packages themselves, whatever they are seen as.
use Rattle.std.specs.Prelude.{ℕ, List, map, Option, option_map}
use Rattle.package.specs.Content.{Seen}
use Rattle.notifier_model.specs.declared.place.Place.{Place}
use Rattle.notifier.specs.declared.store.Ledger.{Ledger}
use Rattle.notifier_model.specs.declared.row.Row.{Row}
use Rattle.notifier_model.specs.declared.row.Kept.{Kept}
use Rattle.notifier.specs.Stored.{rows_of}
use Rattle.notifier.specs.Standing.{Standing}

pub record Held (P : Type 0) : Type 0 where
  pub place : Place
  pub clock : ℕ
  pub next : ℕ
  pub rows : List Row
  pub boxes : List P
  pub ring : List Kept

abbrev pub held_of : {P : Type 0} → Place → Ledger P → Held P
held_of place ledger = record {
  place = place;
  clock = ledger.clock;
  next = ledger.next;
  rows = rows_of ledger.rows;
  boxes = ledger.boxes.items;
  ring = ledger.ring.items;
}

-- the desk as it is seen, where its packages are seen so
abbrev pub standing_by : {P : Type 0} → (P → Seen) → Held P → Standing
standing_by seen desk = record {
  place = desk.place;
  book = record { clock = desk.clock; next = desk.next; rows = desk.rows; boxes = map seen desk.boxes; ring = desk.ring };
}

abbrev pub seen_by : {P : Type 0} → (P → Seen) → Option (Held P) → Option Standing
seen_by seen desk = option_map (standing_by seen) desk
