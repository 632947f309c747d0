-- The serial that stands in a local tag.
use Rattle.std.proofs.Common.{◌≡◌, ℕ, ◌<◌, ◌^◌, Option, Some, true, List, ap, subst, sym}
use Rattle.std.specs.Prelude.{◌↔◌}
use Rattle.notifier_model.specs.declared.place.Place.{Place}
use Rattle.notifier_model.specs.declared.homes.tag.TagNumbers.{TagNumbers}
use Rattle.notifier_model.specs.Start.{tag_of}
use Rattle.notifier_model.specs.Home.{names_serial}
use Rattle.notifier_model.proofs.HomeFacts.{serial_own}

-- what is read of a tag of its own
pub own_numbers : (worker : ℕ) (tag : List ℕ) (read : Option TagNumbers) → worker < 2 ^ 32
    → ((w s : ℕ) → w < 2 ^ 32 → s < 2 ^ 32 → (names_serial w s tag ≡ true) ↔ (read ≡ Some (record { worker = w; serial = Some s })))
    → (place : Place) (own : ℕ) → place.worker ≡ worker → own < 2 ^ 32 → tag ≡ tag_of place own → read ≡ Some (record { worker = worker; serial = Some own })
own_numbers worker tag read few tells place own same small is =
    (tells worker own few small).0
    (subst (λ (w : ℕ). names_serial w own tag ≡ true) same (subst (λ (t : List ℕ). names_serial place.worker own t ≡ true) (sym is) (serial_own place own)))

-- a tag that was read so
pub read_so : (numbers : TagNumbers) (worker own : ℕ) → Some numbers ≡ Some (record { worker = worker; serial = Some own }) → (numbers.worker ≡ worker) × (numbers.serial ≡ Some own)
read_so numbers worker own e =
    let the : TagNumbers = record { worker = worker; serial = Some own } in
    let same : numbers ≡ the = cc in
    (ap (λ (t : TagNumbers). t.worker) same, ap (λ (t : TagNumbers). t.serial) same)
