-- How many senders have ended.
use Rattle.std.specs.Prelude.{◌≡◌, ◌<◌, ◌+◌, ℕ, zero, suc, true, if◌then◌else◌, List}
use Rattle.queues.specs.declared.items.Item.{Item}
use Rattle.queues.specs.Items.{items_of, has_end}

module _ {T : Type 0} where
  -- how many of the first n senders have their end mark in the list
  abbrev pub count_ended : ℕ → List (Item T) → ℕ
  count_ended zero xs = 0
  count_ended (suc n) xs = count_ended n xs + (if has_end (items_of n xs) then 1 else 0)

  -- each of the first n senders has
  abbrev pub AllEnded : ℕ → List (Item T) → Type 0
  AllEnded n xs = (sender : ℕ) → sender < n → has_end (items_of sender xs) ≡ true
