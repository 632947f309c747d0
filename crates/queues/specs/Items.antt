-- Lists of items: who sent them, and where a sender has ended.
use Rattle.std.specs.Prelude.{◌≡◌, ◌==◌, ℕ, Bool, true, false, List, [], ◌∷◌, ◌++◌}
use Rattle.std.specs.List.{filter, list_any}
use Rattle.queues.specs.declared.items.Item.{Item}
use Rattle.queues.specs.declared.items.Entry.{Entry}
use Rattle.queues.specs.declared.items.Entry.TheVariants.{Value, End}

-- the first list begins with the second
abbrev pub StartsWith : {A : Type 0} → List A → List A → Type 0
StartsWith {A} all front = (rest : List A) × (all ≡ front ++ rest)

module _ {T : Type 0} where
  abbrev pub is_end_entry : Entry T → Bool
  is_end_entry (Value x) = false
  is_end_entry End = true

  -- whether the item is an end mark
  abbrev pub is_end : Item T → Bool
  is_end x = is_end_entry x.entry

  -- the items of a sender, in order
  abbrev pub items_of : ℕ → List (Item T) → List (Item T)
  items_of sender xs = filter (λ (x : Item T). x.from == sender) xs

  -- whether an end mark stands in the list
  abbrev pub has_end : List (Item T) → Bool
  has_end xs = list_any is_end xs

  -- nothing follows an end mark
  abbrev pub NothingAfterEnd : List (Item T) → Type 0
  NothingAfterEnd [] = Unit {0}
  NothingAfterEnd (x ∷ xs) = (is_end x ≡ true → xs ≡ []) × NothingAfterEnd xs

  -- what was taken of the sender is the beginning of what it sent, and all of that where its end mark was taken
  abbrev pub TookInOrder : ℕ → List (Item T) → List (Item T) → Type 0
  TookInOrder sender taken sent = StartsWith sent (items_of sender taken)
      × (has_end (items_of sender taken) ≡ true → items_of sender taken ≡ sent)
