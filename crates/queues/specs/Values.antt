-- The values among items, and items made of values.
use Rattle.std.specs.Prelude.{ℕ, Option, Some, None, List, map}
use Rattle.std.specs.List.{filter_map}
use Rattle.queues.specs.declared.items.Item.{Item}
use Rattle.queues.specs.declared.items.Entry.{Entry}
use Rattle.queues.specs.declared.items.Entry.TheVariants.{Value, End}

module _ {T : Type 0} where
  abbrev pub value_in : Entry T → Option T
  value_in (Value x) = Some x
  value_in End = None

  -- in order, without the end marks
  abbrev pub values : List (Item T) → List T
  values xs = filter_map (λ (x : Item T). value_in x.entry) xs

  -- the item by which a sender sends a value
  abbrev pub value_item : ℕ → T → Item T
  value_item sender x = record { from = sender; entry = Value x }

  -- a sender's end mark
  abbrev pub end_item : ℕ → Item T
  end_item sender = record { from = sender; entry = End }

  -- the items by which a sender sends these values
  abbrev pub values_by : ℕ → List T → List (Item T)
  values_by sender xs = map (λ x. value_item sender x) xs
