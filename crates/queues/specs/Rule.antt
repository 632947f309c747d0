-- The rule of a queue with many senders and one receiver.
use Rattle.std.specs.Prelude.{◌≡◌, ◌≤◌, ◌<◌, ℕ, ◌+◌, true, false, List, [], ◌∷◌, ◌++◌}
use mathlib.Core.Option.{some}
use lib.ListN.{get_elem?}
use Rattle.queues.specs.declared.items.Item.{Item}
use Rattle.queues.specs.declared.views.View.{View}
use Rattle.queues.specs.Items.{items_of, has_end, NothingAfterEnd}

module _ {T : Type 0} where
  -- ---- what is known at a seat

  -- nothing: at a seat that was joined to another one
  abbrev pub no_view : View T
  no_view = record { is_sender = false; number = 0; sent = []; is_receiver = false; taken = []; senders = 0 }

  -- at a sender's
  abbrev pub sender_view : ℕ → List (Item T) → View T
  sender_view number sent = record no_view { is_sender = true; number = number; sent = sent }

  -- at the receiver's, to which no sender's seat was joined
  abbrev pub receiver_view : ℕ → List (Item T) → View T
  receiver_view senders taken = record no_view { is_receiver = true; taken = taken; senders = senders }

  -- at the receiver's, after one sender more was made
  abbrev pub with_sender : View T → View T
  with_sender v = record v { senders = v.senders + 1 }

  -- at the receiver's, after one item more
  abbrev pub with_item : View T → Item T → View T
  with_item v x = record v { is_receiver = true; taken = v.taken ++ x ∷ [] }

  -- at the receiver's, once a sender's seat is joined to it, where s was known: now both lists are known here
  abbrev pub taken_over : View T → View T → View T
  taken_over v s = record v { is_receiver = true; is_sender = true; number = s.number; sent = s.sent }

  -- ---- what a step tells: the view before, the item, the view after

  abbrev pub SendsItem : View T → Item T → View T → Type 0
  SendsItem v x w = w ≡ sender_view v.number (v.sent ++ x ∷ [])

  -- the item is of a sender that was made, and whose end mark was not taken before
  abbrev pub TakesItem : View T → Item T → View T → Type 0
  TakesItem v x w = (w ≡ with_item v x) × (x.from < v.senders) × (has_end (items_of x.from v.taken) ≡ false)

  -- of the sender whose seat was joined to the receiver's, what was taken and then what is held is all that it sent
  abbrev pub RestIsHeld : View T → List (Item T) → Type 0
  RestIsHeld v held = v.is_sender ≡ true → items_of v.number (v.taken ++ held) ≡ v.sent

  -- ---- the rule

  -- a sender has one seat, and there is known what it sent
  abbrev pub KnowsSent : (ℕ → ℕ) → (ℕ → List (Item T)) → ℕ → ℕ → View T → Type 0
  KnowsSent seat_of sent senders seat v = v.is_sender ≡ true
      → (seat_of v.number ≡ seat) × (v.sent ≡ sent v.number) × (v.number < senders)

  -- the receiver has one seat, and there is known what was taken, and how many senders were made
  abbrev pub KnowsTaken : ℕ → List (Item T) → ℕ → ℕ → View T → Type 0
  KnowsTaken receiver_seat taken senders seat v = v.is_receiver ≡ true
      → (seat ≡ receiver_seat) × (v.taken ≡ taken) × (v.senders ≡ senders)

  -- The rule, of what the queue holds and of what is known at each seat, by the seat's number. For some `sent` (what each sender
  -- sent) and `taken`: each sender's items among those taken, and then among those held, are what it sent, in order; nothing
  -- follows an end mark; and each seat that knows a list knows that one.
  pub record IsInOrder (held : List (Item T)) (views : List (View T)) : Type 0 where
    pub sent : ℕ → List (Item T)
    pub taken : List (Item T)
    -- how many were made
    pub senders : ℕ
    -- the number of each sender's seat
    pub seat_of : ℕ → ℕ
    pub receiver_seat : ℕ
    pub in_order : (sender : ℕ) → items_of sender (taken ++ held) ≡ sent sender
    pub ends_last : (sender : ℕ) → NothingAfterEnd (sent sender)
    pub unmade : (sender : ℕ) → senders ≤ sender → sent sender ≡ []
    pub known : (seat : ℕ) (v : View T) → get_elem? views seat ≡ some v
        → KnowsSent seat_of sent senders seat v × KnowsTaken receiver_seat taken senders seat v
