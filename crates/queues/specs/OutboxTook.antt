-- What a take tells: the taker's seat before, what it answers, the seat after.
use Rattle.std.specs.Prelude.{◌≡◌, ◌<◌, ℕ, false}
use Rattle.queues.specs.declared.outbox.Posted.{Posted}
use Rattle.queues.specs.declared.outbox.Posted.TheVariants.{Out, Ended}
use Rattle.notifier_model.specs.declared.event.Out.{Out as Sent}
use Rattle.queues.specs.declared.items.Item.{Item}
use Rattle.queues.specs.Items.{items_of, has_end}
use Rattle.queues.specs.Values.{value_item, end_item}
use Rattle.queues.specs.OutboxSeats.{TakerSeat, with_got}

-- the worker is one of this outbox, and its end mark was not got yet
abbrev pub IsOpen : TakerSeat → ℕ → Type 0
IsOpen t worker = (worker < t.workers) × (has_end (items_of worker t.got) ≡ false)

-- the item that is answered: an out of a worker, or the end mark of one
abbrev pub posted_item : Posted → Item Sent
posted_item (Out worker out) = value_item worker out
posted_item (Ended worker) = end_item worker

-- what was got grew by just what is answered, which is of an open worker
abbrev pub Took : TakerSeat → Posted → TakerSeat → Type 0
Took old posted new = (new ≡ with_got old (posted_item posted)) × IsOpen old (posted_item posted).from
