-- What the thread that sends took of the outbox.
use Rattle.std.specs.Prelude.{◌≡◌, ◌+◌, ℕ, List, [], ◌∷◌, ◌++◌}
use Rattle.queues.specs.declared.items.Item.{Item}
use Rattle.queues.specs.Values.{values}
use Rattle.queues.specs.Ended.{count_ended}
use Rattle.queues.specs.OutboxSeats.{TakerSeat}
use Rattle.crew.specs.Whole.{AllBy}
use Rattle.notifier_model.specs.declared.event.Out.{Out}
use Rattle.feeds.specs.declared.sending.Next.{Next}
use Rattle.feeds.specs.declared.sending.Next.TheVariants as next

-- the taker took these outs, in this order, and end marks: so many workers hadn't ended before, and so many haven't now
pub record Takes (old new : TakerSeat) (left left' : ℕ) (outs : List Out) : Type 0 where
  pub outbox : new.outbox ≡ old.outbox
  pub workers : new.workers ≡ old.workers
  pub left_is : left' + count_ended old.workers new.got ≡ left + count_ended old.workers old.got
  pub got : (more : List (Item Out)) × (new.got ≡ old.got ++ more) × (values more ≡ outs) × AllBy old.workers more

-- the out that is next, if one is
abbrev pub next_outs : Next → List Out
next_outs (next.Out out) = out ∷ []
next_outs next.Ended = []
next_outs next.Nothing = []
