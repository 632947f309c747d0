-- What the taker of a crew kept of a script's outs. No public contract cites this.
use Rattle.std.specs.Prelude.{◌≡◌, ◌==◌, ℕ, ◌<◌, true, if◌then◌else◌, List, [], ◌∷◌, ◌++◌, length, get_or}
use Rattle.queues.specs.declared.items.Item.{Item}
use Rattle.queues.specs.Items.{items_of}
use Rattle.queues.specs.Ended.{AllEnded}
use Rattle.queues.specs.Values.{values}
use Rattle.notifier_model.specs.declared.event.Out.{Out}
use Rattle.queues.specs.OutboxSeats.{TakerSeat}
use Rattle.server.specs.declared.work.Work.{Work}
use Rattle.server.specs.declared.gathering.GatheredOuts.{GatheredOuts}

-- workers numbered from 0, of which nothing was got
pub record AreNew (n : ℕ) (works : List Work) : Type 0 where
  pub len : length works ≡ n
  pub each : (k : ℕ) (work : Work) → k < n
      → ((get_or works k work).number ≡ k) × ((get_or works k work).outs.items ≡ [])

-- this worker sent one out more, and the others sent nothing
pub record Keeps (worker : ℕ) (out : Out) (old new : List Work) : Type 0 where
  pub each : (k : ℕ) (work : Work) → k < length old
      → ((get_or new k work).number ≡ (get_or old k work).number)
      × ((get_or new k work).outs.items ≡ (get_or old k work).outs.items ++ (if worker == k then out ∷ [] else []))

-- of each worker all that was got is kept
pub record AreKept (got : List (Item Out)) (works : List Work) : Type 0 where
  pub each : (k : ℕ) (work : Work) → k < length works
      → ((get_or works k work).number ≡ k) × ((get_or works k work).outs.items ≡ values (items_of k got))

-- the taker has each worker's end mark; and all that it got is kept, unless an allocation failed
pub record IsGathered (taker : TakerSeat) (gathered : GatheredOuts) : Type 0 where
  pub outbox : gathered.taker.outbox ≡ taker.outbox
  pub ended : AllEnded taker.workers gathered.taker.got
  pub len : length gathered.works.items ≡ taker.workers
  pub kept : gathered.is_whole ≡ true → AreKept gathered.taker.got gathered.works.items
