-- What is next of what workers post.
use Rattle.std.specs.Prelude.{◌≡◌, ◌+◌, ℕ}
use Rattle.queues.specs.OutboxSeats.{TakerSeat}
use Rattle.queues.specs.OutboxTook.{Took}
use Rattle.queues.specs.declared.outbox.Posted.TheVariants as posted
use Rattle.feeds.specs.declared.sending.Next.{Next}
use Rattle.feeds.specs.declared.sending.Next.TheVariants as next

-- an out of a worker, which was taken; or that a worker has ended, so that one less is left; or nothing, and nothing has changed then
abbrev pub IsNext : TakerSeat → TakerSeat → ℕ → ℕ → Next → Type 0
IsNext old new left left' (next.Out out) = (worker : ℕ) × Took old (posted.Out worker out) new × (left' ≡ left)
IsNext old new left left' next.Ended = (worker : ℕ) × Took old (posted.Ended worker) new × (left' + 1 ≡ left)
IsNext old new left left' next.Nothing = (new ≡ old) × (left' ≡ left)
