-- What bounds a notifier. Times are seconds.
use Rattle.std.specs.Prelude.{ℕ, ◌≤◌}

pub record Limits : Type 0 where
  -- the least time that may be asked for, but for none
  pub min_time : ℕ
  -- the greatest time that is granted
  pub max_time : ℕ
  -- the time of a SUBSCRIBE that doesn't say, but for one to `refer`
  pub default_time : ℕ
  -- the time of a REFER, and of a SUBSCRIBE to `refer` that doesn't say
  pub refer_time : ℕ
  -- the last number of a NOTIFY
  pub max_cseq : ℕ
  -- how many subscriptions may be alive
  pub table : ℕ
  -- the last serial of a subscription
  pub serials : ℕ
  -- how many answers are kept for retransmissions
  pub kept : ℕ
  -- how many items the queue to a worker holds, and the one from the workers
  pub inbox : ℕ
  pub outbox : ℕ

abbrev pub IsWithin : ℕ → ℕ → ℕ → Type 0
IsWithin low high n = (low ≤ n) × (n ≤ high)

-- each limit is in its range
pub record AreLimits (l : Limits) : Type 0 where
  pub min_time : IsWithin 1 3600 l.min_time
  pub max_time : IsWithin l.min_time 4294967295 l.max_time
  pub default_time : IsWithin l.min_time l.max_time l.default_time
  pub refer_time : IsWithin l.min_time l.max_time l.refer_time
  pub max_cseq : IsWithin 1 2147483647 l.max_cseq
  pub table : IsWithin 1 65536 l.table
  pub serials : IsWithin 1 4294967295 l.serials
  pub kept : IsWithin 1 4096 l.kept
  pub inbox : IsWithin 1 65536 l.inbox
  pub outbox : IsWithin 1 65536 l.outbox
