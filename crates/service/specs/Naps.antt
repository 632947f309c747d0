-- For how many milliseconds a thread of a service sleeps at most, and when the one that sends does nothing but send.
use Rattle.std.specs.Prelude.{ℕ, ◌-◌, min, max, Bool, ◌&&◌, ◌||◌, nat_lt, Option, Some, None, if◌then◌else◌}
use Rattle.service.specs.declared.sending.watch.Watch.{Watch}

-- until a NOTIFY is sent again, but 20 at most. Where none waits for its answer: a second, since whoever posts wakes the thread, or 20 where each is sent once
abbrev pub idle_nap : Option ℕ → Bool → ℕ → ℕ
idle_nap (Some moment) is_off now = max 1 (min (moment - now) 20)
idle_nap None is_off now = if is_off then 20 else 1000

-- the thread that sends: 1 where outs are still to be kept, which have no moment yet
abbrev pub sending_nap : Bool → Option ℕ → Bool → ℕ → ℕ
sending_nap has_outs next is_off now = if has_outs then 1 else idle_nap next is_off now

-- the thread that reads files again: until they are due, from 2 to 1000
abbrev pub reading_nap : ℕ → ℕ → ℕ
reading_nap due now = max 2 (min (due - now) 1000)

-- outs follow one another, or something was done in one of the last 8 turns, and neither 512 outs nor 8 turns without one came since it looked at
-- the notes of answers: so it only sends
abbrev pub is_busy : Watch → Bool
is_busy w = (nat_lt 0 w.outs || nat_lt 0 w.idle.turns) && (nat_lt w.outs 512 && (nat_lt w.idle.turns 8 && nat_lt w.empty 8))
