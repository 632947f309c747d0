-- A token bucket. Tokens are counted in thousandths: a datagram takes 1,000, and a millisecond brings as many as a second brings whole ones.
use Rattle.std.specs.Prelude.{ℕ, ◌+◌, ◌-◌, ◌*◌, Bool, min, nat_le, ◌==◌, if◌then◌else◌, Option, Some, None}
use Rattle.admission.specs.declared.bucket.Bucket.{Bucket}
use Rattle.admission.specs.declared.bucket.Rate.{Rate}

-- what a full bucket holds
abbrev pub full : Rate → ℕ
full r = 1000 * r.burst

-- what a bucket holds at a moment: what it held and what came since, as far as there is room
unfoldable pub filled : Rate → Bucket → ℕ → ℕ
filled r b now = min (b.tokens + r.per_second * (now - b.moment)) (full r)

-- what a source may use at a moment: one without a bucket has a full one
abbrev pub usable : Rate → Option Bucket → ℕ → ℕ
usable r None now = full r
usable r (Some b) now = filled r b now

abbrev pub is_full : Rate → Bucket → ℕ → Bool
is_full r b now = filled r b now == full r

-- a datagram's token is there
abbrev pub is_enough : ℕ → Bool
is_enough tokens = nat_le 1000 tokens

-- the bucket behind a datagram: its token is taken where it was there, and nothing else
abbrev pub left : ℕ → ℕ → Bucket
left tokens now = record { tokens = if is_enough tokens then tokens - 1000 else tokens; moment = now }
