-- The buckets of all sources, and what a datagram makes of them.
use Rattle.std.specs.Prelude.{ℕ, Bool, true, false, ◌&&◌, ◌||◌, nat_eq, nat_lt, is_some, if◌then◌else◌, List, [], length, Option, Some, None}
use Rattle.std.specs.Map.{lookup}
use Rattle.lru.specs.LruCache.{lru_cache, last_entry, put_entries}
use Rattle.admission.specs.declared.bucket.Bucket.{Bucket}
use Rattle.admission.specs.declared.bucket.Rate.{Rate}
use Rattle.admission.specs.declared.table.Rates.{Rates}
use Rattle.admission.specs.Buckets.{usable, is_full, is_enough, left}

-- no source was heard
abbrev pub empty : Rate → ℕ → Rates
empty rate size = record { rate = rate; buckets = lru_cache [] size }

-- the bucket of a source, if it has one
abbrev pub bucket : Rates → ℕ → Option Bucket
bucket r source = lookup (nat_eq source) r.buckets.entries

-- what a source may use at this moment
abbrev pub allowance : Rates → ℕ → ℕ → ℕ
allowance r source now = usable r.rate (bucket r source) now

abbrev pub is_idle : Rate → Option (ℕ × Bucket) → ℕ → Bool
is_idle rate None now = false
is_idle rate (Some entry) now = is_full rate entry.1 now

-- a further source finds a place: a free one, or that of the source that was heard the longest ago, where its bucket is full again
abbrev pub has_place : Rates → ℕ → Bool
has_place r now = nat_lt (length r.buckets.entries) r.buckets.cap || is_idle r.rate (last_entry r.buckets.entries) now

-- the source has a bucket, or finds a place for one
abbrev pub has_room : Rates → ℕ → ℕ → Bool
has_room r source now = is_some (bucket r source) || has_place r now

-- a datagram of this source is let through at this moment
unfoldable pub is_let : Rates → ℕ → ℕ → Bool
is_let r source now = has_room r source now && is_enough (allowance r source now)

-- the source has this bucket now, as the one heard last; where it is new and no place is free, the one heard the longest ago has none
abbrev pub with_bucket : Rates → ℕ → Bucket → Rates
with_bucket r source b = record r { buckets = lru_cache (put_entries nat_eq r.buckets source b) r.buckets.cap }

-- the table behind a datagram of this source at this moment
unfoldable pub after : Rates → ℕ → ℕ → Rates
after r source now = if has_room r source now then with_bucket r source (left (allowance r source now) now) else r
