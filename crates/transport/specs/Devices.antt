-- What readers and writers gave and took, and how often they failed.
use Rattle.std.specs.Prelude.{◌≡◌, ℕ, zero, suc, ◌+◌, ◌-◌, ◌<◌, ◌^◌, min, Bool, List, ◌++◌, length, if◌then◌else◌, ◌==◌, ◌&&◌, not, Option, Result, Ok, Err}
use Rattle.std.specs.Io.KnownBytes.{Consumes, Appends}

-- a reader, with how many of its reads failed
pub record SourceSeen (R : Type 0) : Type 0 where
  pub reader : R
  pub failures : ℕ

-- a writer, with how many of its writes and flushes failed, and whether the last call of it was a flush that succeeded
pub record SinkSeen (W : Type 0) : Type 0 where
  pub writer : W
  pub failures : ℕ
  pub is_flushed : Bool

-- a count after one more, which stays at 2^64 - 1 once there
abbrev pub one_more : ℕ → ℕ
one_more n = min (n + 1) (2 ^ 64 - 1)

-- the same after so many more
abbrev pub rises : ℕ → ℕ → ℕ
rises zero n = n
rises (suc k) n = one_more (rises k n)

-- the failures after a read or a flush: an error is one
abbrev pub failures_after : {T E : Type 0} → Result T E → ℕ → ℕ
failures_after (Ok x) n = n
failures_after (Err e) n = one_more n

-- the failures after a write of these bytes: an error is one, and so is a write that takes none of some bytes
abbrev pub failures_after_write : {E : Type 0} → List ℕ → Result ℕ E → ℕ → ℕ
failures_after_write bytes (Ok taken) n = if taken == 0 && not (length bytes == 0) then one_more n else n
failures_after_write bytes (Err e) n = one_more n

-- known bytes begin with more bytes than these, and lose them
abbrev pub GaveMore : ℕ → Option (List ℕ) → Option (List ℕ) → Type 0
GaveMore most old new = (bytes : List ℕ) × Consumes old new bytes × (most < length bytes)

-- known bytes grow by a front of these
abbrev pub AppendsFront : Option (List ℕ) → Option (List ℕ) → List ℕ → Type 0
AppendsFront old new bytes = (front rest : List ℕ) × Appends old new front × (bytes ≡ front ++ rest)
