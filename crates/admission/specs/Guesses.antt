-- Wrong passwords: each takes a token of its source and one of the name of its user. Moments are thousandths of a minute here, so that what
-- a rate brings in a second comes in a minute.
use Rattle.std.specs.Prelude.{ℕ, ◌-◌, ◌/◌, Bool, false, not, ◌&&◌, ◌||◌, nat_lt, List, [], ◌∷◌, slice_index, Option, Some, None}
use Rattle.std.specs.Int.{w32, from_be_bytes}
use Rattle.sha2.specs.Sha256.{sha256}
use Rattle.admission.specs.declared.bucket.Bucket.{Bucket}
use Rattle.admission.specs.declared.guesses.Guesses.{Guesses}
use Rattle.admission.specs.declared.table.Rates.{Rates}
use Rattle.admission.specs.Buckets.{is_enough}
use Rattle.admission.specs.Table.{bucket, allowance, after}

-- a moment in milliseconds, as thousandths of a minute
abbrev pub minute_clock : ℕ → ℕ
minute_clock moment = moment / 60

abbrev pub first_four : List ℕ → ℕ
first_four octets = from_be_bytes w32 (slice_index octets 0 ∷ slice_index octets 1 ∷ slice_index octets 2 ∷ slice_index octets 3 ∷ [])

-- a user's name as a number, however long it is: the first four octets of its SHA-256. Names of one number share a bucket
abbrev pub name_number : List ℕ → ℕ
name_number user = first_four (sha256 user)

abbrev pub has_token : Rates → ℕ → ℕ → Bool
has_token r key now = is_enough (allowance r key now)

abbrev pub is_within_hour : Option Bucket → ℕ → Bool
is_within_hour None now = false
is_within_hour (Some b) now = nat_lt (now - b.moment) 60000

-- a wrong password came from this source, less than an hour ago
abbrev pub has_guessed : Rates → ℕ → ℕ → Bool
has_guessed r source now = is_within_hour (bucket r source) now

-- a source without a token is barred, whatever user it names. A user whose name has none is barred at each source that has guessed, and at no
-- other: so nobody is kept out by what comes from elsewhere
abbrev pub bars : Guesses → ℕ → List ℕ → ℕ → Bool
bars g source user now =
    not (has_token g.sources source now)
    || (has_guessed g.sources source now && not (has_token g.names (name_number user) now))

-- a wrong password of this source and this user takes a token of each, if one is there
abbrev pub guessed : Guesses → ℕ → List ℕ → ℕ → Guesses
guessed g source user now =
    record { sources = after g.sources source now; names = after g.names (name_number user) now }

-- only the source's was taken
abbrev pub half_guessed : Guesses → ℕ → ℕ → Guesses
half_guessed g source now = record g { sources = after g.sources source now }
