-- Whole runs: what is let through of many datagrams.
use Rattle.std.specs.Prelude.{◌≡◌, ◌≢◌, ℕ, ◌+◌, ◌-◌, ◌*◌, ◌<◌, ◌≤◌, Bool, true, false, ◌==◌, if◌then◌else◌, List, [], ◌∷◌, length, map, filter, count_by, slice_index}
use Rattle.std.specs.List.{AllByRecursion}
use Rattle.admission.specs.declared.bucket.Rate.{Rate}
use Rattle.admission.specs.declared.table.Rates.{Rates}
use Rattle.admission.specs.declared.guesses.Guesses.{Guesses}
use Rattle.admission.specs.Table.{empty, has_room, is_let, after}
use Rattle.admission.specs.Guesses.{bars, guessed}

-- a datagram of a source, at a moment in milliseconds
pub record Arrival : Type 0 where
  pub source : ℕ
  pub moment : ℕ

abbrev pub is_of : ℕ → Arrival → Bool
is_of source a = source == a.source

abbrev pub behind : Rates → Arrival → Rates
behind r a = after r a.source a.moment

-- the table behind all of them
abbrev pub behind_all : Rates → List Arrival → Rates
behind_all r [] = r
behind_all r (a ∷ rest) = behind_all (behind r a) rest

-- those that are let through
abbrev pub let_through : Rates → List Arrival → List Arrival
let_through r [] = []
let_through r (a ∷ rest) =
    if is_let r a.source a.moment then a ∷ let_through (behind r a) rest else let_through (behind r a) rest

-- they come in the order of time, from one moment to another
abbrev pub AreBetween : ℕ → ℕ → List Arrival → Type 0
AreBetween from to [] = from ≤ to
AreBetween from to (a ∷ rest) = (from ≤ a.moment) × AreBetween a.moment to rest

-- ---- no source gets more

abbrev pub AtMostBurstAndRate : Type 0
AtMostBurstAndRate =
    (rate : Rate) (size : ℕ) (before arrivals : List Arrival) (source from to : ℕ) → 0 < size → AreBetween from to arrivals
    → 1000 * count_by (is_of source) (let_through (behind_all (empty rate size) before) arrivals)
    ≤ 1000 * rate.burst + rate.per_second * (to - from)

-- ---- no source below its rate is refused

-- at each datagram of this source the table has room for it
abbrev pub HasAlwaysRoom : ℕ → Rates → List Arrival → Type 0
HasAlwaysRoom source r [] = Unit {0}
HasAlwaysRoom source r (a ∷ rest) =
    (source ≡ a.source → has_room r a.source a.moment ≡ true) × HasAlwaysRoom source (behind r a) rest

-- when the datagrams of this source come
abbrev pub moments : ℕ → List Arrival → List ℕ
moments source arrivals = map (λ (a : Arrival). a.moment) (filter (is_of source) arrivals)

-- from the one at i on, the next n + 1 are no more than the burst and the rate times the time that they take
abbrev pub AreBelow : Rate → List ℕ → Type 0
AreBelow rate times =
    (i n : ℕ) → i + n < length times
    → 1000 * (n + 1) ≤ 1000 * rate.burst + rate.per_second * (slice_index times (i + n) - slice_index times i)

abbrev pub NoneBelowIsRefused : Type 0
NoneBelowIsRefused =
    (rate : Rate) (size : ℕ) (arrivals : List Arrival) (source from to : ℕ) → 0 < size → AreBetween from to arrivals
    → HasAlwaysRoom source (empty rate size) arrivals → AreBelow rate (moments source arrivals)
    → filter (is_of source) (let_through (empty rate size) arrivals) ≡ filter (is_of source) arrivals

-- ---- nobody is barred by what others guess

-- a wrong password of a user, from a source, at a moment in thousandths of a minute
pub record Guess : Type 0 where
  pub source : ℕ
  pub user : List ℕ
  pub moment : ℕ

-- nobody guessed
abbrev pub none_guessed : Rate → ℕ → Guesses
none_guessed rate size = record { sources = empty rate size; names = empty rate size }

-- what all of them leave
abbrev pub all_guessed : Guesses → List Guess → Guesses
all_guessed g [] = g
all_guessed g (x ∷ rest) = all_guessed (guessed g x.source x.user x.moment) rest

abbrev pub AreElsewhere : ℕ → List Guess → Type 0
AreElsewhere source guesses = AllByRecursion (λ (g : Guess). g.source ≢ source) guesses

abbrev pub NoneElseIsBarred : Type 0
NoneElseIsBarred =
    (rate : Rate) (size : ℕ) (guesses : List Guess) (source : ℕ) (user : List ℕ) (now : ℕ) → 0 < size → 0 < rate.burst
    → AreElsewhere source guesses → bars (all_guessed (none_guessed rate size) guesses) source user now ≡ false
