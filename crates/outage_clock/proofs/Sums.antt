-- What one look makes of a clock, and what that says of whole runs.
use Rattle.std.proofs.Common.{◌≡◌, ◌≤◌, ℕ, ◌+◌, ◌-◌, min, max, Bool, true, Option, Some, None, List, [], ◌∷◌, arith}
use Rattle.outage_clock.specs.declared.clock.TheConstants.{GAP}
use Rattle.outage_clock.specs.Moments.{ClockSeen, beyond, budget, held, looked}
use Rattle.outage_clock.specs.Runs.{Step, Look, Hold, run, IsSound, IsSteady, AllFail, AllSucceed, NeverFalls, NeverFaster, LosesAtMost, EachOutageLosesAtMost, IsRealTime}

-- ---- one look, in numbers

at_least : (a x b : ℕ) → a + x ≤ b → a ≤ b
at_least a x b h = omega arith

-- it counts no more than passed
no_faster : (reading read given lost : ℕ) → (given + (min (reading - read) GAP - lost)) + read ≤ max read reading + given
no_faster reading read given lost = omega arith

no_faster_then : (a b g r g' r' : ℕ) → a + r' ≤ b + g' → g' + r ≤ r' + g → a + r ≤ b + g
no_faster_then a b g r g' r' then here = omega arith

-- where the process didn't stand still all that passed is counted or left out
read_then : (reading read : ℕ) → reading ≤ read + GAP → max read reading ≡ read + min (reading - read) GAP
read_then reading read steady = omega arith

below_span : (span x left : ℕ) → min (span - x) left ≤ span
below_span span x left = omega arith

below_left : (x left : ℕ) → min x left ≤ left
below_left x left = omega arith

below_none : (left : ℕ) → min 0 left ≤ 0
below_none left = omega arith

some_loses : (m s o g r left : ℕ) → m ≡ r + s → o ≤ s → o ≤ left → m + (g + g) + (left - o) ≤ r + ((g + (s - o)) + (g + (s - o))) + left
some_loses m s o g r left is low within = omega arith

none_loses : (m s o g r left k : ℕ) → m ≡ r + s → o ≤ 0 → m + (g + g) + (left + min (s - o) k) ≤ r + ((g + (s - o)) + (g + (s - o))) + left
none_loses m s o g r left k is none = omega arith

some_loses_out : (m s o g r left : ℕ) → m ≡ r + s → o ≤ s → o ≤ left → m + g + (left - o) ≤ r + (g + (s - o)) + left
some_loses_out m s o g r left is low within = omega arith

none_same : (m s o g r : ℕ) → m ≡ r + s → o ≤ 0 → (g + (s - o)) + r ≡ m + g
none_same m s o g r is none = omega arith

-- what is left out goes off what may be, or was counted before
module _ (reading read given left limit : ℕ) (steady : reading ≤ read + GAP) where
  abbrev past : ℕ
  past = min (reading - read) GAP

  abbrev gone : Option ℕ → ℕ
  gone stop = min (beyond stop given past) left

  abbrev after : Option ℕ → ℕ
  after stop = given + (past - gone stop)

  loses : (stop : Option ℕ) → max read reading + (given + given) + budget stop limit left (past - gone stop) (gone stop) ≤ read + (after stop + after stop) + left
  loses None = none_loses _ past (gone None) given read left (limit - left) (read_then reading read steady) (below_none left)
  loses (Some m) = some_loses _ past (gone (Some m)) given read left (read_then reading read steady) (below_span past (m - given) left) (below_left _ left)

  loses_out : (m : ℕ) → max read reading + given + (left - gone (Some m)) ≤ read + after (Some m) + left
  loses_out m = some_loses_out _ past (gone (Some m)) given read left (read_then reading read steady) (below_span past (m - given) left) (below_left _ left)

  loses_none : after None + read ≡ max read reading + given
  loses_none = none_same _ past (gone None) given read (read_then reading read steady) (below_none left)

loses_then : (a b l g r k g' r' k' : ℕ) → a + (g' + g') + l ≤ r' + (b + b) + k' → r' + (g + g) + k' ≤ r + (g' + g') + k → a + (g + g) + l ≤ r + (b + b) + k
loses_then a b l g r k g' r' k' then here = omega arith

loses_out_then : (a b l g r k g' r' k' : ℕ) → a + g' + l ≤ r' + b + k' → r' + g + k' ≤ r + g' + k → a + g + l ≤ r + b + k
loses_out_then a b l g r k g' r' k' then here = omega arith

same_then : (a b g r g' r' : ℕ) → a + r' ≡ b + g' → g' + r ≡ r' + g → a + r ≡ b + g
same_then a b g r g' r' then here = omega arith

-- ---- whole runs

pub never_falls : NeverFalls
never_falls [] c = omega arith
never_falls (Look reading ∷ steps) c = at_least c.given _ _ (never_falls steps (looked reading c))
never_falls (Hold stop ∷ steps) c = never_falls steps (held stop c)

pub never_faster : NeverFaster
never_faster [] c = omega arith
never_faster (Look reading ∷ steps) c =
    no_faster_then _ _ c.given c.read _ _ (never_faster steps (looked reading c)) (no_faster reading c.read c.given _)
never_faster (Hold stop ∷ steps) c = never_faster steps (held stop c)

loses_all : (steps : List Step) (c : ClockSeen) → IsSteady steps c
    → (run steps c).read + (c.given + c.given) + (run steps c).left ≤ c.read + ((run steps c).given + (run steps c).given) + c.left
loses_all [] c steady = omega arith
loses_all (Look reading ∷ steps) c steady =
    loses_then _ _ _ c.given c.read c.left _ _ _ (loses_all steps (looked reading c) steady.1)
    (loses reading c.read c.given c.left c.limit steady.0 c.stop)
loses_all (Hold stop ∷ steps) c steady = loses_all steps (held stop c) steady

at_limit : (a b c l k m : ℕ) → a + b + l ≤ c + k → k ≤ m → a + b ≤ c + m
at_limit a b c l k m all within = omega arith

pub loses_at_most : LosesAtMost
loses_at_most steps c sound steady = at_limit _ _ _ _ _ _ (loses_all steps c steady) sound.within

loses_in_one : (steps : List Step) (m : ℕ) (c : ClockSeen) → IsSteady steps (held (Some m) c) → AllFail steps
    → (run steps (held (Some m) c)).read + c.given + (run steps (held (Some m) c)).left ≤ c.read + (run steps (held (Some m) c)).given + c.left
loses_in_one [] m c steady fail = omega arith
loses_in_one (Look reading ∷ steps) m c steady fail =
    loses_out_then _ _ _ c.given c.read c.left _ _ _ (loses_in_one steps m (looked reading (held (Some m) c)) steady.1 fail.1)
    (loses_out reading c.read c.given c.left c.limit steady.0 m)
loses_in_one (Hold None ∷ steps) m c steady fail = absurd (cc (fail.0))
loses_in_one (Hold (Some n) ∷ steps) m c steady fail = loses_in_one steps n c steady fail.1

pub each_outage_loses_at_most : EachOutageLosesAtMost
each_outage_loses_at_most stop steps c sound steady fail = at_limit _ _ _ _ _ _ (loses_in_one steps stop c steady fail) sound.within

pub is_real_time : IsRealTime
is_real_time [] c steady succeed = omega arith
is_real_time (Look reading ∷ steps) c steady succeed =
    same_then _ _ c.given c.read _ _ (is_real_time steps (looked reading (held None c)) steady.1 succeed.1)
    (loses_none reading c.read c.given c.left c.limit steady.0)
is_real_time (Hold None ∷ steps) c steady succeed = is_real_time steps c steady succeed.1
is_real_time (Hold (Some m) ∷ steps) c steady succeed = absurd (cc (succeed.0))
