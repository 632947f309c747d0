-- A source below its rate has all its datagrams let through.
use Rattle.std.proofs.Common.{◌≡◌, ◌≢◌, ℕ, zero, suc, ◌+◌, ◌-◌, ◌*◌, ◌<◌, ◌≤◌, Bool, true, false, cond, List, [], ◌∷◌, length, map, nat_eq, refl, sym, ap, subst, ◌∙◌, arith}
use Rattle.std.specs.Prelude.{filter, slice_index, min, nat_le, ◌&&◌, Option, Some, None}
use Rattle.std.proofs.Math.Nat.{mul-zero, mul-le-mul_left}
use Rattle.std.proofs.lemmas.Bool.{eqb-true, eqb-false, eq-eqb, le-leb}
use Rattle.admission.specs.declared.bucket.Bucket.{Bucket}
use Rattle.admission.specs.declared.bucket.Rate.{Rate}
use Rattle.admission.specs.declared.table.Rates.{Rates}
use Rattle.admission.specs.Buckets.{full, is_enough}
use Rattle.admission.specs.Table.{empty, bucket, allowance, has_room, is_let, after}
use Rattle.admission.specs.Runs.{Arrival, is_of, behind, let_through, AreBetween, HasAlwaysRoom, moments, AreBelow, NoneBelowIsRefused}
use Rattle.admission.proofs.Allowances.{usable_reaches, rate_split, taken, own_taken, own_past, other_stays, other_same, other_past, IsPast, IsBounded, empty_bounded, after_bounded, after_rate}

-- so many tokens at this moment, and what comes in, are enough for all that come at these times
abbrev Affords : Rate → ℕ → ℕ → List ℕ → Type 0
Affords rate tokens now times = (n : ℕ) → n < length times → 1000 * (n + 1) ≤ tokens + rate.per_second * (slice_index times n - now)

-- none of the times is before this moment
abbrev AreFrom : ℕ → List ℕ → Type 0
AreFrom now times = (n : ℕ) → n < length times → now ≤ slice_index times n

-- nor is one more
from_first : (from time : ℕ) (times : List ℕ) → from ≤ time → AreFrom from times → AreFrom from (time ∷ times)
from_first from time times h all zero below = h
from_first from time times h all (suc n) below = all n (omega (arith, below))

come_after : (source from to : ℕ) (arrivals : List Arrival) → AreBetween from to arrivals → AreFrom from (moments source arrivals)
come_after source from to [] h = λ n below. absurd (omega (arith, below))
come_after source from to (a ∷ rest) h =
    let later : AreFrom from (moments source rest) = λ n below. omega (arith, h.0, come_after source a.moment to rest h.1 n below) in
    (elim (is_of source a) as (λ y. AreFrom from (map (λ (x : Arrival). x.moment) (cond y (a ∷ filter (is_of source) rest) (filter (is_of source) rest)))) [
      | true ↦ from_first from a.moment (moments source rest) h.0 later
      | false ↦ later
    ])

-- later, with what has come in
shift : (rate : Rate) (times : List ℕ) (tokens later from now : ℕ) → from ≤ now → AreFrom now times
    → min (tokens + rate.per_second * (now - from)) (full rate) ≤ later → Affords rate tokens from times → AreBelow rate times → Affords rate later now times
shift rate times tokens later from now order after enough affords below n inside =
    let some : 0 < length times = omega (arith, inside) in
    let b = below 0 n (omega (arith, inside)) in
    let zeroed : 0 + n ≡ n = omega arith in
    let b' : 1000 * (n + 1) ≤ full rate + rate.per_second * (slice_index times n - slice_index times 0) = subst (λ (k : ℕ). 1000 * (n + 1) ≤ full rate + rate.per_second * (slice_index times k - slice_index times 0)) zeroed b in
    let le : slice_index times n - slice_index times 0 ≤ slice_index times n - now = omega (arith, after 0 some) in
    close tokens later (full rate) (rate.per_second * (now - from)) (rate.per_second * (slice_index times n - now)) (rate.per_second * (slice_index times n - from))
    (rate.per_second * (slice_index times n - slice_index times 0)) n enough (affords n inside) b' (mul-le-mul_left rate.per_second le)
    (rate_split rate.per_second from now (slice_index times n) order (after n inside)) where
      close : (tokens later f x y whole z n : ℕ) → min (tokens + x) f ≤ later → 1000 * (n + 1) ≤ tokens + whole → 1000 * (n + 1) ≤ f + z → z ≤ y → whole ≡ x + y → 1000 * (n + 1) ≤ later + y
      close tokens later f x y whole z n h k l m e = omega (arith, h, k, l, m, e)

-- without the first
fewer : (rate : Rate) (time : ℕ) (times : List ℕ) → AreBelow rate (time ∷ times) → AreBelow rate times
fewer rate time times below i n inside =
    let e : suc i + n ≡ suc (i + n) = omega arith in
    subst (λ (k : ℕ). 1000 * (n + 1) ≤ full rate + rate.per_second * (slice_index (time ∷ times) k - slice_index times i)) e (below (suc i) n (omega (arith, inside)))

first_affords : (rate : Rate) (tokens now : ℕ) (times : List ℕ) → Affords rate tokens now (now ∷ times) → 1000 ≤ tokens
first_affords rate tokens now times affords =
    let z : now - now ≡ 0 = omega arith in
    let e : rate.per_second * (now - now) ≡ 0 = ap (λ (x : ℕ). rate.per_second * x) z ∙ mul-zero rate.per_second in
    let h : 1000 * (0 + 1) ≤ tokens + rate.per_second * (now - now) = affords 0 (omega arith) in
    omega (arith, h, e)

rest_affords : (rate : Rate) (tokens left now : ℕ) (times : List ℕ) → 1000 + left ≡ tokens → Affords rate tokens now (now ∷ times) → Affords rate left now times
rest_affords rate tokens left now times e affords n inside =
    let h : 1000 * (suc n + 1) ≤ tokens + rate.per_second * (slice_index times n - now) = affords (suc n) (omega (arith, inside)) in
    omega (arith, h, e)

enough_let : (r : Rates) (source now : ℕ) → has_room r source now ≡ true → 1000 ≤ allowance r source now → is_let r source now ≡ true
unfolding is_let
enough_let r source now room h = rw room (le-leb 1000 (allowance r source now) h)

abbrev Kept : ℕ → Rates → List Arrival → Type 0
Kept source r arrivals = filter (is_of source) (let_through r arrivals) ≡ filter (is_of source) arrivals

-- one of the source that is let through
kept_own : (source : ℕ) (r : Rates) (a : Arrival) (rest : List Arrival) → is_of source a ≡ true → is_let r a.source a.moment ≡ true → Kept source (behind r a) rest → Kept source r (a ∷ rest)
kept_own source r a rest own passes on = rw (passes, own) (ap (λ (xs : List Arrival). a ∷ xs) on)

-- one of another
kept_other : (source : ℕ) (r : Rates) (a : Arrival) (rest : List Arrival) → is_of source a ≡ false → Kept source (behind r a) rest → Kept source r (a ∷ rest)
kept_other source r a rest other on = (elim (is_let r a.source a.moment) as (λ y. filter (is_of source) (cond y (a ∷ let_through (behind r a) rest) (let_through (behind r a) rest)) ≡ filter (is_of source) (a ∷ rest)) [
  | true ↦ rw other on
  | false ↦ rw other on
])

moments_own : (source : ℕ) (a : Arrival) (rest : List Arrival) → is_of source a ≡ true → moments source (a ∷ rest) ≡ a.moment ∷ moments source rest
moments_own source a rest own = rw own refl

moments_other : (source : ℕ) (a : Arrival) (rest : List Arrival) → is_of source a ≡ false → moments source (a ∷ rest) ≡ moments source rest
moments_other source a rest other = rw other refl

-- what holds of the source before it is heard again
record Stands (source from : ℕ) (r : Rates) (arrivals : List Arrival) : Type 0 where
  bounded : IsBounded r
  past : IsPast (bucket r source) from
  room : HasAlwaysRoom source r arrivals
  affords : Affords r.rate (allowance r source from) from (moments source arrivals)
  below : AreBelow r.rate (moments source arrivals)

-- at the moment of the next datagram
at_next : (source from to : ℕ) (r : Rates) (a : Arrival) (rest : List Arrival) → AreBetween from to (a ∷ rest) → Stands source from r (a ∷ rest)
    → AreFrom a.moment (moments source (a ∷ rest)) → Affords r.rate (allowance r source a.moment) a.moment (moments source (a ∷ rest))
at_next source from to r a rest between s after =
    shift r.rate (moments source (a ∷ rest)) (allowance r source from) (allowance r source a.moment) from a.moment between.0 after
    (usable_reaches r.rate (bucket r source) from a.moment between.0 s.past) s.affords s.below

next_from : (source from to : ℕ) (a : Arrival) (rest : List Arrival) → AreBetween from to (a ∷ rest) → AreFrom a.moment (moments source (a ∷ rest))
next_from source from to a rest between = come_after source a.moment to (a ∷ rest) (self a.moment, between.1) where
  self : (n : ℕ) → n ≤ n
  self n = omega arith

rate_of : (rate own : Rate) (tokens now : ℕ) (times : List ℕ) → own ≡ rate → Affords rate tokens now times → Affords own tokens now times
rate_of rate own tokens now times e h = rw e h

below_of : (rate own : Rate) (times : List ℕ) → own ≡ rate → AreBelow rate times → AreBelow own times
below_of rate own times e h = rw e h

stands_other : (source from to : ℕ) (r : Rates) (a : Arrival) (rest : List Arrival) → is_of source a ≡ false → AreBetween from to (a ∷ rest) → Stands source from r (a ∷ rest) → Stands source a.moment (behind r a) rest
stands_other source from to r a rest other between s =
    let ne : source ≢ a.source = eqb-false source a.source other in
    let stays = other_stays r a.source source a.moment s.bounded ne in
    let rate = after_rate r a.source a.moment in
    let same = other_same r (behind r a) source a.moment rate stays in
    let next = subst (λ (ts : List ℕ). Affords r.rate (allowance r source a.moment) a.moment ts) (moments_other source a rest other) (at_next source from to r a rest between s (next_from source from to a rest between)) in
    record {
      bounded = after_bounded r a.source a.moment s.bounded;
      past = other_past r (behind r a) source a.moment stays (later (bucket r source) from a.moment between.0 s.past);
      room = s.room.1;
      affords = rate_of r.rate (behind r a).rate (allowance (behind r a) source a.moment) a.moment (moments source rest) rate (subst (λ (k : ℕ). Affords r.rate k a.moment (moments source rest)) (sym same) next);
      below = below_of r.rate (behind r a).rate (moments source rest) rate (subst (λ (ts : List ℕ). AreBelow r.rate ts) (moments_other source a rest other) s.below);
    } where
      later : (o : Option Bucket) (a b : ℕ) → a ≤ b → IsPast o a → IsPast o b
      later None a b h p = tt
      later (Some k) a b h p = omega (arith, h, p)

own_let : (source from to : ℕ) (r : Rates) (a : Arrival) (rest : List Arrival) → source ≡ a.source → is_of source a ≡ true → AreBetween from to (a ∷ rest) → Stands source from r (a ∷ rest) → is_let r source a.moment ≡ true
own_let source from to r a rest e own between s =
    let next = subst (λ (ts : List ℕ). Affords r.rate (allowance r source a.moment) a.moment ts) (moments_own source a rest own) (at_next source from to r a rest between s (next_from source from to a rest between)) in
    let room : has_room r source a.moment ≡ true = rw e (s.room.0 e) in
    enough_let r source a.moment room (first_affords r.rate (allowance r source a.moment) a.moment (moments source rest) next)

stands_own : (source from to : ℕ) (r : Rates) (a : Arrival) (rest : List Arrival) → source ≡ a.source → is_of source a ≡ true → AreBetween from to (a ∷ rest) → Stands source from r (a ∷ rest) → Stands source a.moment (behind r a) rest
stands_own source from to r a rest e own between s =
    let next = subst (λ (ts : List ℕ). Affords r.rate (allowance r source a.moment) a.moment ts) (moments_own source a rest own) (at_next source from to r a rest between s (next_from source from to a rest between)) in
    let room : has_room r source a.moment ≡ true = rw e (s.room.0 e) in
    let passes = own_let source from to r a rest e own between s in
    let rate = after_rate r a.source a.moment in
    let took : 1000 + allowance (after r source a.moment) source a.moment ≡ allowance r source a.moment = rw passes at (own_taken r source a.moment) in
    let new : after r source a.moment ≡ behind r a = ap (λ (k : ℕ). after r k a.moment) e in
    let took' : 1000 + allowance (behind r a) source a.moment ≡ allowance r source a.moment = rw new at took in
    record {
      bounded = after_bounded r a.source a.moment s.bounded;
      past = subst (λ (x : Rates). IsPast (bucket x source) a.moment) new (own_past r source a.moment room);
      room = s.room.1;
      affords = rate_of r.rate (behind r a).rate (allowance (behind r a) source a.moment) a.moment (moments source rest) rate (rest_affords r.rate (allowance r source a.moment) (allowance (behind r a) source a.moment) a.moment (moments source rest) took' next);
      below = below_of r.rate (behind r a).rate (moments source rest) rate (fewer r.rate a.moment (moments source rest) (subst (λ (ts : List ℕ). AreBelow r.rate ts) (moments_own source a rest own) s.below));
    }

alone : (source from to : ℕ) (r : Rates) (arrivals : List Arrival) → AreBetween from to arrivals → Stands source from r arrivals → Kept source r arrivals
alone source from to r [] between s = refl
alone source from to r (a ∷ rest) between s = (elim (is_of source a) as (λ y. is_of source a ≡ y → Kept source r (a ∷ rest)) [
  | true ↦ λ own. (let e : source ≡ a.source = eqb-true source a.source own in
      let passes : is_let r a.source a.moment ≡ true = subst (λ (k : ℕ). is_let r k a.moment ≡ true) e (own_let source from to r a rest e own between s) in
      kept_own source r a rest own passes (alone source a.moment to (behind r a) rest between.1 (stands_own source from to r a rest e own between s)))
  | false ↦ λ other. kept_other source r a rest other (alone source a.moment to (behind r a) rest between.1 (stands_other source from to r a rest other between s))
]) refl

pub none_below_is_refused : NoneBelowIsRefused
none_below_is_refused rate size arrivals source from to some between room below =
    alone source from to (empty rate size) arrivals between (record {
      bounded = empty_bounded rate size some;
      past = tt;
      room = room;
      affords = start;
      below = below;
    }) where
      start : Affords rate (full rate) from (moments source arrivals)
      start n inside =
          let b = below 0 n (omega (arith, inside)) in
          let zeroed : 0 + n ≡ n = omega arith in
          let b' : 1000 * (n + 1) ≤ full rate + rate.per_second * (slice_index (moments source arrivals) n - slice_index (moments source arrivals) 0) = subst (λ (k : ℕ). 1000 * (n + 1) ≤ full rate + rate.per_second * (slice_index (moments source arrivals) k - slice_index (moments source arrivals) 0)) zeroed b in
          let le : slice_index (moments source arrivals) n - slice_index (moments source arrivals) 0 ≤ slice_index (moments source arrivals) n - from = omega (arith, come_after source from to arrivals between 0 (omega (arith, inside))) in
          omega (arith, b', mul-le-mul_left rate.per_second le)
