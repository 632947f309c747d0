-- No source gets more than the burst and the rate times the time.
use Rattle.std.proofs.Common.{◌≡◌, ◌≢◌, ℕ, zero, suc, ◌+◌, ◌-◌, ◌*◌, ◌<◌, ◌≤◌, Bool, true, false, cond, List, [], ◌∷◌, nat_eq, refl, sym, ap, subst, ◌∙◌, arith}
use Rattle.std.specs.Prelude.{count_by}
use Rattle.std.proofs.lemmas.Bool.{eqb-true, eqb-false}
use Rattle.std.proofs.lemmas.List.Sums.{sum_by-cons}
use Rattle.admission.specs.declared.bucket.Rate.{Rate}
use Rattle.admission.specs.declared.table.Rates.{Rates}
use Rattle.admission.specs.Buckets.{full}
use Rattle.admission.specs.Table.{empty, bucket, allowance, has_room, is_let, after}
use Rattle.admission.specs.Runs.{Arrival, is_of, behind, behind_all, let_through, AreBetween, AtMostBurstAndRate}
use Rattle.admission.proofs.Allowances.{usable_fits, usable_grows, rate_split, taken, own_taken, other_stays, other_same, IsBounded, empty_bounded, after_bounded, after_rate}

-- time goes on
pub ends : (from to : ℕ) (arrivals : List Arrival) → AreBetween from to arrivals → from ≤ to
ends from to [] h = h
ends from to (a ∷ rest) h = omega (arith, h.0, ends a.moment to rest h.1)

all_bounded : (r : Rates) (before : List Arrival) → IsBounded r → IsBounded (behind_all r before)
all_bounded r [] h = h
all_bounded r (a ∷ rest) h = all_bounded (behind r a) rest (after_bounded r a.source a.moment h)

all_rate : (r : Rates) (before : List Arrival) → (behind_all r before).rate ≡ r.rate
all_rate r [] = refl
all_rate r (a ∷ rest) = all_rate (behind r a) rest ∙ after_rate r a.source a.moment

-- what a datagram that may be of the source takes of it
abbrev counted : ℕ → Rates → Arrival → ℕ
counted source r a = cond (is_let r a.source a.moment) (cond (is_of source a) 1 0) 0

count_first : (source : ℕ) (r : Rates) (a : Arrival) (rest : List Arrival)
    → count_by (is_of source) (let_through r (a ∷ rest)) ≡ counted source r a + count_by (is_of source) (let_through (behind r a) rest)
count_first source r a rest = (elim (is_let r a.source a.moment) as (λ y. count_by (is_of source) (cond y (a ∷ let_through (behind r a) rest) (let_through (behind r a) rest)) ≡ cond y (cond (is_of source a) 1 0) 0 + count_by (is_of source) (let_through (behind r a) rest)) [
  | true ↦ sum_by-cons (λ (x : Arrival). cond (is_of source x) 1 0) a (let_through (behind r a) rest)
  | false ↦ omega arith
])

-- each datagram that is let through costs a token
costs : (source : ℕ) (r : Rates) (a : Arrival) → IsBounded r → 1000 * counted source r a + allowance (behind r a) source a.moment ≤ allowance r source a.moment
costs source r a bounded = (elim (nat_eq source a.source) as (λ y. nat_eq source a.source ≡ y → 1000 * cond (is_let r a.source a.moment) (cond y 1 0) 0 + allowance (behind r a) source a.moment ≤ allowance r source a.moment) [
  | true ↦ λ e. (let same : source ≡ a.source = eqb-true source a.source e in rw same (own (is_let r a.source a.moment) (allowance (behind r a) a.source a.moment) (allowance r a.source a.moment) (own_taken r a.source a.moment)))
  | false ↦ λ e. other (is_let r a.source a.moment) (allowance (behind r a) source a.moment) (allowance r source a.moment)
      (other_same r (behind r a) source a.moment (after_rate r a.source a.moment) (other_stays r a.source source a.moment bounded (eqb-false source a.source e)))
]) refl where
  own : (b : Bool) (x y : ℕ) → taken b + x ≡ y → 1000 * cond b 1 0 + x ≤ y
  own true x y h = omega (arith, h)
  own false x y h = omega (arith, h)

  other : (b : Bool) (x y : ℕ) → x ≡ y → 1000 * cond b 0 0 + x ≤ y
  other true x y h = omega (arith, h)
  other false x y h = omega (arith, h)

pub share : (r : Rates) (source from to : ℕ) (arrivals : List Arrival) → IsBounded r → AreBetween from to arrivals
    → 1000 * count_by (is_of source) (let_through r arrivals) ≤ allowance r source from + r.rate.per_second * (to - from)
share r source from to [] bounded h = omega arith
share r source from to (a ∷ rest) bounded h =
    let on = share (behind r a) source a.moment to rest (after_bounded r a.source a.moment bounded) h.1 in
    let same : r.rate.per_second ≡ (behind r a).rate.per_second = sym (ap (λ (x : Rate). x.per_second) (after_rate r a.source a.moment)) in
    rw (count_first source r a rest) (step (counted source r a) (count_by (is_of source) (let_through (behind r a) rest)) (allowance (behind r a) source a.moment) (allowance r source a.moment) (allowance r source from)
    (r.rate.per_second * (a.moment - from)) (r.rate.per_second * (to - a.moment)) (r.rate.per_second * (to - from)) (subst (λ (p : ℕ). 1000 * count_by (is_of source) (let_through (behind r a) rest) ≤ allowance (behind r a) source a.moment + p * (to - a.moment)) (sym same) on)
    (costs source r a bounded) (usable_grows r.rate (bucket r source) from a.moment h.0) (rate_split r.rate.per_second from a.moment to h.0 (ends a.moment to rest h.1))) where
      step : (c more new then was p q whole : ℕ) → 1000 * more ≤ new + q → 1000 * c + new ≤ then → then ≤ was + p → whole ≡ p + q → 1000 * (c + more) ≤ was + whole
      step c more new then was p q whole h k l m = omega (arith, h, k, l, m)

pub at_most_burst_and_rate : AtMostBurstAndRate
at_most_burst_and_rate rate size before arrivals source from to some between =
    let r : Rates = behind_all (empty rate size) before in
    let same : r.rate ≡ rate = all_rate (empty rate size) before in
    let on : 1000 * count_by (is_of source) (let_through r arrivals) ≤ allowance r source from + r.rate.per_second * (to - from) = share r source from to arrivals (all_bounded (empty rate size) before (empty_bounded rate size some)) between in
    let fits : allowance r source from ≤ full r.rate = usable_fits r.rate (bucket r source) from in
    over r.rate rate same (1000 * count_by (is_of source) (let_through r arrivals)) (allowance r source from) (to - from) on fits where
      over : (own rate : Rate) → own ≡ rate → (x y z : ℕ) → x ≤ y + own.per_second * z → y ≤ full own → x ≤ 1000 * rate.burst + rate.per_second * z
      over own rate e x y z h k = rw (← e) (omega (arith, h, k))
