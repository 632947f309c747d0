-- What a datagram makes of the tokens that its source and others may use.
use Rattle.std.proofs.Common.{◌≡◌, ◌≢◌, ℕ, zero, suc, ◌+◌, ◌-◌, ◌*◌, ◌<◌, ◌≤◌, Bool, true, false, cond, ◌⊎◌, inl, inr, List, [], ◌∷◌, length, take, Option, Some, None, nat_eq, refl, sym, ap, subst, ◌∙◌, arith}
use Rattle.std.specs.Prelude.{◌||◌, ◌&&◌, nat_lt, nat_le, is_some, slice_get, min}
use Rattle.std.specs.Cmp.{nat_eq_equiv}
use Rattle.std.specs.Map.{lookup, lookup_entry, remove_entry}
use Rattle.std.specs.Option.{option_map_or}
use Rattle.std.proofs.Math.Nat.{mul-le-mul_left, mul-add, mul-zero}
use Rattle.std.proofs.Math.Seq.{take-length}
use Rattle.std.proofs.lemmas.Bool.{eqb-true, leb-true, ltb-true, ltb-false}
use Rattle.lru.specs.LruCache.{LruCache, lru_cache, last_entry, put_entries}
use Rattle.lru.proofs.CallerLemmas.{lookup-put_entries}
use Rattle.admission.specs.declared.bucket.Bucket.{Bucket}
use Rattle.admission.specs.declared.bucket.Rate.{Rate}
use Rattle.admission.specs.declared.table.Rates.{Rates}
use Rattle.admission.specs.Buckets.{full, filled, usable, is_full, is_enough, left}
use Rattle.admission.specs.Table.{empty, bucket, allowance, is_idle, has_place, has_room, is_let, with_bucket, after}
use Rattle.admission.proofs.Lookups.{apart, lookup-remove_other, no_entry, some_entry, WasLast, lookup-front}

-- ---- one bucket

at_most : (a b : ℕ) → min a b ≤ b
at_most a b = omega arith

pub usable_fits : (rate : Rate) (o : Option Bucket) (now : ℕ) → usable rate o now ≤ full rate
unfolding filled
usable_fits rate None now = omega arith
usable_fits rate (Some b) now = at_most (b.tokens + rate.per_second * (now - b.moment)) (full rate)

-- time through times the rate
pub rate_split : (p a b c : ℕ) → a ≤ b → b ≤ c → p * (c - a) ≡ p * (b - a) + p * (c - b)
rate_split p a b c h k = (let e : c - a ≡ (b - a) + (c - b) = omega arith in ap (λ (x : ℕ). p * x) e ∙ mul-add p (b - a) (c - b))

rate_grows : (p m a b : ℕ) → a ≤ b → p * (b - m) ≤ p * (a - m) + p * (b - a)
rate_grows p m a b h = (let le : b - m ≤ (a - m) + (b - a) = omega arith in omega (arith, mul-le-mul_left p le, mul-add p (a - m) (b - a)))

grows_plain : (k f x y z : ℕ) → x ≤ y + z → min (k + x) f ≤ min (k + y) f + z
grows_plain k f x y z h = omega arith

-- no more comes in than the rate and the time give
pub usable_grows : (rate : Rate) (o : Option Bucket) (a b : ℕ) → a ≤ b → usable rate o b ≤ usable rate o a + rate.per_second * (b - a)
unfolding filled
usable_grows rate None a b h = omega arith
usable_grows rate (Some k) a b h = grows_plain k.tokens (full rate) (rate.per_second * (b - k.moment)) (rate.per_second * (a - k.moment)) (rate.per_second * (b - a)) (rate_grows rate.per_second k.moment a b h)

-- the bucket is of no later moment
abbrev pub IsPast : Option Bucket → ℕ → Type 0
IsPast None now = Unit {0}
IsPast (Some b) now = b.moment ≤ now

reaches_plain : (k f x y z : ℕ) → x ≡ y + z → min (min (k + y) f + z) f ≤ min (k + x) f
reaches_plain k f x y z e = omega arith

reaches_full : (f z : ℕ) → min (f + z) f ≤ f
reaches_full f z = omega arith

-- as much comes in as the rate and the time give, as far as there is room
pub usable_reaches : (rate : Rate) (o : Option Bucket) (a b : ℕ) → a ≤ b → IsPast o a → min (usable rate o a + rate.per_second * (b - a)) (full rate) ≤ usable rate o b
unfolding filled
usable_reaches rate None a b h past = reaches_full (full rate) (rate.per_second * (b - a))
usable_reaches rate (Some k) a b h past = reaches_plain k.tokens (full rate) (rate.per_second * (b - k.moment)) (rate.per_second * (a - k.moment)) (rate.per_second * (b - a)) (rate_split rate.per_second k.moment a b past h)

-- what a datagram takes
abbrev pub taken : Bool → ℕ
taken b = cond b 1000 0

left_fits : (tokens now : ℕ) → (left tokens now).tokens ≤ tokens
left_fits tokens now = (elim (is_enough tokens) as (λ y. cond y (tokens - 1000) tokens ≤ tokens) [ true ↦ omega arith | false ↦ omega arith ])

pub left_taken : (tokens now : ℕ) → taken (is_enough tokens) + (left tokens now).tokens ≡ tokens
left_taken tokens now = (elim (is_enough tokens) as (λ y. is_enough tokens ≡ y → cond y 1000 0 + cond y (tokens - 1000) tokens ≡ tokens) [
  | true ↦ λ e. (let h : 1000 ≤ tokens = leb-true 1000 tokens e in omega arith)
  | false ↦ λ e. omega arith
]) refl

at_once_plain : (k f p t : ℕ) → k ≤ f → min (k + p * (t - t)) f ≡ k
at_once_plain k f p t h = (let z : t - t ≡ 0 = omega arith in let e : p * (t - t) ≡ 0 = ap (λ (x : ℕ). p * x) z ∙ mul-zero p in omega (arith, e))

-- the bucket holds so much at its moment
at_once : (rate : Rate) (tokens now : ℕ) → tokens ≤ full rate → filled rate (left tokens now) now ≡ (left tokens now).tokens
unfolding filled
at_once rate tokens now h = at_once_plain (left tokens now).tokens (full rate) rate.per_second now (omega (arith, left_fits tokens now))

-- ---- tables

-- no more buckets than places, and there is one
pub record IsBounded (r : Rates) : Type 0 where
  pub few : length r.buckets.entries ≤ r.buckets.cap
  pub some : 0 < r.buckets.cap

pub empty_bounded : (rate : Rate) (size : ℕ) → 0 < size → IsBounded (empty rate size)
empty_bounded rate size h = record { few = omega arith; some = h }

remove_shortens : (test : ℕ → Bool) (es : List (ℕ × Bucket)) (e : ℕ × Bucket) → lookup_entry test es ≡ Some e → suc (length (remove_entry test es)) ≡ length es
remove_shortens test [] e h = absurd cc
remove_shortens test (f ∷ es) e h = (elim (test f.0) as (λ y. test f.0 ≡ y → suc (length (cond y es (f ∷ remove_entry test es))) ≡ length (f ∷ es)) [
  | true ↦ λ t. refl
  | false ↦ λ t. ap suc (remove_shortens test es e (rw t at h))
]) refl

take_few : {X : Type 0} (n : ℕ) (xs : List X) → length (take n xs) ≤ n
take_few zero xs = omega arith
take_few (suc n) [] = omega arith
take_few (suc n) (x ∷ xs) = omega (arith, take_few n xs)

put_few : (es : List (ℕ × Bucket)) (size source : ℕ) (b : Bucket) (o : Option (ℕ × Bucket)) → lookup_entry (nat_eq source) es ≡ o → length es ≤ size → 0 < size
    → length (option_map_or (λ e. (e.0, b) ∷ remove_entry (nat_eq source) es) o ((source, b) ∷ take (size - 1) es)) ≤ size
put_few es size source b None h few some = omega (arith, take_few (size - 1) es)
put_few es size source b (Some e) h few some = omega (arith, remove_shortens (nat_eq source) es e h)

pub after_bounded : (r : Rates) (source now : ℕ) → IsBounded r → IsBounded (after r source now)
unfolding after
after_bounded r source now h = (elim (has_room r source now) as (λ y. IsBounded (cond y (with_bucket r source (left (allowance r source now) now)) r)) [
  | true ↦ record { few = put_few r.buckets.entries r.buckets.cap source (left (allowance r source now) now) (lookup_entry (nat_eq source) r.buckets.entries) refl h.few h.some; some = h.some }
  | false ↦ h
])

pub after_rate : (r : Rates) (source now : ℕ) → (after r source now).rate ≡ r.rate
unfolding after
after_rate r source now = (elim (has_room r source now) as (λ y. (cond y (with_bucket r source (left (allowance r source now) now)) r).rate ≡ r.rate) [ true ↦ refl | false ↦ refl ])

-- ---- the source itself

own_bucket : (r : Rates) (source now : ℕ) → has_room r source now ≡ true → bucket (after r source now) source ≡ Some (left (allowance r source now) now)
unfolding after
own_bucket r source now room = rw room (lookup-put_entries nat_eq r.buckets source (left (allowance r source now) now) nat_eq_equiv)

own_allowance : (r : Rates) (source now : ℕ) → has_room r source now ≡ true → allowance (after r source now) source now ≡ (left (allowance r source now) now).tokens
own_allowance r source now room =
    let e : usable (after r source now).rate (bucket (after r source now) source) now ≡ usable r.rate (Some (left (allowance r source now) now)) now =
    ap (λ (x : Rate). usable x (bucket (after r source now) source) now) (after_rate r source now) ∙ ap (λ (o : Option Bucket). usable r.rate o now) (own_bucket r source now room) in
    e ∙ at_once r.rate (allowance r source now) now (usable_fits r.rate (bucket r source) now)

not_heard : (r : Rates) (source now : ℕ) → has_room r source now ≡ false → after r source now ≡ r
unfolding after
not_heard r source now e = rw e refl

-- it takes its token where it is let through, and nothing else
pub own_taken : (r : Rates) (source now : ℕ) → taken (is_let r source now) + allowance (after r source now) source now ≡ allowance r source now
unfolding is_let
own_taken r source now = (elim (has_room r source now) as (λ y. has_room r source now ≡ y → taken (y && is_enough (allowance r source now)) + allowance (after r source now) source now ≡ allowance r source now) [
  | true ↦ λ e. ap (λ (x : ℕ). taken (is_enough (allowance r source now)) + x) (own_allowance r source now e) ∙ left_taken (allowance r source now) now
  | false ↦ λ e. ap (λ (x : Rates). 0 + allowance x source now) (not_heard r source now e) ∙ none (allowance r source now)
]) refl where
  none : (n : ℕ) → 0 + n ≡ n
  none n = omega arith

pub own_past : (r : Rates) (source now : ℕ) → has_room r source now ≡ true → IsPast (bucket (after r source now) source) now
own_past r source now room = rw (own_bucket r source now room) (le now) where
  le : (n : ℕ) → n ≤ n
  le n = omega arith

-- ---- another source

-- its bucket stays, or was full and is gone
abbrev pub Stays : Rates → ℕ → Rates → ℕ → Type 0
Stays r source new now = (bucket new source ≡ bucket r source) ⊎ ((bucket new source ≡ None) × (allowance r source now ≡ full r.rate))

head_other : (source other : ℕ) (b : Bucket) (es : List (ℕ × Bucket)) → source ≢ other → lookup (nat_eq source) ((other, b) ∷ es) ≡ lookup (nat_eq source) es
head_other source other b es ne = rw (apart source other ne) refl

is_last : (es : List (ℕ × Bucket)) (n : ℕ) → length es ≡ suc n → last_entry es ≡ slice_get es n
is_last es n e = (let k : length es - 1 ≡ n = omega (arith, e) in ap (λ (i : ℕ). slice_get es i) k)

was_full : (r : Rates) (source now n : ℕ) → length r.buckets.entries ≡ suc n → is_idle r.rate (last_entry r.buckets.entries) now ≡ true
    → WasLast (nat_eq source) r.buckets.entries (take n r.buckets.entries) n → allowance r source now ≡ full r.rate
was_full r source now n len idle w =
    let last : last_entry r.buckets.entries ≡ Some w.entry = is_last r.buckets.entries n len ∙ w.last in
    let f : is_full r.rate w.entry.1 now ≡ true = rw last at idle in
    ap (λ (o : Option Bucket). usable r.rate o now) w.found ∙ eqb-true (filled r.rate w.entry.1 now) (full r.rate) f

new_place : (r : Rates) (heard source now : ℕ) (b : Bucket) → IsBounded r → source ≢ heard → has_place r now ≡ true
    → (lookup (nat_eq source) ((heard, b) ∷ take (r.buckets.cap - 1) r.buckets.entries) ≡ bucket r source)
    ⊎ ((lookup (nat_eq source) ((heard, b) ∷ take (r.buckets.cap - 1) r.buckets.entries) ≡ None) × (allowance r source now ≡ full r.rate))
new_place r heard source now b bounded ne place =
    (elim (nat_lt (length r.buckets.entries) r.buckets.cap) as (λ y. nat_lt (length r.buckets.entries) r.buckets.cap ≡ y → Claim (take (r.buckets.cap - 1) r.buckets.entries)) [
      | true ↦ λ e. (let lt : length r.buckets.entries < r.buckets.cap = ltb-true (length r.buckets.entries) r.buckets.cap e in
          inl (head_other source heard b (take (r.buckets.cap - 1) r.buckets.entries) ne ∙ ap (λ (es : List (ℕ × Bucket)). lookup (nat_eq source) es) (take_all r.buckets.entries (r.buckets.cap - 1) (omega arith))))
      | false ↦ λ e. (let len : length r.buckets.entries ≡ suc (r.buckets.cap - 1) = omega (arith, bounded.few, bounded.some, ltb-false (length r.buckets.entries) r.buckets.cap e) in
          let idle : is_idle r.rate (last_entry r.buckets.entries) now ≡ true = rw e at place in
          elim (lookup-front (nat_eq source) r.buckets.entries (r.buckets.cap - 1) len) [
            | inl same ↦ inl (head_other source heard b (take (r.buckets.cap - 1) r.buckets.entries) ne ∙ same)
            | inr w ↦ inr (head_other source heard b (take (r.buckets.cap - 1) r.buckets.entries) ne ∙ w.gone, was_full r source now (r.buckets.cap - 1) len idle w)
          ])
    ]) refl where
      Claim : List (ℕ × Bucket) → Type 0
      Claim es = (lookup (nat_eq source) ((heard, b) ∷ es) ≡ bucket r source) ⊎ ((lookup (nat_eq source) ((heard, b) ∷ es) ≡ None) × (allowance r source now ≡ full r.rate))

      take_all : (es : List (ℕ × Bucket)) (n : ℕ) → length es ≤ n → take n es ≡ es
      take_all [] zero h = refl
      take_all [] (suc n) h = refl
      take_all (x ∷ es) zero h = absurd (omega (arith, h))
      take_all (x ∷ es) (suc n) h = ap (λ (q : List (ℕ × Bucket)). x ∷ q) (take_all es n (omega (arith, h)))

put_stays : (r : Rates) (heard source now : ℕ) (b : Bucket) → IsBounded r → source ≢ heard → has_room r heard now ≡ true → Stays r source (with_bucket r heard b) now
put_stays r heard source now b bounded ne room =
    (elim (bucket r heard) as (λ o. bucket r heard ≡ o → Stays r source (with_bucket r heard b) now) [
      | None ↦ λ e. (let place : has_place r now ≡ true = rw e at room in
          let none : lookup_entry (nat_eq heard) r.buckets.entries ≡ None = no_entry (nat_eq heard) r.buckets.entries e in
          rw none (new_place r heard source now b bounded ne place))
      | Some v ↦ λ e. (let k = some_entry (nat_eq heard) r.buckets.entries v e in
          let key : source ≢ k.0.0 = λ q. ne (q ∙ sym (eqb-true heard k.0.0 k.2)) in
          rw k.1 (inl (head_other source k.0.0 b (remove_entry (nat_eq heard) r.buckets.entries) key ∙ lookup-remove_other heard source ne r.buckets.entries)))
    ]) refl

pub other_stays : (r : Rates) (heard source now : ℕ) → IsBounded r → source ≢ heard → Stays r source (after r heard now) now
unfolding after
other_stays r heard source now bounded ne = (elim (has_room r heard now) as (λ y. has_room r heard now ≡ y → Stays r source (cond y (with_bucket r heard (left (allowance r heard now) now)) r) now) [
  | true ↦ λ e. put_stays r heard source now (left (allowance r heard now) now) bounded ne e
  | false ↦ λ e. inl refl
]) refl

-- no tokens are taken of it
pub other_same : (r new : Rates) (source now : ℕ) → new.rate ≡ r.rate → Stays r source new now → allowance new source now ≡ allowance r source now
other_same r new source now e (inl same) = ap (λ (x : Rate). usable x (bucket new source) now) e ∙ ap (λ (o : Option Bucket). usable r.rate o now) same
other_same r new source now e (inr gone) = ap (λ (x : Rate). usable x (bucket new source) now) e ∙ ap (λ (o : Option Bucket). usable r.rate o now) gone.0 ∙ sym gone.1

pub other_past : (r new : Rates) (source now : ℕ) → Stays r source new now → IsPast (bucket r source) now → IsPast (bucket new source) now
other_past r new source now (inl same) past = rw same past
other_past r new source now (inr gone) past = rw gone.0 tt
