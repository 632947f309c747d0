-- A sound book stays sound through each call, and the list that it stands for changes as it should.
use Rattle.std.proofs.Common.{◌≡◌, ◌≢◌, ◌∙◌, sym, ap, refl, subst, inl, inr, ◌⊎◌, ℕ, zero, suc, ◌+◌, ◌-◌, ◌^◌, ◌<◌, ◌≤◌, Bool, true, false, cond, Option, Some, None, IsSome, IfSome, List, [], ◌∷◌, ◌++◌, length, length-append, arith, option_to_list, min, if◌then◌else◌}
use Rattle.std.specs.Prelude.{◌==◌, filter_map, option_and_then, nat_le, bytes_eq}
use Rattle.std.specs.List.{list_any}
use Rattle.std.proofs.lemmas.Bool.{and_parts, and_from}
use Rattle.std.proofs.lemmas.Bool.Decides.{nat_tests}
use Rattle.std.proofs.lemmas.Slice.Eq.{bytes_eq-Decides}
use Rattle.slab.specs.Slab.{Slab, slab_len, Updates, with_value}
use Rattle.transactions.specs.declared.allowance.Allowance.{Allowance}
use Rattle.transactions.specs.declared.open.Open.{Open}
use Rattle.transactions.specs.declared.book.Book.{Book}
use Rattle.transactions.specs.Timers.{has_name, is_named, alarm, again, proceeding, longer, is_over, sent}
use Rattle.transactions.specs.Tournament.{is_first}
use Rattle.sip_text.specs.declared.address.Addr.{Addr}
use Rattle.transactions.specs.declared.unkept.Unkept.{Unkept}
use Rattle.transactions.specs.declared.unkept.Unkept.TheVariants.{Twice, Full, Many}
use Rattle.transactions.specs.declared.open.Phase.{Phase}
use Rattle.transactions.specs.declared.open.Phase.TheVariants.{Trying, Proceeding}
use Rattle.transactions.specs.Machine.{State, wherever, sooner, soonest, due, turn, turned, refusal, is_full, is_crowded, keep, with_sent}
use Rattle.transactions.specs.Stored.{at, slot_alarm, with_serial, opened, live_list, book_state, IsBook, IsTimely, IsSound}
use Rattle.transactions.proofs.Tournaments.{first_tells}
use Rattle.transactions.proofs.Slots.{updates_one, count_set}
use Rattle.transactions.proofs.Listing.{absurd_some, same_some, cases, eq_true, eq_false, found_serial, serial_there, ChangesOne, one_still, serial_changed, opened_same, opened_filter, opened_less, opened_many, opened_none, opened_some, opened_push}
use Rattle.std.proofs.lemmas.List.{append-nil}

pub name_is : (tag : List ℕ) (number : ℕ) (t : Open) → has_name tag number t ≡ true → (t.tag ≡ tag) × (t.number ≡ number)
name_is tag number t e =
    let both = and_parts (bytes_eq t.tag tag) (t.number == number) e in
    let numbers = both.1 in
    ((bytes_eq-Decides t.tag tag).0 both.0, grind (arith, nat_tests))

pub is_name : (tag : List ℕ) (number : ℕ) (t : Open) → t.tag ≡ tag → t.number ≡ number → has_name tag number t ≡ true
is_name tag number t p q = and_from (bytes_eq t.tag tag) (t.number == number) ((bytes_eq-Decides t.tag tag).1 p) (eq_true t.number number q)

-- ---- one changes or goes

-- it keeps its serial and its name
pub record IsKin (t u : Open) : Type 0 where
  pub serial : u.serial ≡ t.serial
  pub tag : u.tag ≡ t.tag
  pub number : u.number ≡ t.number
  pub timely : IsTimely u

pub record Step (old new : Book) (place : ℕ) (t : Open) (rule : Open → Option Open) : Type 0 where
  pub there : at old place ≡ Some t
  pub book : IsBook new
  pub kept : new.kept ≡ old.kept
  pub updates : Updates old.slab new.slab place (rule t)
  pub kin : (u : Open) → rule t ≡ Some u → IsKin t u
  pub counted : slab_len new.slab + 1 ≡ slab_len old.slab + length (option_to_list (rule t))

module _ (old new : Book) (place : ℕ) (t : Open) (rule : Open → Option Open) (h : IsSound old) (s : Step old new place t rule) where
  one : ChangesOne old.slab new.slab place t.serial (rule t)
  one = record {
    updates = s.updates;
    one = h.one_serial;
    was = λ u e. ap (λ (x : Open). x.serial) (same_some e s.there);
    comes = λ u e. (let k = s.kin u e in k.serial);
    away = λ k u ne e q. ne (h.one_serial k place u t e s.there q);
  }

  -- what it was before
  origin : (k : ℕ) (u : Open) → at new k ≡ Some u → (v : Open) × (at old k ≡ Some v) × (u.serial ≡ v.serial) × (u.tag ≡ v.tag) × (u.number ≡ v.number) × IsTimely u
  origin k u e = elim (cases k place) [
    | inl is ↦ (let kin = s.kin u (sym s.updates.changed ∙ ap (at new) (sym is) ∙ e) in (t, ap (at old) is ∙ s.there, kin.serial, kin.tag, kin.number, kin.timely))
    | inr ne ↦ (let it = sym (s.updates.others k ne) ∙ e in (u, it, refl, refl, refl, h.timely k u it))
  ]

  serials : (n : ℕ) → with_serial new.slab.slots n ≡ cond (t.serial == n) (rule t) (with_serial old.slab.slots n)
  serials = serial_changed old.slab new.slab place t.serial (rule t) one

  here : with_serial old.slab.slots t.serial ≡ Some t
  here = serial_there old.slab place t h.one_serial s.there

  lists : length (live_list new) + 1 ≡ length (live_list old) + length (option_to_list (rule t))
  lists = ap (λ (n : ℕ). length (opened (with_serial new.slab.slots) n) + 1) s.kept ∙ by (rule t) refl
    where
      below : t.serial < old.kept
      below = h.below place t s.there

      by : (o : Option Open) → rule t ≡ o → length (opened (with_serial new.slab.slots) old.kept) + 1 ≡ length (live_list old) + length (option_to_list o)
      by None e =
          let less = opened_less (with_serial old.slab.slots) (with_serial new.slab.slots) old.kept t.serial t below here
          (serials t.serial ∙ ap (λ b. cond b (rule t) (with_serial old.slab.slots t.serial)) (eq_true t.serial t.serial refl) ∙ e)
          (λ n ne. serials n ∙ ap (λ b. cond b (rule t) (with_serial old.slab.slots n)) (eq_false t.serial n (λ q. ne (sym q)))) in
          omega (arith, less)
      by (Some u) e =
          let many = opened_many (with_serial old.slab.slots) (with_serial new.slab.slots) old.kept each in
          omega (arith, many)
        where
          each : (n : ℕ) → length (option_to_list (with_serial new.slab.slots n)) ≡ length (option_to_list (with_serial old.slab.slots n))
          each n = elim (cases t.serial n) [
            | inl is ↦ (ap (λ o. length (option_to_list o)) (serials n ∙ ap (λ b. cond b (rule t) (with_serial old.slab.slots n)) (eq_true t.serial n is) ∙ e)
                ∙ ap (λ o. length (option_to_list o)) (sym (ap (with_serial old.slab.slots) (sym is) ∙ here)))
            | inr ne ↦ ap (λ o. length (option_to_list o)) (serials n ∙ ap (λ b. cond b (rule t) (with_serial old.slab.slots n)) (eq_false t.serial n ne))
          ]

  pub sound_step : IsSound new
  sound_step = record {
    book = s.book;
    below = λ k u e. (let v = origin k u e in let kept = s.kept in let low = h.below k v.0 v.1 in let same = v.2 in omega (arith, kept, low, same));
    timely = λ k u e. (origin k u e).5;
    one_serial = one_still old.slab new.slab place t.serial (rule t) one;
    one_name = λ p q u v e k named.
        (let a = origin p u e in let b = origin q v k in let names = name_is u.tag u.number v named in
        h.one_name p q a.0 b.0 a.1 b.1 (is_name a.0.tag a.0.number b.0 (sym b.3 ∙ names.0 ∙ a.3) (sym b.4 ∙ names.1 ∙ a.4)));
    counted = (let a = s.counted in let b = lists in let c = h.counted in omega (arith, a, b, c));
  }

  pub live_step : (tag : List ℕ) (number : ℕ) → has_name tag number t ≡ true → live_list new ≡ filter_map (wherever tag number rule) (live_list old)
  live_step tag number named =
      ap (opened (with_serial new.slab.slots)) s.kept
      ∙ opened_same (with_serial new.slab.slots) (λ n. option_and_then (wherever tag number rule) (with_serial old.slab.slots n)) old.kept (λ n l. each n (with_serial old.slab.slots n) refl)
      ∙ sym (opened_filter (wherever tag number rule) (with_serial old.slab.slots) old.kept)
    where
      each : (n : ℕ) (o : Option Open) → with_serial old.slab.slots n ≡ o → with_serial new.slab.slots n ≡ option_and_then (wherever tag number rule) (with_serial old.slab.slots n)
      each n o e = elim (cases t.serial n) [
        | inl is ↦ (serials n ∙ ap (λ b. cond b (rule t) (with_serial old.slab.slots n)) (eq_true t.serial n is)
            ∙ sym (ap (λ b. cond b (rule t) (Some t)) named) ∙ ap (option_and_then (wherever tag number rule)) (sym (ap (with_serial old.slab.slots) (sym is) ∙ here)))
        | inr ne ↦ (serials n ∙ ap (λ b. cond b (rule t) (with_serial old.slab.slots n)) (eq_false t.serial n ne) ∙ stays o e ne)
      ]
        where
          stays : (o : Option Open) → with_serial old.slab.slots n ≡ o → t.serial ≢ n → with_serial old.slab.slots n ≡ option_and_then (wherever tag number rule) (with_serial old.slab.slots n)
          stays None e ne = e ∙ sym (ap (option_and_then (wherever tag number rule)) e)
          stays (Some u) e ne = e ∙ sym (ap (option_and_then (wherever tag number rule)) e ∙ ap (λ b. cond b (rule u) (Some u)) (other (has_name tag number u) refl))
            where
              found : (k : ℕ) × (at old k ≡ Some u) × (u.serial ≡ n)
              found = found_serial old.slab.slots n u e

              other : (b : Bool) → has_name tag number u ≡ b → has_name tag number u ≡ false
              other false k = k
              other true k =
                  let it = name_is tag number t named in
                  let its = name_is tag number u k in
                  let place_is = h.one_name place found.0 t u s.there found.1 (is_name t.tag t.number u (its.0 ∙ sym it.0) (its.1 ∙ sym it.1)) in
                  absurd (ne (ap (λ (x : Open). x.serial) (same_some (ap (at old) (sym place_is) ∙ s.there) found.1) ∙ found.2))

-- ---- none has the name

pub none_named : (b : Book) (tag : List ℕ) (number : ℕ) → ((p : ℕ) → is_named tag number (at b p) ≡ false) → (s : ℕ) (u : Open) → with_serial b.slab.slots s ≡ Some u → has_name tag number u ≡ false
none_named b tag number none s u e =
    let found = found_serial b.slab.slots s u e in
    ap (is_named tag number) (sym found.1) ∙ none found.0

pub live_still : (b : Book) (tag : List ℕ) (number : ℕ) (rule : Open → Option Open) → ((p : ℕ) → is_named tag number (at b p) ≡ false) → live_list b ≡ filter_map (wherever tag number rule) (live_list b)
live_still b tag number rule none =
    opened_same (with_serial b.slab.slots) (λ n. option_and_then (wherever tag number rule) (with_serial b.slab.slots n)) b.kept (λ n l. each n (with_serial b.slab.slots n) refl)
    ∙ sym (opened_filter (wherever tag number rule) (with_serial b.slab.slots) b.kept)
  where
    each : (n : ℕ) (o : Option Open) → with_serial b.slab.slots n ≡ o → with_serial b.slab.slots n ≡ option_and_then (wherever tag number rule) (with_serial b.slab.slots n)
    each n None e = e ∙ sym (ap (option_and_then (wherever tag number rule)) e)
    each n (Some u) e = e ∙ sym (ap (option_and_then (wherever tag number rule)) e ∙ ap (λ b. cond b (rule u) (Some u)) (none_named b tag number none n u e))

-- ---- whether a name is open

pub open_here : (b : Book) (tag : List ℕ) (number place : ℕ) → IsSound b → is_named tag number (at b place) ≡ true → list_any (has_name tag number) (live_list b) ≡ true
open_here b tag number place h e = by (at b place) refl
  where
    by : (o : Option Open) → at b place ≡ o → list_any (has_name tag number) (live_list b) ≡ true
    by None k = absurd (let x = sym (ap (is_named tag number) k) ∙ e in cc)
    by (Some t) k = opened_some (has_name tag number) (with_serial b.slab.slots) b.kept t.serial t (h.below place t k) (serial_there b.slab place t h.one_serial k) (sym (ap (is_named tag number) k) ∙ e)

pub open_nowhere : (b : Book) (tag : List ℕ) (number : ℕ) → ((p : ℕ) → is_named tag number (at b p) ≡ false) → list_any (has_name tag number) (live_list b) ≡ false
open_nowhere b tag number none = opened_none (has_name tag number) (with_serial b.slab.slots) b.kept (none_named b tag number none)

-- ---- one comes

pub record Comes (old new : Book) (place : ℕ) (t : Open) : Type 0 where
  pub vacant : at old place ≡ None
  pub book : IsBook new
  pub kept : new.kept ≡ old.kept + 1
  pub updates : Updates old.slab new.slab place (Some t)
  pub serial : t.serial ≡ old.kept
  pub timely : IsTimely t
  pub fresh : (p : ℕ) → is_named t.tag t.number (at old p) ≡ false
  pub counted : slab_len new.slab ≡ slab_len old.slab + 1

module _ (old new : Book) (place : ℕ) (t : Open) (h : IsSound old) (s : Comes old new place t) where
  comes : ChangesOne old.slab new.slab place t.serial (Some t)
  comes = record {
    updates = s.updates;
    one = h.one_serial;
    was = λ u e. absurd_some s.vacant e;
    comes = λ u e. (let same : t ≡ u = cc in ap (λ (x : Open). x.serial) (sym same));
    away = λ k u ne e q. (let low = h.below k u e in let last = s.serial in omega (arith, low, q, last));
  }

  lies : (k : ℕ) (u : Open) → at new k ≡ Some u → ((k ≡ place) × (t ≡ u)) ⊎ (at old k ≡ Some u)
  lies k u e = elim (cases k place) [
    | inl is ↦ inl (is, same_some s.updates.changed (ap (at new) (sym is) ∙ e))
    | inr ne ↦ inr (sym (s.updates.others k ne) ∙ e)
  ]

  pub live_comes : live_list new ≡ live_list old ++ t ∷ []
  live_comes =
      ap (opened (with_serial new.slab.slots)) s.kept
      ∙ opened_push (with_serial old.slab.slots) (with_serial new.slab.slots) old.kept t
      (serials old.kept ∙ ap (λ b. cond b (Some t) (with_serial old.slab.slots old.kept)) (eq_true t.serial old.kept s.serial))
      (λ n l. serials n ∙ ap (λ b. cond b (Some t) (with_serial old.slab.slots n)) (eq_false t.serial n (λ q. (let last = s.serial in omega (arith, q, l, last)))))
    where
      serials : (n : ℕ) → with_serial new.slab.slots n ≡ cond (t.serial == n) (Some t) (with_serial old.slab.slots n)
      serials = serial_changed old.slab new.slab place t.serial (Some t) comes

  not_fresh : {P : Type 0} (q : ℕ) (u : Open) → at old q ≡ Some u → u.tag ≡ t.tag → u.number ≡ t.number → P
  not_fresh q u e tag number = let x = sym (s.fresh q) ∙ ap (is_named t.tag t.number) e ∙ is_name t.tag t.number u tag number in absurd (cc)

  pub sound_comes : IsSound new
  sound_comes = record {
    book = s.book;
    below = λ k u e. elim (lies k u e) [
      | inl (is, same) ↦ (let kept = s.kept in let last = s.serial in let own = ap (λ (x : Open). x.serial) same in omega (arith, kept, last, own))
      | inr before ↦ (let kept = s.kept in let low = h.below k u before in omega (arith, kept, low))
    ];
    timely = λ k u e. elim (lies k u e) [ inl (is, same) ↦ subst IsTimely same s.timely | inr before ↦ h.timely k u before ];
    one_serial = one_still old.slab new.slab place t.serial (Some t) comes;
    one_name = λ p q u v e k named. (let names = name_is u.tag u.number v named in elim (lies p u e) [
      | inl (a, same) ↦ elim (lies q v k) [
        | inl (b, other) ↦ a ∙ sym b
        | inr before ↦ not_fresh q v before (names.0 ∙ ap (λ (x : Open). x.tag) (sym same)) (names.1 ∙ ap (λ (x : Open). x.number) (sym same))
      ]
      | inr old_one ↦ elim (lies q v k) [
        | inl (b, other) ↦ not_fresh p u old_one (sym names.0 ∙ ap (λ (x : Open). x.tag) (sym other)) (sym names.1 ∙ ap (λ (x : Open). x.number) (sym other))
        | inr before ↦ h.one_name p q u v old_one before named
      ]
    ]);
    counted = (let a = s.counted in let b = ap length live_comes ∙ length-append (live_list old) (t ∷ []) in let c = h.counted in omega (arith, a, b, c));
  }

-- ---- the one whose alarm comes first

abbrev later : Option Open → Open → Open
later None u = u
later (Some t) u = if nat_le (alarm t) (alarm u) then t else u

soonest_push : (xs : List Open) (u : Open) → soonest (xs ++ u ∷ []) ≡ Some (later (soonest xs) u)
soonest_push [] u = refl
soonest_push (x ∷ xs) u = ap (λ o. Some (sooner x o)) (soonest_push xs u) ∙ ap (λ (t : Open). Some t) (by (soonest xs))
  where
    tests : (a b : ℕ) → (nat_le a b ≡ true → a ≤ b) × (nat_le a b ≡ false → b < a) × (a ≤ b → nat_le a b ≡ true) × (b < a → nat_le a b ≡ false)
    tests a b = ((λ e. grind (arith, nat_tests)), (λ e. grind (arith, nat_tests)), (λ e. grind (arith, nat_tests)), (λ e. grind (arith, nat_tests)))

    some : (t : Open) (p q r : Bool) → nat_le (alarm x) (alarm t) ≡ p → nat_le (alarm t) (alarm u) ≡ q → nat_le (alarm x) (alarm u) ≡ r
        → cond (nat_le (alarm x) (alarm (cond q t u))) x (cond q t u) ≡ cond (nat_le (alarm (cond p x t)) (alarm u)) (cond p x t) u
    some t true true true a b c = rw a (rw c refl)
    some t true true false a b c = absurd (grind (arith, nat_tests))
    some t false true r a b c = rw a (rw b refl)
    some t true false r a b c = refl
    some t false false true a b c = absurd (grind (arith, nat_tests))
    some t false false false a b c = rw b (rw c refl)

    by : (o : Option Open) → sooner x (Some (later o u)) ≡ later (Some (sooner x o)) u
    by None = refl
    by (Some t) = some t (nat_le (alarm x) (alarm t)) (nat_le (alarm t) (alarm u)) (nat_le (alarm x) (alarm u)) refl refl refl

-- the first in time, and of several at one moment the one that was kept first
abbrev Precedes : Open → Open → Type 0
Precedes t u = (alarm t < alarm u) ⊎ ((alarm t ≡ alarm u) × (t.serial ≤ u.serial))

module _ (one : ℕ → Option Open) (own : (s : ℕ) (t : Open) → one s ≡ Some t → t.serial ≡ s) where
  soonest_among : (n : ℕ) (v : Open) → soonest (opened one n) ≡ Some v → (v.serial < n) × (one v.serial ≡ Some v)
  soonest_among zero v e = absurd (cc)
  soonest_among (suc n) v e = by (one n) refl e (soonest_among n)
    where
      by : (o : Option Open) → one n ≡ o → soonest (opened one n ++ option_to_list o) ≡ Some v → ((w : Open) → soonest (opened one n) ≡ Some w → (w.serial < n) × (one w.serial ≡ Some w)) → (v.serial < suc n) × (one v.serial ≡ Some v)
      by None k q before = let h = before v (ap soonest (sym (append-nil (opened one n))) ∙ q) in let l = h.0 in (omega (arith, l), h.1)
      by (Some u) k q before = last (soonest (opened one n)) refl (sym (soonest_push (opened one n) u) ∙ q)
        where
          ends : u ≡ v → (v.serial < suc n) × (one v.serial ≡ Some v)
          ends same = let is : v.serial ≡ n = ap (λ (x : Open). x.serial) (sym same) ∙ own n u k in (omega (arith, is), ap one is ∙ k ∙ ap (λ (x : Open). Some x) same)

          last : (o : Option Open) → soonest (opened one n) ≡ o → Some (later o u) ≡ Some v → (v.serial < suc n) × (one v.serial ≡ Some v)
          last None m r = ends (same_some refl r)
          last (Some w) m r = pick (nat_le (alarm w) (alarm u)) (same_some refl r)
            where
              pick : (b : Bool) → cond b w u ≡ v → (v.serial < suc n) × (one v.serial ≡ Some v)
              pick false same = ends same
              pick true same = let h = before v (m ∙ ap (λ (x : Open). Some x) same) in let l = h.0 in (omega (arith, l), h.1)

  pub soonest_is : (n : ℕ) (t : Open) → t.serial < n → one t.serial ≡ Some t → ((s : ℕ) (u : Open) → one s ≡ Some u → Precedes t u) → soonest (opened one n) ≡ Some t
  soonest_is zero t l e first = absurd (omega (arith, l))
  soonest_is (suc n) t l e first = elim (cases t.serial n) [
    | inl is ↦ (ap (λ o. soonest (opened one n ++ option_to_list o)) (ap one (sym is) ∙ e) ∙ soonest_push (opened one n) t ∙ ap (λ (x : Open). Some x) (last (soonest (opened one n)) refl is))
    | inr ne ↦ more (one n) refl (soonest_is n t (omega (arith, l, ne)) e first)
  ]
    where
      last : (o : Option Open) → soonest (opened one n) ≡ o → t.serial ≡ n → later o t ≡ t
      last None m is = refl
      last (Some w) m is =
          let among = soonest_among n w m in
          let low = among.0 in
          let precedes = first w.serial w among.1 in
          let test : nat_le (alarm w) (alarm t) ≡ false = grind (arith, nat_tests) in
          ap (λ b. cond b w t) test

      more : (o : Option Open) → one n ≡ o → soonest (opened one n) ≡ Some t → soonest (opened one n ++ option_to_list o) ≡ Some t
      more None k h = ap soonest (append-nil (opened one n)) ∙ h
      more (Some u) k h =
          let precedes = first n u k in
          let test : nat_le (alarm t) (alarm u) ≡ true = grind (arith, nat_tests) in
          soonest_push (opened one n) u ∙ ap (λ o. Some (later o u)) h ∙ ap (λ b. Some (cond b t u)) test

alarm_first : (t u : Open) → is_first (slot_alarm (Some t)) (slot_alarm (Some u)) ≡ true → Precedes t u
alarm_first t u e = elim (first_tells (slot_alarm (Some t)) (slot_alarm (Some u))) [ inl (p, q) ↦ q | inr (p, q) ↦ absurd (cc) ]

pub soonest_there : (b : Book) (place : ℕ) → IsSound b → IsSome (at b place) → ((p : ℕ) → p < b.size → is_first (slot_alarm (at b place)) (slot_alarm (at b p)) ≡ true) → at b place ≡ soonest (live_list b)
soonest_there b place h some first = by (at b place) refl some
  where
    by : (o : Option Open) → at b place ≡ o → IsSome o → at b place ≡ soonest (live_list b)
    by None e s = absurd (cc)
    by (Some t) e s =
        e ∙ sym (soonest_is (with_serial b.slab.slots) (λ n u k. (let found = found_serial b.slab.slots n u k in found.2)) b.kept t (h.below place t e) (serial_there b.slab place t h.one_serial e)
        (λ n u k. (let found = found_serial b.slab.slots n u k in
        alarm_first t u (ap (λ o. is_first (slot_alarm o) (slot_alarm (Some u))) (sym e) ∙ ap (λ o. is_first (slot_alarm (at b place)) (slot_alarm o)) (sym found.1) ∙ first found.0 (h.book.within found.0 u found.1)))))

pub soonest_none : (b : Book) → IsSound b → slab_len b.slab ≡ 0 → None ≡ soonest (live_list b)
soonest_none b h e = by (live_list b) (sym h.counted ∙ e)
  where
    by : (xs : List Open) → length xs ≡ 0 → None ≡ soonest xs
    by [] k = refl
    by (x ∷ xs) k = absurd (omega (arith, k))

-- ---- the steps of the calls

pub named_there : (tag : List ℕ) (number : ℕ) (o : Option Open) → is_named tag number o ≡ true → (t : Open) × (o ≡ Some t) × (has_name tag number t ≡ true)
named_there tag number None e = absurd (cc)
named_there tag number (Some t) e = (t, refl, e)

pub is_there : (o : Option Open) → IsSome o → (t : Open) × (o ≡ Some t)
is_there None h = absurd (cc)
is_there (Some t) h = (t, refl)

pub if_some : {o : Option Open} {t : Open} (P : Open → Type 0) → o ≡ Some t → IfSome o P → P t
if_some P e h = subst (λ o. IfSome o P) e h

pub take_step : (old new : Book) (place : ℕ) (t : Open) (rule : Open → Option Open) → at old place ≡ Some t → rule t ≡ None → IsBook new → new.kept ≡ old.kept
    → Updates old.slab new.slab place None → slab_len new.slab + 1 ≡ slab_len old.slab → Step old new place t rule
take_step old new place t rule there none book kept updates count = record {
  there = there;
  book = book;
  kept = kept;
  updates = subst (λ o. Updates old.slab new.slab place o) (sym none) updates;
  kin = λ u e. absurd_some none e;
  counted = (let gone : length (option_to_list (rule t)) ≡ 0 = ap (λ o. length (option_to_list o)) none in omega (arith, count, gone));
}

pub put_step : (old new : Book) (place : ℕ) (t u : Open) (rule : Open → Option Open) → at old place ≡ Some t → rule t ≡ Some u → IsKin t u → IsBook new → new.kept ≡ old.kept
    → new.slab ≡ with_value old.slab place u → Step old new place t rule
put_step old new place t u rule there some kin book kept slab = record {
  there = there;
  book = book;
  kept = kept;
  updates = subst (λ o. Updates old.slab new.slab place o) (sym some) (subst (λ (s : Slab Open). Updates old.slab s place (Some u)) (sym slab) (updates_one old.slab place t u there));
  kin = λ v e. subst (IsKin t) (same_some some e) kin;
  counted = (let one : length (option_to_list (rule t)) ≡ 1 = ap (λ o. length (option_to_list o)) some in
      let count : slab_len new.slab ≡ slab_len old.slab = ap slab_len slab ∙ count_set old.slab.slots place t u there in omega (arith, one, count));
}

pub proceeding_kin : (t : Open) → IsTimely t → IsKin t (proceeding t)
unfolding proceeding
proceeding_kin t h = record { serial = refl; tag = refl; number = refl; timely = record { apart = h.apart; longest = h.longest; shortest = h.shortest } }

pub longer_within : (phase : Phase) (interval : ℕ) → 500 ≤ interval → (500 ≤ longer phase interval) × (longer phase interval ≤ 4000)
longer_within Trying interval h = (omega arith, omega arith)
longer_within Proceeding interval h = (omega arith, omega arith)

-- where an alarm is up before the patience ends, timer E has fired
pub fired : (t : Open) (now : ℕ) → nat_le (alarm t) now ≡ true → is_over now t ≡ false → (t.next ≤ now) × (now < t.first + 32000)
fired t now up over =
    let early : now < t.first + 32000 = grind (arith, nat_tests) in
    let alarm_up : min t.next (t.first + 32000) ≤ now = grind (arith, nat_tests) in
    (omega (arith, early, alarm_up), early)

pub again_kin : (t : Open) (now : ℕ) → IsTimely t → nat_le (alarm t) now ≡ true → is_over now t ≡ false → IsKin t (again now t)
unfolding again
again_kin t now h up over =
    let both = fired t now up over in
    let due = both.0 in
    let apart = h.apart in
    let range = longer_within t.phase t.interval h.shortest in
    let low = range.0 in
    let high = range.1 in
    record { serial = refl; tag = refl; number = refl; timely = record { apart = omega (arith, due, apart, low); longest = high; shortest = low } }

-- it was sent so seldom that one send more can be counted
pub few_sends : (t : Open) (now : ℕ) → IsTimely t → nat_le (alarm t) now ≡ true → is_over now t ≡ false → (t.sends < 2 ^ 31) × (t.interval < 2 ^ 31)
few_sends t now h up over =
    let both = fired t now up over in
    let due = both.0 in
    let soon = both.1 in
    let apart = h.apart in
    let longest = h.longest in
    (omega (arith, due, soon, apart), omega (arith, longest))

pub same_state : (allowance : Allowance) (kept : ℕ) (live : List Open) (b : Book) → b.kept ≡ kept → live_list b ≡ live → book_state allowance b ≡ record { allowance = allowance; kept = kept; live = live }
same_state allowance kept live b p q = ap (λ (n : ℕ). record { allowance = allowance; kept = n; live = live_list b }) p ∙ ap (λ (xs : List Open). record { allowance = allowance; kept = kept; live = xs }) q

-- ---- turns

pub turn_none : (allowance : Allowance) (now : ℕ) (b : Book) → None ≡ soonest (live_list b) → book_state allowance b ≡ turn (book_state allowance b) now
unfolding turn due
turn_none allowance now b e = rw (← e) refl

pub turn_early : (allowance : Allowance) (now : ℕ) (b : Book) (t : Open) → Some t ≡ soonest (live_list b) → nat_le (alarm t) now ≡ false → book_state allowance b ≡ turn (book_state allowance b) now
unfolding turn due
turn_early allowance now b t e early = rw (← e) (rw early refl)

pub turn_up : (allowance : Allowance) (now : ℕ) (old new : Book) (t : Open) → Some t ≡ soonest (live_list old) → nat_le (alarm t) now ≡ true → new.kept ≡ old.kept
    → live_list new ≡ filter_map (wherever t.tag t.number (turned now)) (live_list old) → book_state allowance new ≡ turn (book_state allowance old) now
unfolding turn due
turn_up allowance now old new t e up kept live = same_state allowance old.kept (filter_map (wherever t.tag t.number (turned now)) (live_list old)) new kept live ∙ rw (← e) (rw up refl)

-- ---- refusals

-- why it is not kept, where it is open already, all are or those with its tag are
abbrev reason : Bool → Bool → Bool → Option Unkept
reason twice full many = if twice then Some Twice else if full then Some Full else if many then Some Many else None

module _ (allowance : Allowance) (b : Book) (tag : List ℕ) (number : ℕ) where
  abbrev stored : State
  stored = book_state allowance b

  pub refusal_twice : list_any (has_name tag number) (live_list b) ≡ true → Some Twice ≡ refusal stored tag number
  unfolding refusal
  refusal_twice e = sym (ap (λ x. reason x (is_full number stored) (is_crowded tag stored)) e)

  pub refusal_full : list_any (has_name tag number) (live_list b) ≡ false → is_full number stored ≡ true → Some Full ≡ refusal stored tag number
  unfolding refusal
  refusal_full e full = sym (ap (λ x. reason x (is_full number stored) (is_crowded tag stored)) e ∙ ap (λ x. reason false x (is_crowded tag stored)) full)

  pub refusal_many : list_any (has_name tag number) (live_list b) ≡ false → is_full number stored ≡ false → is_crowded tag stored ≡ true → Some Many ≡ refusal stored tag number
  unfolding refusal
  refusal_many e full many = sym (ap (λ x. reason x (is_full number stored) (is_crowded tag stored)) e ∙ ap (λ x. reason false x (is_crowded tag stored)) full ∙ ap (reason false false) many)

  pub refusal_none : list_any (has_name tag number) (live_list b) ≡ false → is_full number stored ≡ false → is_crowded tag stored ≡ false → None ≡ refusal stored tag number
  unfolding refusal
  refusal_none e full many = sym (ap (λ x. reason x (is_full number stored) (is_crowded tag stored)) e ∙ ap (λ x. reason false x (is_crowded tag stored)) full ∙ ap (reason false false) many)

-- ---- what is kept

pub sent_timely : (serial now : ℕ) (tag : List ℕ) (number : ℕ) (to : Addr) (bytes : List ℕ) → IsTimely (sent serial now tag number to bytes)
unfolding sent
sent_timely serial now tag number to bytes = record { apart = omega arith; longest = omega arith; shortest = omega arith }

-- what a transaction begins with
pub record Begins (t : Open) (serial now : ℕ) (tag : List ℕ) (number : ℕ) : Type 0 where
  pub serial_is : t.serial ≡ serial
  pub first_is : t.first ≡ now
  pub tag_is : t.tag ≡ tag
  pub number_is : t.number ≡ number
  pub timely : IsTimely t

pub begins : (t : Open) (serial now : ℕ) (tag : List ℕ) (number : ℕ) (to : Addr) (bytes : List ℕ) → t ≡ sent serial now tag number to bytes → Begins t serial now tag number
unfolding sent
begins t serial now tag number to bytes e = record {
  serial_is = ap (λ (x : Open). x.serial) e;
  first_is = ap (λ (x : Open). x.first) e;
  tag_is = ap (λ (x : Open). x.tag) e;
  number_is = ap (λ (x : Open). x.number) e;
  timely = subst IsTimely (sym e) (sent_timely serial now tag number to bytes);
}

pub keep_some : (s : State) (now : ℕ) (tag : List ℕ) (number : ℕ) (to : Addr) (bytes : List ℕ) (why : Unkept) → Some why ≡ refusal s tag number → s ≡ keep s now tag number to bytes
unfolding keep
keep_some s now tag number to bytes why e = ap (λ o. with_sent o (sent s.kept now tag number to bytes) s) e

pub keep_none : (s : State) (now : ℕ) (tag : List ℕ) (number : ℕ) (to : Addr) (bytes : List ℕ) → None ≡ refusal s tag number
    → record s { kept = s.kept + 1; live = s.live ++ sent s.kept now tag number to bytes ∷ [] } ≡ keep s now tag number to bytes
unfolding keep
keep_none s now tag number to bytes e = ap (λ o. with_sent o (sent s.kept now tag number to bytes) s) e
