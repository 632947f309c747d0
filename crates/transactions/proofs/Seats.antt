-- The seats of the places and of the heads.
use Rattle.std.proofs.Common.{◌≡◌, ◌≢◌, ◌∙◌, sym, ap, refl, inl, inr, ℕ, ◌+◌, ◌/◌, ◌<◌, ◌≤◌, Bool, true, false, ◌&&◌, Option, Some, None, List, arith, if◌then◌else◌}
use Rattle.std.specs.Prelude.{nat_le}
use Rattle.std.proofs.lemmas.Nat.{mod_below}
use Rattle.std.proofs.Math.Nat.{div-le_self}
use Rattle.std.proofs.lemmas.Bool.{and_parts, and_from}
use Rattle.std.proofs.lemmas.Bool.Decides.{nat_tests}
use Rattle.transactions.specs.declared.open.Open.{Open}
use Rattle.transactions.specs.Places.{head, name_head, tag_head}
use Rattle.transactions.specs.Rings.{Seat}
use Rattle.transactions.specs.Stored.{seated}
use Rattle.transactions.proofs.Ringed.{Comes, Goes, cases, one_seat, rank_is}
use Rattle.transactions.proofs.Walks.{HeadSits}

-- a head lies beyond the places
abbrev pub IsHead : ℕ → ℕ → Type 0
IsHead size node = (size ≤ node) × (node ≤ size + size)

pub head_is : (size digest : ℕ) → IsHead size (head size digest)
head_is size digest = let low = mod_below digest (size / 4 + 1) (omega arith) in let few = div-le_self size 4 in (omega arith, omega (arith, low, few))

pub name_is_head : (size : ℕ) (tag : List ℕ) (number : ℕ) → IsHead size (name_head size tag number)
unfolding name_head
name_is_head size tag number = head_is size _

pub tag_is_head : (size : ℕ) (tag : List ℕ) → IsHead size (tag_head size tag)
unfolding tag_head
tag_is_head size tag = head_is size _

head_test : (size node : ℕ) → IsHead size node → (nat_le size node && nat_le node (size + size)) ≡ true
head_test size node (low, high) = and_from (nat_le size node) (nat_le node (size + size)) (grind (arith, nat_tests)) (grind (arith, nat_tests))

place_test : (size node : ℕ) → node < size → (nat_le size node && nat_le node (size + size)) ≡ false
place_test size node within = let test : nat_le size node ≡ false = grind (arith, nat_tests) in ap (λ b. b && nat_le node (size + size)) test

module _ (size : ℕ) (ring : Open → ℕ) where
  pub vacant_place : (node : ℕ) → node < size → seated size ring node None ≡ None
  vacant_place node within = ap (λ b. if b then Some (record { ring = node; rank = 0 }) else None) (place_test size node within)

  pub head_seated : (node : ℕ) → IsHead size node → seated size ring node None ≡ Some (record { ring = node; rank = 0 })
  head_seated node is = ap (λ b. if b then Some (record { ring = node; rank = 0 }) else None) (head_test size node is)

  -- what has no transaction sits as a head alone
  pub alone : (node : ℕ) (s : Seat) → seated size ring node None ≡ Some s → (node < size + size + 1) × (node ≡ s.ring) × (s.rank ≡ 0)
  alone node s e = by (nat_le size node && nat_le node (size + size)) refl e
    where
      by : (b : Bool) → (nat_le size node && nat_le node (size + size)) ≡ b → (if b then Some (record { ring = node; rank = 0 }) else None) ≡ Some s → (node < size + size + 1) × (node ≡ s.ring) × (s.rank ≡ 0)
      by true k q =
          let is : record { ring = node; rank = 0 } ≡ s = one_seat refl q in
          let both = and_parts (nat_le size node) (nat_le node (size + size)) k in
          let high = both.1 in
          let inside : node ≤ size + size = grind (arith, nat_tests) in
          (omega (arith, inside), ap (λ (x : Seat). x.ring) is, sym (rank_is is))
      by false k q = absurd (cc)

  module _ (was : ℕ → Option Open) (inside : (p : ℕ) (t : Open) → was p ≡ Some t → p < size) where
    pub head_sits : (node : ℕ) → IsHead size node → HeadSits (λ n. seated size ring n (was n)) node
    head_sits node is = by (was node) refl
      where
        by : (o : Option Open) → was node ≡ o → seated size ring node (was node) ≡ Some (record { ring = node; rank = 0 })
        by None e = ap (seated size ring node) e ∙ head_seated node is
        by (Some t) e = let low = inside node t e in let high = is.0 in absurd (omega (arith, low, high))

    -- a place is no head
    pub place_sits : (p : ℕ) (s : Seat) → seated size ring p (was p) ≡ Some s → s.rank ≢ 0 → (t : Open) × (was p ≡ Some t) × (s ≡ record { ring = ring t; rank = t.serial + 1 })
    place_sits p s e some = by (was p) refl e
      where
        by : (o : Option Open) → was p ≡ o → seated size ring p o ≡ Some s → (t : Open) × (was p ≡ Some t) × (s ≡ record { ring = ring t; rank = t.serial + 1 })
        by None k q = absurd (some (alone p s q).2)
        by (Some t) k q = (t, k, one_seat q refl)

    module _ (now : ℕ → Option Open) (place : ℕ) (within : place < size) (others : (n : ℕ) → n ≢ place → now n ≡ was n) where
      pub comes_seat : (t : Open) → IsHead size (ring t) → was place ≡ None → now place ≡ Some t → ((p : ℕ) (u : Open) → was p ≡ Some u → u.serial < t.serial)
          → Comes (λ n. seated size ring n (was n)) (λ n. seated size ring n (now n)) (ring t) place (record { ring = ring t; rank = t.serial + 1 })
      comes_seat t is vacant there newest = record {
        vacant = ap (seated size ring place) vacant ∙ vacant_place place within;
        comes = ap (seated size ring place) there;
        others = λ n ne. ap (seated size ring n) (others n ne);
        sits = head_sits (ring t) is;
        ring = refl;
        newest = λ n u e. lower n u (was n) refl e;
      }
        where
          lower : (n : ℕ) (u : Seat) (o : Option Open) → was n ≡ o → seated size ring n o ≡ Some u → u.rank < t.serial + 1
          lower n u None k e = let zero = (alone n u e).2 in omega (arith, zero)
          lower n u (Some x) k e = let low = newest n x k in let rank = rank_is (one_seat {s = record { ring = ring x; rank = x.serial + 1 }} refl e) in omega (arith, low, rank)

      pub goes_seat : (t : Open) → was place ≡ Some t → now place ≡ None → Goes (λ n. seated size ring n (was n)) (λ n. seated size ring n (now n)) place (record { ring = ring t; rank = t.serial + 1 })
      goes_seat t there vacant = record {
        there = ap (seated size ring place) there;
        vacant = ap (seated size ring place) vacant ∙ vacant_place place within;
        others = λ n ne. ap (seated size ring n) (others n ne);
        positive = λ zero. omega (arith, zero);
      }

      -- another transaction with its ring and serial
      pub same_seats : (t u : Open) → was place ≡ Some t → now place ≡ Some u → ring u ≡ ring t → u.serial ≡ t.serial → (n : ℕ) → seated size ring n (now n) ≡ seated size ring n (was n)
      same_seats t u there here rings serial n = elim (cases n place) [
        | inl is ↦ (ap (λ (m : ℕ). seated size ring m (now m)) is ∙ ap (seated size ring place) here
            ∙ ap (λ (k : ℕ). Some (record { ring = k; rank = u.serial + 1 })) rings ∙ ap (λ (k : ℕ). Some (record { ring = ring t; rank = k + 1 })) serial
            ∙ sym (ap (λ (m : ℕ). seated size ring m (was m)) is ∙ ap (seated size ring place) there))
        | inr ne ↦ ap (seated size ring n) (others n ne)
      ]
