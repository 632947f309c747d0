-- A walk round a ring, from its newest node to its oldest.
use Rattle.std.proofs.Common.{◌≡◌, ◌≢◌, ◌∙◌, sym, ap, refl, subst, inl, inr, ◌⊎◌, ℕ, ◌<◌, Option, Some, None, arith}
use Rattle.std.proofs.lemmas.Bool.Decides.{nat_tests}
use Rattle.transactions.specs.declared.rings.Rings.{Rings}
use Rattle.transactions.specs.Rings.{nodes, next_older, Seat, IsRinged}
use Rattle.transactions.proofs.Ringed.{cases, one_seat, rank_is}

abbrev pub seat_rank : Option Seat → ℕ
seat_rank None = 0
seat_rank (Some s) = s.rank

abbrev pub HeadSits : (ℕ → Option Seat) → ℕ → Type 0
HeadSits seat head = seat head ≡ Some (record { ring = head; rank = 0 })

-- the walk has come to this node, and what it looks for holds of all that came later
pub record Walked (seat : ℕ → Option Seat) (head node : ℕ) (holds : ℕ → Type 0) : Type 0 where
  pub here : Seat
  pub sits : seat node ≡ Some here
  pub ring : here.ring ≡ head
  pub past : (n : ℕ) (u : Seat) → seat n ≡ Some u → u.ring ≡ head → here.rank < u.rank → holds n

module _ (seat : ℕ → Option Seat) (rings : Rings) (head : ℕ) (h : IsRinged seat rings) (e : HeadSits seat head) where
  pub walk_start : (holds : ℕ → Type 0) → Walked seat head (next_older rings head) holds
  walk_start holds =
      let top = h.followed head (record { ring = head; rank = 0 }) e in
      record {
        here = top.next;
        sits = top.sits;
        ring = top.ring;
        past = λ n u k ring later. elim (top.greatest n u k ring (λ some. absurd (some refl))) [
          | inl is ↦ (let same = rank_is (one_seat k (ap seat is ∙ top.sits)) in absurd (omega (arith, same, later)))
          | inr less ↦ absurd (omega (arith, less, later))
        ];
      }

  module _ (node : ℕ) (holds : ℕ → Type 0) (w : Walked seat head node holds) where
    pub walk_within : node < nodes rings
    walk_within = h.within node w.here w.sits

    pub walk_place : node ≢ head → w.here.rank ≢ 0
    walk_place away zero = away (h.one node head w.here (record { ring = head; rank = 0 }) w.sits e w.ring zero)

    pub walk_less : node ≢ head → seat_rank (seat (next_older rings node)) < seat_rank (seat node)
    walk_less away =
        let o = h.followed node w.here w.sits in
        let less = o.beneath (walk_place away) in
        let next = ap seat_rank o.sits in
        let here = ap seat_rank w.sits in
        omega (arith, less, next, here)

    pub walk_next : node ≢ head → next_older rings node ≢ node
    walk_next away is =
        let o = h.followed node w.here w.sits in
        let less = o.beneath (walk_place away) in
        let rank = rank_is (one_seat o.sits (ap seat is ∙ w.sits)) in
        omega (arith, rank, less)

    -- one node further: only that node may have changed meanwhile
    pub walk_on : node ≢ head → (after : ℕ → Option Seat) (still : ℕ → Type 0) → ((n : ℕ) → n ≢ node → after n ≡ seat n) → ((n : ℕ) → n ≢ node → holds n → still n) → still node → Walked after head (next_older rings node) still
    walk_on away after still same kept now =
        let o = h.followed node w.here w.sits in
        record {
          here = o.next;
          sits = same (next_older rings node) (walk_next away) ∙ o.sits;
          ring = o.ring ∙ w.ring;
          past = λ n u k ring later. elim (cases n node) [
            | inl is ↦ subst still (sym is) now
            | inr ne ↦ kept n ne (was n u ne (sym (same n ne) ∙ k) ring later)
          ];
        }
      where
        was : (n : ℕ) (u : Seat) → n ≢ node → seat n ≡ Some u → u.ring ≡ head → (h.followed node w.here w.sits).next.rank < u.rank → holds n
        was n u ne k ring later = elim (order u.rank w.here.rank) [
          | inl more ↦ w.past n u k ring more
          | inr (inl same) ↦ absurd (ne (h.one n node u w.here k w.sits (ring ∙ sym w.ring) same))
          | inr (inr low) ↦ elim ((h.followed node w.here w.sits).greatest n u k (ring ∙ sym w.ring) (λ some. low)) [
            | inl is ↦ (let rank = rank_is (one_seat k (ap seat is ∙ (h.followed node w.here w.sits).sits)) in absurd (omega (arith, rank, later)))
            | inr less ↦ absurd (omega (arith, less, later))
          ]
        ]
          where
            order : (a b : ℕ) → (b < a) ⊎ ((a ≡ b) ⊎ (a < b))
            order a b = grind (arith, nat_tests)

    -- back at the head it has come to all
    pub walk_end : node ≡ head → (n : ℕ) (u : Seat) → seat n ≡ Some u → u.ring ≡ head → u.rank ≢ 0 → holds n
    walk_end is n u k ring some =
        let zero : w.here.rank ≡ 0 = rank_is (one_seat w.sits (ap seat is ∙ e)) in
        w.past n u k ring (omega (arith, zero, some))
