-- How many transactions have a tag: the walk round its ring counts them.
use Rattle.std.proofs.Common.{◌≡◌, ◌≢◌, ◌∙◌, sym, ap, refl, inl, inr, ℕ, zero, suc, ◌+◌, ◌<◌, ◌≤◌, Bool, true, false, cond, not, Option, Some, None, List, [], ◌∷◌, ◌++◌, length, length-append, arith, option_to_list, if◌then◌else◌, add-one}
use Rattle.std.specs.Prelude.{bytes_eq, nat_le}
use Rattle.std.specs.List.{filter}
use Rattle.std.proofs.lemmas.Bool.Decides.{nat_tests}
use Rattle.std.proofs.lemmas.List.Elements.{filter-append}
use Rattle.std.proofs.lemmas.List.Filters.{length-filter_both}
use Rattle.std.proofs.lemmas.Slice.Eq.{bytes_eq-Decides}
use Rattle.slab.specs.Slab.{slab_len}
use Rattle.transactions.specs.declared.allowance.Allowance.{Allowance}
use Rattle.transactions.specs.declared.open.Open.{Open}
use Rattle.transactions.specs.declared.book.Book.{Book}
use Rattle.transactions.specs.Timers.{has_tag, is_tagged}
use Rattle.transactions.specs.Machine.{is_crowded}
use Rattle.transactions.specs.Places.{tag_head}
use Rattle.transactions.specs.Rings.{nodes, next_older, Seat, IsBeneath, IsFollowed}
use Rattle.transactions.specs.Stored.{at, with_serial, opened, live_list, tag_ring, seated, tag_seat, book_state, IsSound}
use Rattle.transactions.proofs.Listing.{cases, found_serial, serial_there}
use Rattle.transactions.proofs.Ringed.{one_seat, rank_is}
use Rattle.transactions.proofs.Seats.{place_sits}
use Rattle.transactions.proofs.Tagged.{tag_sits}
use Rattle.transactions.proofs.Walks.{seat_rank}

abbrev one_if : Bool → ℕ
one_if b = if b then 1 else 0

module _ (b : Book) (tag : List ℕ) where
  -- the transaction with this serial
  abbrev pub one : ℕ → Option Open
  one serial = with_serial b.slab.slots serial

  -- how many with the tag were kept before this serial
  abbrev pub many : ℕ → ℕ
  many serial = length (filter (has_tag tag) (opened one serial))

  -- how many with the tag there are
  abbrev pub all : ℕ
  all = many b.kept

  of_one : (o : Option Open) → length (filter (has_tag tag) (option_to_list o)) ≡ one_if (is_tagged tag o)
  of_one None = refl
  of_one (Some t) = by (has_tag tag t)
    where
      by : (x : Bool) → length (cond x (t ∷ []) []) ≡ one_if x
      by true = refl
      by false = refl

  many_step : (n : ℕ) → many (suc n) ≡ many n + one_if (is_tagged tag (one n))
  many_step n =
      ap length (filter-append (has_tag tag) (opened one n) (option_to_list (one n)))
      ∙ length-append (filter (has_tag tag) (opened one n)) (filter (has_tag tag) (option_to_list (one n))) ∙ ap (λ (k : ℕ). many n + k) (of_one (one n))

  -- none has it between these serials
  many_still : (low n : ℕ) → low ≤ n → ((s : ℕ) → low ≤ s → s < n → is_tagged tag (one s) ≡ false) → many n ≡ many low
  many_still low zero le none = let is : zero ≡ low = omega (arith, le) in ap many is
  many_still low (suc n) le none = elim (cases low (suc n)) [
    | inl is ↦ ap many (sym is)
    | inr ne ↦ (
        let before = many_still low n (omega (arith, le, ne)) (λ s l m. none s l (omega (arith, m))) in
        let step = many_step n in
        let last : one_if (is_tagged tag (one n)) ≡ 0 = ap one_if (none n (omega (arith, le, ne)) (omega arith)) in
        omega (arith, before, step, last))
  ]

  -- The walk has come to this node, and so many of those that came later have the tag.
  pub record Counted (node count : ℕ) : Type 0 where
    pub here : Seat
    pub sits : tag_seat b node ≡ Some here
    pub ring : here.ring ≡ tag_head b.size tag
    pub fits : here.rank ≤ b.kept
    pub so_far : count + many here.rank ≡ all

  module _ (h : IsSound b) where
    -- none with the tag came between a node and the next one
    between : (node : ℕ) (here : Seat) → here.ring ≡ tag_head b.size tag → (o : IsFollowed (tag_seat b) b.tags node here) → (s : ℕ) → o.next.rank ≤ s → IsBeneath (s + 1) here.rank → is_tagged tag (one s) ≡ false
    between node here ring o s low beneath = by (one s) refl
      where
        by : (x : Option Open) → one s ≡ x → is_tagged tag x ≡ false
        by None e = refl
        by (Some t) e = own (has_tag tag t) refl
          where
            own : (y : Bool) → has_tag tag t ≡ y → has_tag tag t ≡ false
            own false k = k
            own true k =
                let found = found_serial b.slab.slots s t e in
                let rank : t.serial + 1 ≡ s + 1 = ap (λ (n : ℕ). n + 1) found.2 in
                let same : tag_ring b.size t ≡ tag_head b.size tag = ap (tag_head b.size) ((bytes_eq-Decides t.tag tag).0 k) in
                let seat : tag_seat b found.0 ≡ Some (record { ring = tag_ring b.size t; rank = t.serial + 1 }) = ap (seated b.size (tag_ring b.size) found.0) found.1 in
                elim (o.greatest found.0 (record { ring = tag_ring b.size t; rank = t.serial + 1 }) seat (same ∙ sym ring) (λ some. (let less = beneath some in omega (arith, less, rank)))) [
                  | inl is ↦ (let next = rank_is (one_seat o.sits (ap (tag_seat b) (sym is) ∙ seat)) in absurd (omega (arith, next, rank, low)))
                  | inr less ↦ absurd (omega (arith, less, rank, low))
                ]

    -- a seat is of a head, or of a transaction that was kept
    seat_fits : (p : ℕ) (s : Seat) → tag_seat b p ≡ Some s → s.rank ≤ b.kept
    seat_fits p s e = elim (cases s.rank 0) [
      | inl head ↦ omega (arith, head)
      | inr some ↦ (
          let it = place_sits b.size (tag_ring b.size) (at b) h.book.within p s e some in
          let low = h.below p it.0 it.1 in
          let rank = ap (λ (x : Seat). x.rank) it.2 in
          omega (arith, low, rank))
    ]

    pub count_start : Counted (next_older b.tags (tag_head b.size tag)) 0
    count_start =
        let top = h.book.tags.followed (tag_head b.size tag) (record { ring = tag_head b.size tag; rank = 0 }) (tag_sits b tag h.book) in
        let fits = seat_fits (next_older b.tags (tag_head b.size tag)) top.next top.sits in
        let same = many_still top.next.rank b.kept fits (λ s low m. between (tag_head b.size tag) (record { ring = tag_head b.size tag; rank = 0 }) refl top s low (λ some. absurd (some refl))) in
        record { here = top.next; sits = top.sits; ring = top.ring; fits = fits; so_far = omega (arith, same) }

    module _ (node count : ℕ) (w : Counted node count) where
      pub count_within : node < nodes b.tags
      count_within = h.book.tags.within node w.here w.sits

      pub count_place : node ≢ tag_head b.size tag → w.here.rank ≢ 0
      count_place away head = away (h.book.tags.one node (tag_head b.size tag) w.here (record { ring = tag_head b.size tag; rank = 0 }) w.sits (tag_sits b tag h.book) w.ring head)

      pub count_less : node ≢ tag_head b.size tag → seat_rank (tag_seat b (next_older b.tags node)) < seat_rank (tag_seat b node)
      count_less away =
          let o = h.book.tags.followed node w.here w.sits in
          let less = o.beneath (count_place away) in
          let next = ap seat_rank o.sits in
          let here = ap seat_rank w.sits in
          omega (arith, less, next, here)

      -- one node further
      pub count_on : node ≢ tag_head b.size tag → Counted (next_older b.tags node) (count + one_if (is_tagged tag (at b node)))
      count_on away =
          let o = h.book.tags.followed node w.here w.sits in
          let some = count_place away in
          let it = place_sits b.size (tag_ring b.size) (at b) h.book.within node w.here w.sits some in
          let t = it.0 in
          let less = o.beneath some in
          let rank : w.here.rank ≡ t.serial + 1 = ap (λ (x : Seat). x.rank) it.2 in
          let step : many w.here.rank ≡ many t.serial + one_if (is_tagged tag (one t.serial)) = ap many (rank ∙ add-one t.serial) ∙ many_step t.serial in
          let lies : one_if (is_tagged tag (one t.serial)) ≡ one_if (is_tagged tag (at b node)) = ap (λ x. one_if (is_tagged tag x)) (serial_there b.slab node t h.one_serial it.1 ∙ sym it.1) in
          let still : many t.serial ≡ many o.next.rank = many_still o.next.rank t.serial (omega (arith, less, rank)) (λ s low m. between node w.here w.ring o s low (λ not_head. omega (arith, m, rank))) in
          let before = w.so_far in
          record {
            here = o.next;
            sits = o.sits;
            ring = o.ring ∙ w.ring;
            fits = seat_fits (next_older b.tags node) o.next o.sits;
            so_far = omega (arith, step, lies, still, before);
          }

      pub count_few : count ≤ all
      count_few = let before = w.so_far in omega (arith, before)

      -- back at the head all are counted
      pub count_end : node ≡ tag_head b.size tag → count ≡ all
      count_end is =
          let last : w.here.rank ≡ 0 = rank_is (one_seat w.sits (ap (tag_seat b) is ∙ tag_sits b tag h.book)) in
          let none : many w.here.rank ≡ 0 = ap many last in
          let before = w.so_far in
          omega (arith, none, before)

      pub count_told : (allowance : Allowance) → node ≡ tag_head b.size tag → nat_le allowance.per_tag count ≡ is_crowded tag (book_state allowance b)
      count_told allowance is = ap (nat_le allowance.per_tag) (count_end is)

    pub few_tagged : (allowance : Allowance) → slab_len b.slab < allowance.per_tag → false ≡ is_crowded tag (book_state allowance b)
    few_tagged allowance few =
        let counted = h.counted in
        let both = length-filter_both (has_tag tag) (λ t. not (has_tag tag t)) (λ t. refl) (live_list b) in
        let less : all < allowance.per_tag = omega (arith, counted, both, few) in
        grind (arith, nat_tests)

  pub crowded : (allowance : Allowance) → allowance.per_tag ≤ all → true ≡ is_crowded tag (book_state allowance b)
  crowded allowance many_there = grind (arith, nat_tests)
