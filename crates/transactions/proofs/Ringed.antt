-- Nodes lie in their rings by their ranks, also after one came or went.
use Rattle.std.proofs.Common.{◌≡◌, ◌≢◌, ◌∙◌, sym, ap, refl, subst, inl, inr, ◌⊎◌, ℕ, ◌<◌, Option, Some, None, arith}
use Rattle.std.proofs.lemmas.Bool.Decides.{nat_tests}
use Rattle.transactions.specs.declared.rings.Rings.{Rings}
use Rattle.transactions.specs.Rings.{nodes, next_older, next_newer, IsAlone, IsJoined, IsParted, Seat, IsFollowed, IsPreceded, IsRinged}

pub cases : (a b : ℕ) → (a ≡ b) ⊎ (a ≢ b)
cases a b = grind (arith, nat_tests)

pub one_seat : {o : Option Seat} {s u : Seat} → o ≡ Some s → o ≡ Some u → s ≡ u
one_seat e k = let x = e in let y = k in cc

no_seat : {o : Option Seat} {s : Seat} {P : Type 0} → o ≡ None → o ≡ Some s → P
no_seat e k = let x = e in let y = k in absurd (cc)

pub rank_is : {s u : Seat} → s ≡ u → s.rank ≡ u.rank
rank_is e = ap (λ (x : Seat). x.rank) e

pub ring_is : {s u : Seat} → s ≡ u → s.ring ≡ u.ring
ring_is e = ap (λ (x : Seat). x.ring) e

-- ---- what comes, and what goes

pub record Ready (rings : Rings) (head node : ℕ) : Type 0 where
  pub inside : head < nodes rings
  pub newest : next_older rings head < nodes rings
  pub apart : node ≢ head
  pub comes : node ≢ next_older rings head

module _ (seat : ℕ → Option Seat) (rings : Rings) (h : IsRinged seat rings) where
  pub ready : (head node : ℕ) → seat head ≡ Some (record { ring = head; rank = 0 }) → seat node ≡ None → Ready rings head node
  ready head node e vacant =
      let top = h.followed head (record { ring = head; rank = 0 }) e in
      record {
        inside = h.within head _ e;
        newest = h.within (next_older rings head) top.next top.sits;
        apart = λ is. no_seat vacant (ap seat is ∙ e);
        comes = λ is. no_seat vacant (ap seat is ∙ top.sits);
      }

  pub older_within : (node : ℕ) (s : Seat) → seat node ≡ Some s → next_older rings node < nodes rings
  older_within node s e = let o = h.followed node s e in h.within (next_older rings node) o.next o.sits

  pub newer_within : (node : ℕ) (s : Seat) → seat node ≡ Some s → next_newer rings node < nodes rings
  newer_within node s e = let o = h.preceded node s e in h.within (next_newer rings node) o.next o.sits

-- ---- one comes

pub record Comes (seat new : ℕ → Option Seat) (head node : ℕ) (s : Seat) : Type 0 where
  pub vacant : seat node ≡ None
  pub comes : new node ≡ Some s
  pub others : (n : ℕ) → n ≢ node → new n ≡ seat n
  pub sits : seat head ≡ Some (record { ring = head; rank = 0 })
  pub ring : s.ring ≡ head
  pub newest : (n : ℕ) (u : Seat) → seat n ≡ Some u → u.rank < s.rank

module _ (seat after : ℕ → Option Seat) (old new : Rings) (head node : ℕ) (s : Seat) (h : IsRinged seat old) (c : Comes seat after head node s) (j : IsJoined old new head node) (inside : node < nodes old) where
  top : IsFollowed seat old head (record { ring = head; rank = 0 })
  top = h.followed head (record { ring = head; rank = 0 }) c.sits

  seated : (n : ℕ) (u : Seat) → seat n ≡ Some u → n ≢ node
  seated n u e is = no_seat c.vacant (ap seat (sym is) ∙ e)

  still : (n : ℕ) (u : Seat) → seat n ≡ Some u → after n ≡ Some u
  still n u e = c.others n (seated n u e) ∙ e

  before : (n : ℕ) (u : Seat) → n ≢ node → after n ≡ Some u → seat n ≡ Some u
  before n u ne e = sym (c.others n ne) ∙ e

  positive : s.rank ≢ 0
  positive e = let low = c.newest head (record { ring = head; rank = 0 }) c.sits in omega (arith, low, e)

  highest : {P : Type 0} (n : ℕ) (u : Seat) → seat n ≡ Some u → s.rank ≡ u.rank → P
  highest n u e same = let low = c.newest n u e in absurd (omega (arith, low, same))

  follows_node : IsFollowed after new node s
  follows_node = record {
    next = top.next;
    sits = ap after j.second ∙ still (next_older old head) top.next top.sits;
    ring = top.ring ∙ sym c.ring;
    back = ap (next_newer new) j.second ∙ j.after_second;
    beneath = λ some. c.newest (next_older old head) top.next top.sits;
    greatest = λ n u e ring low. elim (cases n node) [
      | inl is ↦ (let same = rank_is (one_seat c.comes (ap after (sym is) ∙ e)) in let less = low positive in absurd (omega (arith, same, less)))
      | inr ne ↦ elim (top.greatest n u (before n u ne e) (ring ∙ c.ring) (λ some. absurd (some refl))) [ inl k ↦ inl (k ∙ sym j.second) | inr k ↦ inr k ]
    ];
  }

  follows_head : (u : Seat) → after head ≡ Some u → IsFollowed after new head u
  follows_head u e =
      let is : record { ring = head; rank = 0 } ≡ u = one_seat c.sits (before head u (seated head _ c.sits) e) in
      record {
        next = s;
        sits = ap after j.newest ∙ c.comes;
        ring = c.ring ∙ ring_is is;
        back = ap (next_newer new) j.newest ∙ j.after_newest;
        beneath = λ some. absurd (some (sym (rank_is is)));
        greatest = λ n v k ring low. elim (cases n node) [
          | inl it ↦ inl (it ∙ sym j.newest)
          | inr ne ↦ inr (c.newest n v (before n v ne k))
        ];
      }

  follows_other : (m : ℕ) (u : Seat) → m ≢ node → m ≢ head → seat m ≡ Some u → IsFollowed after new m u
  follows_other m u ne away e =
      let o = h.followed m u e in
      let same : next_older new m ≡ next_older old m = j.other_older m away ne in
      let kept : next_older old m ≢ next_older old head = λ k. away (sym o.back ∙ ap (next_newer old) k ∙ top.back) in
      record {
        next = o.next;
        sits = ap after same ∙ still (next_older old m) o.next o.sits;
        ring = o.ring;
        back = ap (next_newer new) same ∙ j.other_newer (next_older old m) (seated (next_older old m) o.next o.sits) kept ∙ o.back;
        beneath = o.beneath;
        greatest = λ n v k ring low. elim (cases n node) [
          | inl it ↦ (let is : s ≡ v = one_seat c.comes (ap after (sym it) ∙ k) in
              let some : u.rank ≢ 0 = λ zero. away (h.one m head u (record { ring = head; rank = 0 }) e c.sits (sym ring ∙ sym (ring_is is) ∙ c.ring) zero) in
              let less = low some in
              let more = c.newest m u e in
              let rank = rank_is is in
              absurd (omega (arith, less, more, rank)))
          | inr other ↦ elim (o.greatest n v (before n v other k) ring low) [ inl it ↦ inl (it ∙ sym same) | inr it ↦ inr it ]
        ];
      }

  followed_join : (n : ℕ) (u : Seat) → after n ≡ Some u → IsFollowed after new n u
  followed_join n u e = elim (cases n node) [
    | inl is ↦ subst (λ (m : ℕ). IsFollowed after new m u) (sym is) (subst (IsFollowed after new node) (one_seat c.comes (ap after (sym is) ∙ e)) follows_node)
    | inr ne ↦ elim (cases n head) [
      | inl is ↦ subst (λ (m : ℕ). IsFollowed after new m u) (sym is) (follows_head u (ap after (sym is) ∙ e))
      | inr away ↦ follows_other n u ne away (before n u ne e)
    ]
  ]

  precedes_node : IsPreceded after new node s
  precedes_node = record {
    next = record { ring = head; rank = 0 };
    sits = ap after j.after_newest ∙ still head _ c.sits;
    ring = sym c.ring;
    back = ap (next_older new) j.after_newest ∙ j.newest;
  }

  precedes_second : (u : Seat) → seat (next_older old head) ≡ Some u → IsPreceded after new (next_older old head) u
  precedes_second u e = record {
    next = s;
    sits = ap after j.after_second ∙ c.comes;
    ring = c.ring ∙ sym top.ring ∙ ring_is (one_seat top.sits e);
    back = ap (next_older new) j.after_second ∙ j.second;
  }

  precedes_other : (m : ℕ) (u : Seat) → m ≢ node → m ≢ next_older old head → seat m ≡ Some u → IsPreceded after new m u
  precedes_other m u ne away e =
      let o = h.preceded m u e in
      let same : next_newer new m ≡ next_newer old m = j.other_newer m ne away in
      let kept : next_newer old m ≢ head = λ k. away (sym o.back ∙ ap (next_older old) k) in
      record {
        next = o.next;
        sits = ap after same ∙ still (next_newer old m) o.next o.sits;
        ring = o.ring;
        back = ap (next_older new) same ∙ j.other_older (next_newer old m) kept (seated (next_newer old m) o.next o.sits) ∙ o.back;
      }

  preceded_join : (n : ℕ) (u : Seat) → after n ≡ Some u → IsPreceded after new n u
  preceded_join n u e = elim (cases n node) [
    | inl is ↦ subst (λ (m : ℕ). IsPreceded after new m u) (sym is) (subst (IsPreceded after new node) (one_seat c.comes (ap after (sym is) ∙ e)) precedes_node)
    | inr ne ↦ elim (cases n (next_older old head)) [
      | inl is ↦ subst (λ (m : ℕ). IsPreceded after new m u) (sym is) (precedes_second u (ap seat (sym is) ∙ before n u ne e))
      | inr away ↦ precedes_other n u ne away (before n u ne e)
    ]
  ]

  pub ringed_join : IsRinged after new
  ringed_join = record {
    within = λ n u e. elim (cases n node) [
      | inl is ↦ (let count = j.many in omega (arith, count, is, inside))
      | inr ne ↦ (let count = j.many in let low = h.within n u (before n u ne e) in omega (arith, count, low))
    ];
    one = λ n m u v e k ring rank. elim (cases n node) [
      | inl is ↦ elim (cases m node) [ inl it ↦ is ∙ sym it | inr ne ↦ highest m v (before m v ne k) (rank_is (one_seat c.comes (ap after (sym is) ∙ e)) ∙ rank) ]
      | inr ne ↦ elim (cases m node) [
        | inl it ↦ highest n u (before n u ne e) (rank_is (one_seat c.comes (ap after (sym it) ∙ k)) ∙ sym rank)
        | inr away ↦ h.one n m u v (before n u ne e) (before m v away k) ring rank
      ]
    ];
    followed = followed_join;
    preceded = preceded_join;
  }

-- ---- one goes

pub record Goes (seat new : ℕ → Option Seat) (node : ℕ) (s : Seat) : Type 0 where
  pub there : seat node ≡ Some s
  pub vacant : new node ≡ None
  pub others : (n : ℕ) → n ≢ node → new n ≡ seat n
  pub positive : s.rank ≢ 0

module _ (seat after : ℕ → Option Seat) (old new : Rings) (node : ℕ) (s : Seat) (h : IsRinged seat old) (g : Goes seat after node s) (p : IsParted old new node) where
  below : IsFollowed seat old node s
  below = h.followed node s g.there

  above : IsPreceded seat old node s
  above = h.preceded node s g.there

  below_away : next_older old node ≢ node
  below_away is = let same = rank_is (one_seat below.sits (ap seat is ∙ g.there)) in let less = below.beneath g.positive in omega (arith, same, less)

  above_away : next_newer old node ≢ node
  above_away is = below_away (ap (next_older old) (sym is) ∙ above.back)

  left : (n : ℕ) (u : Seat) → after n ≡ Some u → n ≢ node
  left n u e is = no_seat g.vacant (ap after (sym is) ∙ e)

  was : (n : ℕ) (u : Seat) → after n ≡ Some u → seat n ≡ Some u
  was n u e = sym (g.others n (left n u e)) ∙ e

  stays : (n : ℕ) (u : Seat) → n ≢ node → seat n ≡ Some u → after n ≡ Some u
  stays n u ne e = g.others n ne ∙ e

  follows_above : (u : Seat) → seat (next_newer old node) ≡ Some u → IsFollowed after new (next_newer old node) u
  follows_above u e =
      let o = h.followed (next_newer old node) u e in
      let is : o.next ≡ s = one_seat o.sits (ap seat above.back ∙ g.there) in
      let rank = rank_is is in
      record {
        next = below.next;
        sits = ap after p.before ∙ stays (next_older old node) below.next below_away below.sits;
        ring = below.ring ∙ sym (ring_is is) ∙ o.ring;
        back = ap (next_newer new) p.before ∙ p.after;
        beneath = λ some. (let a = o.beneath some in let b = below.beneath g.positive in omega (arith, a, b, rank));
        greatest = λ n v k ring low. elim (o.greatest n v (was n v k) ring low) [
          | inl it ↦ absurd (left n v k (it ∙ above.back))
          | inr less ↦ elim (below.greatest n v (was n v k) (ring ∙ sym o.ring ∙ ring_is is) (λ some. omega (arith, less, rank))) [ inl it ↦ inl (it ∙ sym p.before) | inr it ↦ inr it ]
        ];
      }

  follows_else : (m : ℕ) (u : Seat) → m ≢ next_newer old node → after m ≡ Some u → IsFollowed after new m u
  follows_else m u away e =
      let o = h.followed m u (was m u e) in
      let same : next_older new m ≡ next_older old m = p.other_older m away in
      let kept : next_older old m ≢ node = λ k. away (sym o.back ∙ ap (next_newer old) k) in
      let differs : next_older old m ≢ next_older old node = λ k. left m u e (sym o.back ∙ ap (next_newer old) k ∙ below.back) in
      record {
        next = o.next;
        sits = ap after same ∙ stays (next_older old m) o.next kept o.sits;
        ring = o.ring;
        back = ap (next_newer new) same ∙ p.other_newer (next_older old m) differs ∙ o.back;
        beneath = o.beneath;
        greatest = λ n v k ring low. elim (o.greatest n v (was n v k) ring low) [ inl it ↦ inl (it ∙ sym same) | inr it ↦ inr it ];
      }

  followed_part : (n : ℕ) (u : Seat) → after n ≡ Some u → IsFollowed after new n u
  followed_part n u e = elim (cases n (next_newer old node)) [
    | inl is ↦ subst (λ (m : ℕ). IsFollowed after new m u) (sym is) (follows_above u (ap seat (sym is) ∙ was n u e))
    | inr away ↦ follows_else n u away e
  ]

  precedes_below : (u : Seat) → seat (next_older old node) ≡ Some u → IsPreceded after new (next_older old node) u
  precedes_below u e = record {
    next = above.next;
    sits = ap after p.after ∙ stays (next_newer old node) above.next above_away above.sits;
    ring = above.ring ∙ sym below.ring ∙ ring_is (one_seat below.sits e);
    back = ap (next_older new) p.after ∙ p.before;
  }

  precedes_else : (m : ℕ) (u : Seat) → m ≢ next_older old node → after m ≡ Some u → IsPreceded after new m u
  precedes_else m u away e =
      let o = h.preceded m u (was m u e) in
      let same : next_newer new m ≡ next_newer old m = p.other_newer m away in
      let kept : next_newer old m ≢ node = λ k. away (sym o.back ∙ ap (next_older old) k) in
      let differs : next_newer old m ≢ next_newer old node = λ k. left m u e (sym o.back ∙ ap (next_older old) k ∙ above.back) in
      record {
        next = o.next;
        sits = ap after same ∙ stays (next_newer old m) o.next kept o.sits;
        ring = o.ring;
        back = ap (next_older new) same ∙ p.other_older (next_newer old m) differs ∙ o.back;
      }

  preceded_part : (n : ℕ) (u : Seat) → after n ≡ Some u → IsPreceded after new n u
  preceded_part n u e = elim (cases n (next_older old node)) [
    | inl is ↦ subst (λ (m : ℕ). IsPreceded after new m u) (sym is) (precedes_below u (ap seat (sym is) ∙ was n u e))
    | inr away ↦ precedes_else n u away e
  ]

  pub ringed_part : IsRinged after new
  ringed_part = record {
    within = λ n u e. (let count = p.many in let low = h.within n u (was n u e) in omega (arith, count, low));
    one = λ n m u v e k. h.one n m u v (was n u e) (was m v k);
    followed = followed_part;
    preceded = preceded_part;
  }

-- ---- the seats are the same

module _ (seat after : ℕ → Option Seat) (rings : Rings) (h : IsRinged seat rings) (same : (n : ℕ) → after n ≡ seat n) where
  pub ringed_same : IsRinged after rings
  ringed_same = record {
    within = λ n s e. h.within n s (sym (same n) ∙ e);
    one = λ n m s u e k. h.one n m s u (sym (same n) ∙ e) (sym (same m) ∙ k);
    followed = λ n s e. (let o = h.followed n s (sym (same n) ∙ e) in record {
      next = o.next;
      sits = same (next_older rings n) ∙ o.sits;
      ring = o.ring;
      back = o.back;
      beneath = o.beneath;
      greatest = λ m u k. o.greatest m u (sym (same m) ∙ k);
    });
    preceded = λ n s e. (let o = h.preceded n s (sym (same n) ∙ e) in record {
      next = o.next;
      sits = same (next_newer rings n) ∙ o.sits;
      ring = o.ring;
      back = o.back;
    });
  }

-- ---- heads alone

pub ringed_alone : (seat : ℕ → Option Seat) (rings : Rings) (count : ℕ) → IsAlone count rings → ((n : ℕ) (s : Seat) → seat n ≡ Some s → (n < count) × (n ≡ s.ring) × (s.rank ≡ 0)) → IsRinged seat rings
ringed_alone seat rings count a heads = record {
  within = λ n s e. (let low = (heads n s e).0 in let count = a.many in omega (arith, low, count));
  one = λ n m s u e k ring rank. (heads n s e).1 ∙ ring ∙ sym (heads m u k).1;
  followed = λ n s e. (let it = heads n s e in let is = a.older n it.0 in record {
    next = s;
    sits = ap seat is ∙ e;
    ring = refl;
    back = ap (next_newer rings) is ∙ a.newer n it.0;
    beneath = λ some. absurd (some it.2);
    greatest = λ m u k ring low. inl ((heads m u k).1 ∙ ring ∙ sym it.1 ∙ sym is);
  });
  preceded = λ n s e. (let it = heads n s e in let is = a.newer n it.0 in record {
    next = s;
    sits = ap seat is ∙ e;
    ring = refl;
    back = ap (next_older rings) is ∙ a.older n it.0;
  });
}
