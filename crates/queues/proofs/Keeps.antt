-- Each kind of step keeps the rule.
use Rattle.std.proofs.Common.{◌≡◌, ◌≢◌, ◌<◌, ◌+◌, ◌==◌, ℕ, zero, suc, true, false, true≢false, if◌then◌else◌, List, [], ◌∷◌, ◌++◌, length, set, sym, refl, ap, ◌∙◌, subst, ⊎_elim, ◌⊎◌, inl, inr, append_assoc, eq-eqb, ne_eqb, arith}
use mathlib.Core.Option.{some, some-injective, some-ne-none}
use lib.ListN.{get_elem?}
use Rattle.std.proofs.Math.Nat.{lt_of_not-le}
use Rattle.std.proofs.lemmas.List.{append-nil}
use Rattle.std.proofs.lemmas.Bool.Decides.{eqb_tells}
use Rattle.crossbeam_channel.specs.Fifo.{Pushes, Pops, Forks, Merges, Learns}
use Rattle.atomic_table.proofs.Lists.{at_set}
use Rattle.queues.specs.declared.items.Item.{Item}
use Rattle.queues.specs.declared.views.View.{View}
use Rattle.queues.specs.Items.{items_of, has_end, NothingAfterEnd, TookInOrder}
use Rattle.queues.specs.Rule.{sender_view, receiver_view, no_view, with_sender, with_item, taken_over, SendsItem, TakesItem, RestIsHeld, KnowsSent, KnowsTaken, IsInOrder}
use Rattle.queues.proofs.ItemLists.{items_of-append, items_of_same, items_of_other, items_of_first, items_of_more, ends_snoc, ends_front, took_in_order, at_end, not_nil}

-- a function of numbers that was changed at one
seat_here : (f : ℕ → ℕ) (m n : ℕ) → (if m == m then n else f m) ≡ n
seat_here f m n = rw (eq-eqb m m refl) refl

seat_else : (f : ℕ → ℕ) (m n q : ℕ) → q ≢ m → (if q == m then n else f q) ≡ f q
seat_else f m n q ne = rw (ne_eqb q m ne) refl

same_or_not : (a b : ℕ) → (a ≡ b) ⊎ (a ≢ b)
same_or_not a b = ⊎_elim (λ t. inl t.1) (λ t. inr t.1) (eqb_tells a b)

module _ {T : Type 0} where
  abbrev AllViews : (ℕ → View T → Type 0) → List (View T) → Type 0
  AllViews F views = (pass : ℕ) (v : View T) → get_elem? views pass ≡ some v → F pass v

  all_set : (F : ℕ → View T → Type 0) (views : List (View T)) (pass : ℕ) (w : View T) → F pass w
      → ((j : ℕ) (u : View T) → j ≢ pass → get_elem? views j ≡ some u → F j u) → AllViews F (set views pass w)
  all_set F views pass w mine others j u e = ⊎_elim
      (λ (x : (j ≡ pass) × (w ≡ u)). subst (λ (y : ℕ × View T). F y.0 y.1) (λ i. (sym x.0 i, x.1 i)) mine)
      (λ (x : (j ≢ pass) × (get_elem? views j ≡ some u)). others j u x.0 x.1) (at_set views pass j w u e)

  only : (F : ℕ → View T → Type 0) (w : View T) → F 0 w → AllViews F (w ∷ [])
  only F w f zero v e = subst (F 0) (some-injective w v e) f
  only F w f (suc j) v e = absurd (some-ne-none v (sym e))

  -- making: nothing was sent, and there is no sender
  pub begins : IsInOrder {T = T} [] (receiver_view 0 [] ∷ [])
  begins =
      let Known : ℕ → View T → Type 0 = λ j v. KnowsSent (λ _. 0) (λ _. []) 0 j v × KnowsTaken 0 [] 0 j v in
      record {
        sent = λ _. [];
        taken = [];
        senders = 0;
        seat_of = λ _. 0;
        receiver_seat = 0;
        in_order = λ p. refl;
        ends_last = λ p. tt;
        unmade = λ p h. refl;
        known = only Known (receiver_view {T = T} 0 []) ((λ e. absurd (true≢false (sym e))), λ _. (refl, refl, refl));
      }

  -- sending an item, or an end mark: what the sender sent grows by it
  pub sends : (n pass : ℕ) (v : View T) (x : Item T) → v.is_sender ≡ true → has_end v.sent ≡ false → x.from ≡ v.number
      → Pushes IsInOrder n pass v x (SendsItem v x)
  sends n pass v x may unended from items views room h at =
      let w : View T = sender_view v.number (v.sent ++ x ∷ []) in
      let mine = (h.known pass v at).0 may in
      let sent : ℕ → List (Item T) = λ p. h.sent p ++ items_of p (x ∷ []) in
      let none : (p : ℕ) → x.from ≢ p → sent p ≡ h.sent p = λ p ne. ap (λ l. h.sent p ++ l) (items_of_other p x ne) ∙ append-nil (h.sent p) in
      let here : (p : ℕ) → x.from ≡ p → sent p ≡ h.sent p ++ x ∷ [] = λ p e. ap (λ l. h.sent p ++ l) (items_of_same p x e) in
      let none_ended : (p : ℕ) → x.from ≡ p → has_end (h.sent p) ≡ false = λ p e. ap has_end (ap h.sent (sym e ∙ from) ∙ sym mine.1) ∙ unended in (
        w,
        record {
          sent = sent;
          taken = h.taken;
          senders = h.senders;
          seat_of = h.seat_of;
          receiver_seat = h.receiver_seat;
          in_order = λ p. items_of_more p h.taken items x ∙ ap (λ l. l ++ items_of p (x ∷ [])) (h.in_order p);
          ends_last = λ p. ⊎_elim
              (λ (t : x.from ≡ p). subst NothingAfterEnd (sym (here p t)) (ends_snoc (h.sent p) x (none_ended p t)))
              (λ (t : x.from ≢ p). subst NothingAfterEnd (sym (none p t)) (h.ends_last p)) (same_or_not x.from p);
          unmade = λ p le. none p (λ e. let f = mine.2 in omega arith) ∙ h.unmade p le;
          known = all_set (λ j u. KnowsSent h.seat_of sent h.senders j u × KnowsTaken h.receiver_seat h.taken h.senders j u) views pass w
              ((λ _. (mine.0, ap (λ l. l ++ x ∷ []) mine.1 ∙ sym (here v.number from), mine.2)), λ e. absurd (true≢false (sym e)))
              (λ j u other e. (
                (λ p. let old = (h.known j u e).0 p in
                    let apart : x.from ≢ u.number = λ q. other (sym old.0 ∙ ap h.seat_of (sym q ∙ from) ∙ mine.0) in
                    (old.0, old.1 ∙ sym (none u.number apart), old.2)),
                (h.known j u e).1,
              ));
        },
        refl,
      )

  -- taking: the front goes from what is held to what was taken
  pub takes : (pass : ℕ) (v : View T) → v.is_receiver ≡ true → Pops IsInOrder pass v (TakesItem v)
  takes pass v may x items views h at =
      let w : View T = with_item v x in
      let known = h.known pass v at in
      let mine = known.1 may in
      let p : ℕ = x.from in
      let whole : items_of p h.taken ++ x ∷ items_of p items ≡ h.sent p =
      ap (λ l. items_of p h.taken ++ l) (sym (items_of_first p x items refl)) ∙ sym (items_of-append p h.taken (x ∷ items)) ∙ h.in_order p in
      let none_ended : has_end (items_of p h.taken) ≡ false =
      ends_front (items_of p h.taken) x (items_of p items) (subst NothingAfterEnd (sym whole) (h.ends_last p)) in
      let made : p < h.senders = lt_of_not-le (λ le. not_nil (items_of p h.taken) x (items_of p items) (whole ∙ h.unmade p le)) in (
        w,
        record {
          sent = h.sent;
          taken = h.taken ++ x ∷ [];
          senders = h.senders;
          seat_of = h.seat_of;
          receiver_seat = h.receiver_seat;
          in_order = λ q. ap (items_of q) (append_assoc h.taken (x ∷ []) items) ∙ h.in_order q;
          ends_last = h.ends_last;
          unmade = h.unmade;
          known = all_set (λ j u. KnowsSent h.seat_of h.sent h.senders j u × KnowsTaken h.receiver_seat (h.taken ++ x ∷ []) h.senders j u) views pass w
              (known.0, λ _. (mine.0, ap (λ l. l ++ x ∷ []) mine.1, mine.2))
              (λ j u other e. ((h.known j u e).0, λ q. absurd (other (((h.known j u e).1 q).0 ∙ sym mine.0))));
        },
        (refl, (let m = mine.2 in omega arith), ap (λ l. has_end (items_of p l)) mine.1 ∙ none_ended),
      )

  -- splitting: a sender's seat is cut from the receiver's
  pub forks : (pass : ℕ) (v : View T) → v.is_receiver ≡ true → Forks IsInOrder pass v (with_sender v) (sender_view v.senders [])
  forks pass v may items views h at =
      let known = h.known pass v at in
      let mine = known.1 may in
      let count : v.senders ≡ h.senders = mine.2 in
      let vs : List (View T) = set views pass (with_sender v) in
      let w : View T = sender_view v.senders [] in
      let n : ℕ = length vs in
      let senders : ℕ = v.senders + 1 in
      let seat : ℕ → ℕ = λ q. if q == v.senders then n else h.seat_of q in
      let Known : ℕ → View T → Type 0 = λ j u. KnowsSent seat h.sent senders j u × KnowsTaken h.receiver_seat h.taken senders j u in
      let stays : (j : ℕ) (u : View T) → KnowsSent h.seat_of h.sent h.senders j u → KnowsSent seat h.sent senders j u = λ j u old p.
      let o = old p in
      let below : u.number < h.senders = o.2 in
      (seat_else h.seat_of v.senders n u.number (λ e. absurd (omega arith)) ∙ o.0, o.1, omega arith) in
      let olds : AllViews Known vs = all_set Known views pass (with_sender v) (stays pass (with_sender v) known.0, λ _. (mine.0, mine.1, refl))
      (λ j u other e. (stays j u (h.known j u e).0, λ q. absurd (other (((h.known j u e).1 q).0 ∙ sym mine.0)))) in
      let new : Known n w = ((λ _. (seat_here h.seat_of v.senders n, sym (h.unmade v.senders (omega arith)), omega arith)), λ p. absurd (true≢false (sym p))) in
      record {
        sent = h.sent;
        taken = h.taken;
        senders = senders;
        seat_of = seat;
        receiver_seat = h.receiver_seat;
        in_order = h.in_order;
        ends_last = h.ends_last;
        unmade = λ p le. h.unmade p (omega arith);
        known = λ j u e. ⊎_elim (olds j u)
            (λ (is : (j ≡ n) × (w ≡ u)). subst (λ (y : ℕ × View T). Known y.0 y.1) (λ i. (sym is.0 i, is.1 i)) new) (at_end vs w u j e);
      }

  -- joining: the receiver's seat takes over a sender's
  pub merges : (pass : ℕ) (v : View T) (other : ℕ) (s : View T) → v.is_receiver ≡ true → s.is_sender ≡ true
      → Merges IsInOrder pass v other s (taken_over v s) no_view
  merges pass v other s may sends items views h at ne at' =
      let both : View T = taken_over v s in
      let vs : List (View T) = set views pass both in
      let was : get_elem? views other ≡ some s = ⊎_elim (λ x. absurd (ne x.0)) (λ x. x.1) (at_set views pass other both s at') in
      let theirs = (h.known other s was).0 sends in
      let mine = (h.known pass v at).1 may in
      let seat : ℕ → ℕ = λ q. if q == s.number then pass else h.seat_of q in
      let Known : ℕ → View T → Type 0 = λ j y. KnowsSent seat h.sent h.senders j y × KnowsTaken h.receiver_seat h.taken h.senders j y in
      let now : AllViews (λ j y. j ≢ other → Known j y) vs = all_set (λ j y. j ≢ other → Known j y) views pass both
      (λ _. ((λ _. (seat_here h.seat_of s.number pass, theirs.1, theirs.2)), λ _. mine))
      (λ j y _ e apart. (
        (λ p. let old = (h.known j y e).0 p in
            (seat_else h.seat_of s.number pass y.number (λ q. apart (sym old.0 ∙ ap h.seat_of q ∙ theirs.0)) ∙ old.0, old.1, old.2)),
        (h.known j y e).1,
      )) in
      record {
        sent = h.sent;
        taken = h.taken;
        senders = h.senders;
        seat_of = seat;
        receiver_seat = h.receiver_seat;
        in_order = h.in_order;
        ends_last = h.ends_last;
        unmade = h.unmade;
        known = all_set Known vs other no_view ((λ p. absurd (true≢false (sym p))), λ p. absurd (true≢false (sym p))) (λ j y apart e. now j y e apart);
      }

  -- looking: what the receiver, which has taken over a sender's seat, took of it, and what is held of it
  pub looks : (pass : ℕ) (v : View T) → v.is_receiver ≡ true → Learns IsInOrder pass v (RestIsHeld v)
  looks pass v may items views h at sends =
      let known = h.known pass v at in
      ap (λ l. items_of v.number (l ++ items)) (known.1 may).1 ∙ h.in_order v.number ∙ sym (known.0 sends).1

  -- comparing: what was taken of the sender is the beginning of what it sent
  pub compares : (pass : ℕ) (v : View T) → v.is_receiver ≡ true → v.is_sender ≡ true
      → Learns IsInOrder pass v (λ items. TookInOrder v.number v.taken v.sent)
  compares pass v may sends items views h at =
      let sent = (h.known pass v at).0 sends in
      took_in_order v.number v.taken items v.sent (looks pass v may items views h at sends) (subst NothingAfterEnd (sym sent.1) (h.ends_last v.number))
