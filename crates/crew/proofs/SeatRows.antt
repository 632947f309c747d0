-- How seats are made for all workers.
use Rattle.std.proofs.Common.{◌≡◌, ℕ, zero, suc, ◌+◌, ◌<◌, false, true, nat_lt, List, [], ◌∷◌, ◌++◌, length, map, get_or, refl, ap, sym, ◌∙◌, subst, arith, below_more, length-append}
use Rattle.std.proofs.lemmas.Bool.{lt-ltb, ltb-false}
use Rattle.std.proofs.lemmas.List.{get_or_append_left, length-map, map-append}
use Rattle.std.proofs.lemmas.List.Elements.{All-nil, All-cons}
use Rattle.std.proofs.Math.Seq.{get_or-append_seam}
use Rattle.queues.specs.InboxSeats.{Inbox, SenderSeat, new_senders}
use Rattle.crew.specs.Ports.{PortSeats, seated, new_seat, port_of, AreDealt, AreUnused, NoneHasSent, NoneWasClosed, HaveRoom, TakeSeats}

pub new_senders-length : (inbox : Inbox) (n : ℕ) → length (new_senders inbox n) ≡ n
new_senders-length inbox zero = refl
new_senders-length inbox (suc n) = length-append (new_senders inbox n) (new_seat inbox n ∷ []) ∙ (let h = new_senders-length inbox n in omega arith)

pub new_senders-at : (inbox : Inbox) (n k : ℕ) (d : SenderSeat) → k < n → get_or (new_senders inbox n) k d ≡ new_seat inbox k
new_senders-at inbox zero k d low = absurd (omega arith)
new_senders-at inbox (suc n) k d low =
    let size = new_senders-length inbox n in
    let P : ℕ → Type 0 = λ j. get_or (new_senders inbox (suc n)) j d ≡ new_seat inbox j in
    below_more P n
    (λ j less. get_or_append_left (new_senders inbox n) (new_seat inbox n ∷ []) d j (omega arith) ∙ new_senders-at inbox n j d less)
    (ap (λ j. get_or (new_senders inbox n ++ new_seat inbox n ∷ []) j d) (sym size) ∙ get_or-append_seam (new_senders inbox n) (new_seat inbox n) [] d)
    k (omega arith)

-- a fact of each element, by its place, with one element more
pub each_more : {S : Type 0} (R : ℕ → S → Type 0) (xs ys : List S) (x : S) (n m : ℕ) → n ≡ length xs → m ≡ n + 1 → ys ≡ xs ++ x ∷ []
    → ((k : ℕ) (e : S) → k < n → R k (get_or xs k e)) → R n x → (k : ℕ) (e : S) → k < m → R k (get_or ys k e)
each_more {S} R xs ys x n m len one is old here k e low =
    let P : ℕ → Type 0 = λ j. R j (get_or ys j e) in
    let last : get_or ys n e ≡ x = ap (λ l. get_or l n e) is ∙ ap (λ j. get_or (xs ++ x ∷ []) j e) len ∙ get_or-append_seam xs x [] e in
    below_more P n
    (λ j less. let fits : j < length xs = omega arith in
    let same : get_or ys j e ≡ get_or xs j e = ap (λ l. get_or l j e) is ∙ get_or_append_left xs (x ∷ []) e j fits in
    let Q : S → Type 0 = λ y. R j y in subst Q (sym same) (old j e less))
    (let Q : S → Type 0 = λ y. R n y in subst Q (sym last) here) k (omega arith)

open_more : (inboxes : List Inbox) (inbox : Inbox) → nat_lt 0 (length (inboxes ++ inbox ∷ [])) ≡ true
open_more inboxes inbox = lt-ltb 0 (length (inboxes ++ inbox ∷ [])) (let l = length-append inboxes (inbox ∷ []) in omega arith)

-- each port with a seat of one inbox more
pub dealt_more : (old new : List PortSeats) (inboxes : List Inbox) (inbox : Inbox) (n : ℕ) → length new ≡ length old → AreDealt old inboxes n
    → TakeSeats old new (new_senders inbox n) n → AreDealt new (inboxes ++ inbox ∷ []) n
dealt_more old new inboxes inbox n size was taken = record {
  len = size ∙ was.len;
  each = λ s d low.
      taken s d (new_seat inbox s) low
      ∙ ap (λ p. seated p (get_or (new_senders inbox n) s (new_seat inbox s))) (was.each s d low)
      ∙ ap (λ q. seated (port_of inboxes s) q) (new_senders-at inbox n s (new_seat inbox s) low)
      ∙ (λ i. record {
        is_open = sym (open_more inboxes inbox) i;
        seats = sym (map-append (λ b. new_seat b s) inboxes (inbox ∷ [])) i;
        missed = 0;
      });
}

none_open : (inboxes : List Inbox) (number : ℕ) → nat_lt 0 (length inboxes) ≡ false → map (λ i. new_seat i number) inboxes ≡ []
none_open [] number e = refl
none_open (i ∷ inboxes) number e = absurd (let f = ltb-false 0 (length (i ∷ inboxes)) e in omega arith)

-- ports with these seats were not closed, and have room while there are few inboxes
pub dealt_unclosed : (ports : List PortSeats) (inboxes : List Inbox) (n : ℕ) → AreDealt ports inboxes n → NoneWasClosed ports
dealt_unclosed ports inboxes n dealt k d low =
    let P : PortSeats → Type 0 = λ p. p.is_open ≡ false → p.seats ≡ [] in
    let within : k < n = let e = dealt.len in omega arith in
    subst P (sym (dealt.each k d within)) (none_open inboxes k)

pub dealt_room : (ports : List PortSeats) (inboxes : List Inbox) (n : ℕ) → length inboxes < 256 → AreDealt ports inboxes n → HaveRoom ports
dealt_room ports inboxes n few dealt k d low =
    let P : PortSeats → Type 0 = λ p. length p.seats < 256 in
    let within : k < n = let e = dealt.len in omega arith in
    let size = length-map inboxes (λ i. new_seat i k) in
    subst P (sym (dealt.each k d within)) (let e = size in omega arith)

-- nothing was sent by them, nor by new senders
new_unused : (inboxes : List Inbox) (number : ℕ) → AreUnused (map (λ i. new_seat i number) inboxes)
new_unused [] number = All-nil (λ (s : SenderSeat). s.sent ≡ [])
new_unused (i ∷ inboxes) number = All-cons (λ (s : SenderSeat). s.sent ≡ []) (new_seat i number) (map (λ j. new_seat j number) inboxes) refl (new_unused inboxes number)

pub dealt_unused : (ports : List PortSeats) (inboxes : List Inbox) (n : ℕ) → AreDealt ports inboxes n → NoneHasSent ports
dealt_unused ports inboxes n dealt k d low =
    let within : k < n = let e = dealt.len in omega arith in
    subst (λ (p : PortSeats). AreUnused p.seats) (sym (dealt.each k d within)) (new_unused inboxes k)

pub new_senders-unused : (inbox : Inbox) (n : ℕ) (senders : List SenderSeat) → senders ≡ new_senders inbox n → AreUnused senders
new_senders-unused inbox n senders is = subst AreUnused (sym is) (λ k d low. ap (λ (s : SenderSeat). s.sent) (new_senders-at inbox n k d (let l = new_senders-length inbox n in omega arith)))
