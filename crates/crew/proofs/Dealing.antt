-- How seats are dealt out.
use Rattle.std.proofs.Common.{◌≡◌, ℕ, suc, add-zero, ◌+◌, ◌<◌, ◌≤◌, List, ◌∷◌, length, get_or, set, ap, sym, ◌∙◌, arith, below_more}
use Rattle.std.proofs.lemmas.List.{get_or-set_other, get_or-set_same}
use Rattle.queues.specs.InboxSeats.{SenderSeat}
use Rattle.crew.specs.Ports.{PortSeats, seated, TakeSeats}

-- one port more has taken its seat
pub seats_more : (old ports : List PortSeats) (seats : List SenderSeat) (at : ℕ) (s : SenderSeat) (p q : PortSeats) → at < length ports → length ports ≡ length old
    → ((d : SenderSeat) → s ≡ get_or seats at d) → ((d : PortSeats) → p ≡ get_or old at d) → q ≡ seated p s → TakeSeats old ports seats at → TakeSeats old (set ports at q) seats (at + 1)
seats_more old ports seats at s p q fits len is was new done k d e low =
    let P : ℕ → Type 0 = λ j. get_or (set ports at q) j d ≡ seated (get_or old j d) (get_or seats j e) in
    below_more P at
    (λ j less. get_or-set_other ports at j q d (omega arith) ∙ done j d e less)
    (get_or-set_same ports at q d fits ∙ new ∙ ap (λ x. seated x s) (was d) ∙ ap (λ x. seated (get_or old at d) x) (is e))
    k low

pub same_after : (old ports : List PortSeats) (at n : ℕ) (q : PortSeats) → ((k : ℕ) (d : PortSeats) → at ≤ k → k < n → get_or ports k d ≡ get_or old k d)
    → (k : ℕ) (d : PortSeats) → at + 1 ≤ k → k < n → get_or (set ports at q) k d ≡ get_or old k d
same_after old ports at n q same k d from low = get_or-set_other ports at k q d (omega arith) ∙ same k d (omega arith) low

shift : (n k : ℕ) → n + suc k ≡ (n + 1) + k
shift n k = omega arith

pub head_is : {A : Type 0} (items old rest : List A) (x : A) (n r q : ℕ) → ((k : ℕ) (s : A) → k < r → get_or old k s ≡ get_or items (n + k) s) → old ≡ x ∷ rest → q + 1 ≡ r → (s : A) → x ≡ get_or items n s
head_is items old rest x n r q h is one s = ap (λ l. get_or l 0 s) (sym is) ∙ h 0 s (omega arith) ∙ ap (λ j. get_or items j s) (add-zero n)

pub rest_is : {A : Type 0} (items old rest : List A) (x : A) (n r q : ℕ) → ((k : ℕ) (s : A) → k < r → get_or old k s ≡ get_or items (n + k) s) → old ≡ x ∷ rest → q + 1 ≡ r
    → (k : ℕ) (s : A) → k < q → get_or rest k s ≡ get_or items ((n + 1) + k) s
rest_is items old rest x n r q h is one k s low =
    ap (λ l. get_or l (suc k) s) (sym is) ∙ h (suc k) s (omega arith) ∙ ap (λ j. get_or items j s) (shift n k)

pub left_is : {A : Type 0} (items old rest : List A) (x : A) (n m r q : ℕ) → ((k : ℕ) (s : A) → k < r → get_or old k s ≡ get_or items (n + k) s) → old ≡ x ∷ rest → q + 1 ≡ r → m ≡ n + 1
    → (k : ℕ) (s : A) → k < q → get_or rest k s ≡ get_or items (m + k) s
left_is items old rest x n m r q h is one more k s low = rest_is items old rest x n r q h is one k s low ∙ ap (λ j. get_or items (j + k) s) (sym more)
