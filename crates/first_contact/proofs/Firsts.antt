-- One NOTIFY at most is let through to an address of which no answer is known, and one more for each answer from elsewhere.
use Rattle.std.proofs.Common.{◌≡◌, ◌∙◌, sym, ap, refl, subst, inl, inr, ◌⊎◌, ℕ, ◌+◌, ◌≤◌, Bool, true, false, Option, Some, None, List, [], ◌∷◌, ◌++◌, length, arith, length-append}
use Rattle.std.specs.Prelude.{bytes_eq, nat_le, not, ◌==◌, ◌&&◌, ◌||◌, if◌then◌else◌}
use Rattle.std.specs.List.{AllByRecursion}
use Rattle.std.proofs.lemmas.List.Elements.{filter-append}
use Rattle.sip_text.specs.declared.address.Addr.{Addr}
use Rattle.first_contact.specs.declared.contact.Notice.{Notice}
use Rattle.first_contact.specs.declared.contact.Room.{Room}
use Rattle.first_contact.specs.declared.contact.TheConstants.{FINAL, GONE}
use Rattle.first_contact.specs.Steps.{ContactSeen, Step, idle, begun, same_addr, is_from, begins_anew, goes_once, goes_first, passes, waits, drops, has_place, offered, offered_there, answered, ended, opened, opened_last, opened_more, opens, moved_to, passed_to, passed, heard, is_told}
use Rattle.first_contact.specs.Runs.{Call, Offer, Answer, GiveUp, Close, Forget, tag_of, step_of, step_at, known_after, through, is_silent_of, is_silent, is_final, answers, sent_to, IsUnanswered, OneAtMost}
use Rattle.first_contact.proofs.Places.{and_true, addr_is, addr_same, GoThere, IsPlaced, at_placed, all_placed}

-- ---- the first is under way

pub record IsWaiting (to : Addr) (c : Option ContactSeen) : Type 0 where
  pub contact : ContactSeen
  pub is : c ≡ Some contact
  pub there : contact.to ≡ to
  pub unknown : contact.is_known ≡ false

-- nothing is let through, and it stays so
pub record IsQuiet (to : Addr) (s : Step) : Type 0 where
  pub none : s.through ≡ []
  pub waiting : IsWaiting to s.contact

-- a further one waits behind it, or is dropped
module _ (to : Addr) (room : Room) (n : Notice) (k : ContactSeen) (there : k.to ≡ to) (unknown : k.is_known ≡ false) where
  placed_quiet : (b : Bool) → IsQuiet to (if b then waits n k else drops n k)
  placed_quiet true = record {
    none = refl;
    waiting = record { contact = record k { is_ending = n.is_last; held = k.held ++ n ∷ [] }; is = refl; there = there; unknown = unknown };
  }
  placed_quiet false = record { none = refl; waiting = record { contact = record k { is_ending = n.is_last }; is = refl; there = there; unknown = unknown } }

  there_quiet : IsQuiet to (offered_there room n k)
  there_quiet =
      subst (IsQuiet to) (sym (ap (λ (x : Bool). if x then passes n k else if has_place room k then waits n k else drops n k) unknown)) (placed_quiet (has_place room k))

  offered_quiet : same_addr n.to to ≡ true → IsQuiet to (offered room n (Some k))
  offered_quiet same = subst (IsQuiet to) (sym (ap (λ (x : Bool). if x then offered_there room n k else goes_first room n (Some k)) one)) there_quiet
    where
      one : same_addr k.to n.to ≡ true
      one = ap (λ (x : Addr). same_addr k.to x) (addr_is n.to to same ∙ sym there) ∙ addr_same k.to

not_true : (b : Bool) → not b ≡ true → b ≡ false
not_true true e = sym e
not_true false e = refl

-- ---- how many more

-- how many may be let through to it before an answer comes: none where one is under way, else one
abbrev Leaves : Addr → ℕ → Option ContactSeen → Type 0
Leaves to k c = ((k ≡ 0) × IsWaiting to c) ⊎ ((k ≡ 1) × IsUnanswered to c)

-- where so many may be, and one more for an answer, so many are left
pub record Goes (to : Addr) (k more : ℕ) (s : Step) : Type 0 where
  pub left : ℕ
  pub leaves : Leaves to left s.contact
  pub few : length (sent_to to s.through) + left ≤ k + more

idle_goes : (to : Addr) (k more : ℕ) (c : Option ContactSeen) → Leaves to k c → Goes to k more (idle c)
idle_goes to k more c u = record { left = k; leaves = u; few = omega arith }

quiet_goes : (to : Addr) (k more : ℕ) (s : Step) → IsQuiet to s → Goes to k more s
quiet_goes to k more s q = record {
  left = 0;
  leaves = inl (refl, q.waiting);
  few = (let none = ap (λ (l : List Notice). length (sent_to to l)) q.none in omega (arith, none));
}

one_sent : (to : Addr) (n : Notice) → length (sent_to to (n ∷ [])) ≤ 1
one_sent to n = by (same_addr n.to to)
  where
    by : (b : Bool) → length (if b then n ∷ [] else []) ≤ 1
    by true = omega arith
    by false = omega arith

none_sent : (to there : Addr) (held : List Notice) → same_addr there to ≡ false → GoThere there held → sent_to to held ≡ []
none_sent to there [] apart all = refl
none_sent to there (n ∷ held) apart all =
    ap (λ (b : Bool). if b then n ∷ sent_to to held else sent_to to held) (ap (λ (x : Addr). same_addr x to) all.0 ∙ apart) ∙ none_sent to there held apart all.1

-- ---- one is offered

first_goes : (to : Addr) (room : Room) (n : Notice) (c : Option ContactSeen) → room.begins ≡ true → same_addr n.to to ≡ true → Goes to 1 0 (goes_first room n c)
first_goes to room n c may e = subst (Goes to 1 0) (sym (ap (λ (x : Bool). if x then begins_anew n c else goes_once n c) may)) begun_goes
  where
    begun_goes : Goes to 1 0 (begins_anew n c)
    begun_goes = record {
      left = 0;
      leaves = inl (refl, record { contact = begun n; is = refl; there = addr_is n.to to e; unknown = refl });
      few = (let one = one_sent to n in omega (arith, one));
    }

offered_goes : (to : Addr) (room : Room) (n : Notice) (c : Option ContactSeen) → IsUnanswered to c → room.begins ≡ true → same_addr n.to to ≡ true → Goes to 1 0 (offered room n c)
offered_goes to room n None u may e = first_goes to room n None may e
offered_goes to room n (Some k) u may e = by (same_addr k.to n.to) refl
  where
    by : (x : Bool) → same_addr k.to n.to ≡ x → Goes to 1 0 (if x then offered_there room n k else goes_first room n (Some k))
    by false q = first_goes to room n (Some k) may e
    by true q = elim u [
      | inl apart ↦ let yes : same_addr k.to to ≡ true = ap (λ (x : Addr). same_addr k.to x) (sym (addr_is n.to to e)) ∙ q in absurd (cc)
      | inr unknown ↦ quiet_goes to 1 0 (offered_there room n k) (there_quiet to room n k (addr_is k.to n.to q ∙ addr_is n.to to e) unknown)
    ]

offer_goes : (to : Addr) (k : ℕ) (room : Room) (n : Notice) (c : Option ContactSeen) → Leaves to k c → room.begins ≡ true → same_addr n.to to ≡ true → Goes to k 0 (offered room n c)
offer_goes to k room n c u may e = elim u [
  | inl w ↦ quiet_goes to k 0 (offered room n c) (subst (λ (x : Option ContactSeen). IsQuiet to (offered room n x)) (sym w.1.is)
      (offered_quiet to room n w.1.contact w.1.there w.1.unknown e))
  | inr none ↦ subst (λ (x : ℕ). Goes to x 0 (offered room n c)) (sym none.0) (offered_goes to room n c none.1 may e)
]

-- ---- an answer comes from elsewhere

ended_goes : (to : Addr) (k : ℕ) (c : Option ContactSeen) → Goes to k 1 (ended c)
ended_goes to k c = record { left = 1; leaves = inr (refl, tt); few = omega arith }

-- to the one under way: the first one that waits is under way then
to_waiting : (to : Addr) (k : ℕ) (held : List Notice) (c : ContactSeen) → c.to ≡ to → c.is_known ≡ false → Goes to k 1 (passed_to held c)
to_waiting to k [] c there unknown = ended_goes to k (Some c)
to_waiting to k (n ∷ held) c there unknown = record {
  left = 0;
  leaves = inl (refl, record { contact = moved_to (n ∷ held) c; is = refl; there = there; unknown = unknown });
  few = (let one = one_sent to n in omega (arith, one));
}

heard_waiting : (to : Addr) (k : ℕ) (source : Addr) (c : ContactSeen) → c.to ≡ to → c.is_known ≡ false → is_from source to ≡ false → Goes to k 1 (heard source (Some c))
heard_waiting to k source c there unknown elsewhere =
    subst (Goes to k 1) (sym (ap (λ (b : Bool). if b then opened (Some c) else passed (Some c)) closed)) (to_waiting to k c.held c there unknown)
  where
    closed : opens source c ≡ false
    closed = ap (λ (b : Bool). b || is_from source c.to) unknown ∙ ap (λ (x : Addr). is_from source x) there ∙ elsewhere

-- to one that went to another address: nothing goes to this one
to_apart : (to : Addr) (held : List Notice) (c : ContactSeen) → same_addr c.to to ≡ false → Goes to 1 1 (passed_to held c)
to_apart to [] c apart = ended_goes to 1 (Some c)
to_apart to (n ∷ held) c apart = record { left = 1; leaves = inr (refl, inl apart); few = (let one = one_sent to n in omega (arith, one)) }

opened_apart : (to : Addr) (c : ContactSeen) → same_addr c.to to ≡ false → IsPlaced (Some c) → Goes to 1 1 (opened (Some c))
opened_apart to c apart placed = by c.is_ending
  where
    none : length (sent_to to c.held) ≡ 0
    none = ap (λ (l : List Notice). length l) (none_sent to c.to c.held apart placed)

    by : (b : Bool) → Goes to 1 1 (if b then opened_last (Some c) else opened_more (Some c))
    by true = record { left = 1; leaves = inr (refl, tt); few = (let all = none in omega (arith, all)) }
    by false = record { left = 1; leaves = inr (refl, inl apart); few = (let all = none in omega (arith, all)) }

heard_apart : (to source : Addr) (c : ContactSeen) → same_addr c.to to ≡ false → IsPlaced (Some c) → Goes to 1 1 (heard source (Some c))
heard_apart to source c apart placed = by (opens source c)
  where
    by : (b : Bool) → Goes to 1 1 (if b then opened (Some c) else passed (Some c))
    by true = opened_apart to c apart placed
    by false = to_apart to c.held c apart

heard_unanswered : (to source : Addr) (c : Option ContactSeen) → IsUnanswered to c → IsPlaced c → is_from source to ≡ false → Goes to 1 1 (heard source c)
heard_unanswered to source None u placed elsewhere = idle_goes to 1 1 None (inr (refl, tt))
heard_unanswered to source (Some c) u placed elsewhere = elim u [
  | inl apart ↦ heard_apart to source c apart placed
  | inr unknown ↦ by (same_addr c.to to) refl unknown
]
  where
    by : (b : Bool) → same_addr c.to to ≡ b → c.is_known ≡ false → Goes to 1 1 (heard source (Some c))
    by true same unknown = heard_waiting to 1 source c (addr_is c.to to same) unknown elsewhere
    by false apart unknown = heard_apart to source c apart placed

heard_goes : (to : Addr) (k : ℕ) (source : Addr) (c : Option ContactSeen) → Leaves to k c → IsPlaced c → is_from source to ≡ false → Goes to k 1 (heard source c)
heard_goes to k source c u placed elsewhere = elim u [
  | inl w ↦ subst (λ (x : Option ContactSeen). Goes to k 1 (heard source x)) (sym w.1.is) (heard_waiting to k source w.1.contact w.1.there w.1.unknown elsewhere)
  | inr none ↦ subst (λ (x : ℕ). Goes to x 1 (heard source c)) (sym none.0) (heard_unanswered to source c none.1 placed elsewhere)
]

goes_if : (b : Bool) (to : Addr) (k more : ℕ) (s u : Step) → Goes to k more s → Goes to k more u → Goes to k more (if b then s else u)
goes_if true to k more s u f g = f
goes_if false to k more s u f g = g

abbrev one_if : Bool → ℕ
one_if b = if b then 1 else 0

-- a provisional one does nothing
answer_goes : (to : Addr) (k number status : ℕ) (source : Addr) (c : Option ContactSeen) → Leaves to k c → IsPlaced c
    → (not (nat_le FINAL status) || not (is_from source to)) ≡ true → Goes to k (one_if (nat_le FINAL status)) (answered number status source c)
answer_goes to k number status source c u placed e = by (nat_le FINAL status) e
  where
    final : Step
    final = if status == GONE then ended c else if is_told number c then heard source c else idle c

    by : (b : Bool) → (not b || not (is_from source to)) ≡ true → Goes to k (one_if b) (if b then final else idle c)
    by true h =
        goes_if (status == GONE) to k 1 (ended c) (if is_told number c then heard source c else idle c) (ended_goes to k c)
        (goes_if (is_told number c) to k 1 (heard source c) (idle c) (heard_goes to k source c u placed (not_true (is_from source to) h)) (idle_goes to k 1 c u))
    by false h = idle_goes to k 0 c u

-- ---- any calls

of_goes : (to : Addr) (k : ℕ) (call : Call) (c : Option ContactSeen) → Leaves to k c → IsPlaced c → is_silent_of to call ≡ true → Goes to k (one_if (is_final call)) (step_of call c)
of_goes to k (Offer tag room n) c u placed e = let both = and_true room.begins (same_addr n.to to) e in offer_goes to k room n c u both.0 both.1
of_goes to k (Answer tag number status source) c u placed e = answer_goes to k number status source c u placed e
of_goes to k (GiveUp tag number) c u placed e = absurd (cc)
of_goes to k (Close tag) c u placed e = absurd (cc)
of_goes to k (Forget tag source) c u placed e = ended_goes to k c

at_goes : (tag : List ℕ) (to : Addr) (k : ℕ) (call : Call) (c : Option ContactSeen) → Leaves to k c → IsPlaced c → is_silent tag to call ≡ true
    → Goes to k (one_if (bytes_eq (tag_of call) tag && is_final call)) (step_at tag call c)
at_goes tag to k call c u placed e = by (bytes_eq (tag_of call) tag) e
  where
    by : (b : Bool) → (not b || is_silent_of to call) ≡ true → Goes to k (one_if (b && is_final call)) (if b then step_of call c else idle c)
    by true h = of_goes to k call c u placed h
    by false h = idle_goes to k 0 c u

answers_more : (tag : List ℕ) (call : Call) (calls : List Call) → length (answers tag (call ∷ calls)) ≡ one_if (bytes_eq (tag_of call) tag && is_final call) + length (answers tag calls)
answers_more tag call calls = by (bytes_eq (tag_of call) tag && is_final call)
  where
    by : (b : Bool) → length (if b then call ∷ answers tag calls else answers tag calls) ≡ one_if b + length (answers tag calls)
    by true = omega arith
    by false = omega arith

sent_more : (to : Addr) (xs ys : List Notice) → length (sent_to to (xs ++ ys)) ≡ length (sent_to to xs) + length (sent_to to ys)
sent_more to xs ys = ap (λ (l : List Notice). length l) (filter-append (λ (n : Notice). same_addr n.to to) xs ys) ∙ length-append (sent_to to xs) (sent_to to ys)

at_most : (tag : List ℕ) (to : Addr) (k : ℕ) (calls : List Call) (c : Option ContactSeen) → Leaves to k c → IsPlaced c → AllByRecursion (λ call. is_silent tag to call ≡ true) calls
    → length (sent_to to (through tag calls c)) ≤ k + length (answers tag calls)
at_most tag to k [] c u placed all = omega arith
at_most tag to k (call ∷ calls) c u placed all =
    let s : Step = step_at tag call c in
    let g = at_goes tag to k call c u placed all.0 in
    let here = g.few in
    let more = at_most tag to g.left calls s.contact g.leaves (at_placed tag call c placed) all.1 in
    let sent = sent_more to s.through (through tag calls s.contact) in
    let told = answers_more tag call calls in
    omega (arith, here, more, sent, told)

pub one_at_most : OneAtMost
one_at_most tag to before since u all = at_most tag to 1 since (known_after tag before None) (inr (refl, u)) (all_placed tag before) all
