-- What waits goes where the latest NOTIFY of its dialog goes.
use Rattle.std.proofs.Common.{◌≡◌, ◌∙◌, sym, ap, refl, ℕ, Bool, true, false, Option, Some, None, List, [], ◌∷◌, ◌++◌}
use Rattle.std.specs.Prelude.{bytes_eq, nat_le, ◌==◌, ◌&&◌, if◌then◌else◌}
use Rattle.std.specs.List.{AllByRecursion}
use Rattle.std.proofs.lemmas.Slice.Eq.{bytes_eq-Decides}
use Rattle.std.proofs.lemmas.Bool.Decides.{Decides-eqb}
use Rattle.sip_text.specs.declared.address.Addr.{Addr}
use Rattle.first_contact.specs.declared.contact.Notice.{Notice}
use Rattle.first_contact.specs.declared.contact.Room.{Room}
use Rattle.first_contact.specs.declared.contact.TheConstants.{FINAL, GONE}
use Rattle.first_contact.specs.Steps.{ContactSeen, Step, idle, same_addr, begins_anew, goes_once, goes_first, passes, waits, drops, has_place, offered, offered_there, answered, given_up, ended, is_ending, opened, opened_last, opened_more, is_open, moved_to, passed_to, passed, heard, is_told}
use Rattle.first_contact.specs.Runs.{Call, Offer, Answer, GiveUp, Close, Forget, tag_of, step_of, step_at, known_after}

-- ---- addresses

pub and_true : (x y : Bool) → (x && y) ≡ true → (x ≡ true) × (y ≡ true)
and_true true y e = (refl, e)
and_true false y e = absurd (cc)

pub addr_is : (a b : Addr) → same_addr a b ≡ true → a ≡ b
addr_is a b e =
    let h = and_true (bytes_eq a.ip b.ip) (a.port == b.port) e in
    let ip = (bytes_eq-Decides a.ip b.ip).0 h.0 in
    let port = (Decides-eqb a.port b.port).0 h.1 in
    ap (λ (x : List ℕ). addr x a.port) ip ∙ ap (λ (x : ℕ). addr b.ip x) port
  where
    addr : List ℕ → ℕ → Addr
    addr ip port = record { ip = ip; port = port }

pub addr_same : (a : Addr) → same_addr a a ≡ true
addr_same a = ap (λ (x : Bool). x && (a.port == a.port)) ((bytes_eq-Decides a.ip a.ip).1 refl) ∙ (Decides-eqb a.port a.port).1 refl

-- ---- one step

abbrev pub GoThere : Addr → List Notice → Type 0
GoThere to held = AllByRecursion (λ (n : Notice). n.to ≡ to) held

abbrev pub IsPlaced : Option ContactSeen → Type 0
IsPlaced None = Unit {0}
IsPlaced (Some c) = GoThere c.to c.held

placed_if : (b : Bool) (s u : Step) → IsPlaced s.contact → IsPlaced u.contact → IsPlaced (if b then s else u).contact
placed_if true s u f g = f
placed_if false s u f g = g

push : (to : Addr) (n : Notice) (held : List Notice) → n.to ≡ to → GoThere to held → GoThere to (held ++ n ∷ [])
push to n [] e all = (e, tt)
push to n (m ∷ held) e all = (all.0, push to n held e all.1)

first_placed : (room : Room) (n : Notice) (c : Option ContactSeen) → IsPlaced (goes_first room n c).contact
first_placed room n c = placed_if room.begins (begins_anew n c) (goes_once n c) tt tt

there_placed : (room : Room) (n : Notice) (c : ContactSeen) → n.to ≡ c.to → IsPlaced (Some c) → IsPlaced (offered_there room n c).contact
there_placed room n c e p =
    placed_if c.is_known (passes n c) (if has_place room c then waits n c else drops n c) tt
    (placed_if (has_place room c) (waits n c) (drops n c) (push c.to n c.held e p) p)

offered_placed : (room : Room) (n : Notice) (c : Option ContactSeen) → IsPlaced c → IsPlaced (offered room n c).contact
offered_placed room n None p = first_placed room n None
offered_placed room n (Some c) p = by (same_addr c.to n.to) refl
  where
    by : (x : Bool) → same_addr c.to n.to ≡ x → IsPlaced (if x then offered_there room n c else goes_first room n (Some c)).contact
    by true e = there_placed room n c (sym (addr_is c.to n.to e)) p
    by false e = first_placed room n (Some c)

more_placed : (c : Option ContactSeen) → IsPlaced (opened_more c).contact
more_placed None = tt
more_placed (Some c) = tt

to_placed : (held : List Notice) (c : ContactSeen) → GoThere c.to held → IsPlaced (passed_to held c).contact
to_placed [] c p = tt
to_placed (n ∷ held) c p = p.1

passed_placed : (c : Option ContactSeen) → IsPlaced c → IsPlaced (passed c).contact
passed_placed None p = tt
passed_placed (Some c) p = to_placed c.held c p

heard_placed : (source : Addr) (c : Option ContactSeen) → IsPlaced c → IsPlaced (heard source c).contact
heard_placed source c p =
    placed_if (is_open source c) (opened c) (passed c) (placed_if (is_ending c) (opened_last c) (opened_more c) tt (more_placed c)) (passed_placed c p)

step_placed : (call : Call) (c : Option ContactSeen) → IsPlaced c → IsPlaced (step_of call c).contact
step_placed (Offer tag room n) c p = offered_placed room n c p
step_placed (Answer tag number status source) c p =
    placed_if (nat_le FINAL status) (if status == GONE then ended c else if is_told number c then heard source c else idle c) (idle c)
    (placed_if (status == GONE) (ended c) (if is_told number c then heard source c else idle c) tt
    (placed_if (is_told number c) (heard source c) (idle c) (heard_placed source c p) p))
    p
step_placed (GiveUp tag number) c p = placed_if (is_told number c) (ended c) (idle c) tt p
step_placed (Close tag) c p = tt
step_placed (Forget tag source) c p = tt

pub at_placed : (tag : List ℕ) (call : Call) (c : Option ContactSeen) → IsPlaced c → IsPlaced (step_at tag call c).contact
at_placed tag call c p = placed_if (bytes_eq (tag_of call) tag) (step_of call c) (idle c) (step_placed call c p) p

-- ---- after any calls

run_placed : (tag : List ℕ) (calls : List Call) (c : Option ContactSeen) → IsPlaced c → IsPlaced (known_after tag calls c)
run_placed tag [] c p = p
run_placed tag (call ∷ calls) c p = run_placed tag calls (step_at tag call c).contact (at_placed tag call c p)

pub all_placed : (tag : List ℕ) (calls : List Call) → IsPlaced (known_after tag calls None)
all_placed tag calls = run_placed tag calls None tt
