-- Each step keeps the order, and loses nothing uncounted.
use Rattle.std.proofs.Common.{◌≡◌, ◌∙◌, sym, ap, refl, subst, inl, inr, ℕ, ◌+◌, Bool, true, false, Option, Some, None, List, [], ◌∷◌, ◌++◌, length, arith, length-append, append_assoc}
use Rattle.std.specs.Prelude.{bytes_eq, nat_le, ◌==◌, if◌then◌else◌}
use Rattle.std.proofs.lemmas.Bool.Decides.{Decides-eqb}
use Rattle.sip_text.specs.declared.address.Addr.{Addr}
use Rattle.first_contact.specs.declared.contact.Notice.{Notice}
use Rattle.first_contact.specs.declared.contact.Room.{Room}
use Rattle.first_contact.specs.declared.contact.TheConstants.{FINAL, GONE}
use Rattle.first_contact.specs.Steps.{ContactSeen, Step, waiting, idle, begun, same_addr, begins_anew, goes_once, goes_first, passes, waits, drops, has_place, offered, offered_there, answered, ended, is_ending, opened, opened_last, opened_more, is_open, moved_to, passed_to, passed, heard, is_told}
use Rattle.first_contact.specs.Runs.{Call, Offer, Answer, GiveUp, Close, Forget, tag_of, step_of, step_at, known_after, through, lost, offer_of, offer_at, offers, ends_it, IsPart, EachInOrder, NoneAfterItsEnd, NoneVanishes}

-- ---- parts

pub none_part : (ys : List Notice) → IsPart [] ys
none_part [] = refl
none_part (y ∷ ys) = inl (none_part ys)

pub both : (y : Notice) (xs ys : List Notice) → IsPart xs ys → IsPart (y ∷ xs) (y ∷ ys)
both y xs ys h = inr (xs, refl, h)

-- what stands before is left out
pub behind : (ws xs ys : List Notice) → IsPart xs ys → IsPart xs (ws ++ ys)
behind [] xs ys h = h
behind (w ∷ ws) xs ys h = inl (behind ws xs ys h)

-- or comes first
pub whole : (ws xs ys : List Notice) → IsPart xs ys → IsPart (ws ++ xs) (ws ++ ys)
whole [] xs ys h = h
whole (w ∷ ws) xs ys h = both w (ws ++ xs) (ws ++ ys) (whole ws xs ys h)

-- what stands in the midst is left out
pub skip : (n : Notice) (ws xs ys : List Notice) → IsPart xs (ws ++ ys) → IsPart xs (ws ++ (n ∷ ys))
skip n [] xs ys h = inl h
skip n (w ∷ ws) xs ys h = elim h [
  | inl rest ↦ inl (skip n ws xs ys rest)
  | inr is ↦ inr (is.0, is.1, skip n ws is.0 ys is.2)
]

-- ---- steps

-- from what waits and is offered a step makes what it lets through, what it drops and what waits then
pub record IsFair (step : Step) (c : Option ContactSeen) (new : List Notice) : Type 0 where
  pub order : (xs ys : List Notice) → IsPart xs (waiting step.contact ++ ys) → IsPart (step.through ++ xs) (waiting c ++ (new ++ ys))
  pub count : length step.through + length step.lost + length (waiting step.contact) ≡ length (waiting c) + length new

if_fair : (b : Bool) (s u : Step) (c : Option ContactSeen) (new : List Notice) → IsFair s c new → IsFair u c new → IsFair (if b then s else u) c new
if_fair true s u c new f g = f
if_fair false s u c new f g = g

idle_fair : (c : Option ContactSeen) → IsFair (idle c) c []
idle_fair c = record { order = λ xs ys h. h; count = omega arith }

-- it goes through first, and what waited is dropped
first_fair : (room : Room) (n : Notice) (c : Option ContactSeen) → IsFair (goes_first room n c) c (n ∷ [])
first_fair room n c =
    if_fair room.begins (begins_anew n c) (goes_once n c) c (n ∷ [])
    (record { order = λ xs ys h. behind (waiting c) (n ∷ xs) (n ∷ ys) (both n xs ys h); count = omega arith })
    (record { order = λ xs ys h. behind (waiting c) (n ∷ xs) (n ∷ ys) (both n xs ys h); count = omega arith })

passes_fair : (n : Notice) (c : ContactSeen) → IsFair (passes n c) (Some c) (n ∷ [])
passes_fair n c = record { order = λ xs ys h. behind c.held (n ∷ xs) (n ∷ ys) (both n xs ys h); count = omega arith }

waits_fair : (n : Notice) (c : ContactSeen) → IsFair (waits n c) (Some c) (n ∷ [])
waits_fair n c = record {
  order = λ xs ys h. subst (λ (l : List Notice). IsPart xs l) (append_assoc c.held (n ∷ []) ys) h;
  count = (let one = length-append c.held (n ∷ []) in omega (arith, one));
}

drops_fair : (n : Notice) (c : ContactSeen) → IsFair (drops n c) (Some c) (n ∷ [])
drops_fair n c = record { order = λ xs ys h. skip n c.held xs ys h; count = omega arith }

offered_fair : (room : Room) (n : Notice) (c : Option ContactSeen) → IsFair (offered room n c) c (n ∷ [])
offered_fair room n None = first_fair room n None
offered_fair room n (Some c) =
    if_fair (same_addr c.to n.to) (offered_there room n c) (goes_first room n (Some c)) (Some c) (n ∷ [])
    (if_fair c.is_known (passes n c) (if has_place room c then waits n c else drops n c) (Some c) (n ∷ []) (passes_fair n c)
    (if_fair (has_place room c) (waits n c) (drops n c) (Some c) (n ∷ []) (waits_fair n c) (drops_fair n c)))
    (first_fair room n (Some c))

ended_fair : (c : Option ContactSeen) → IsFair (ended c) c []
ended_fair c = record { order = λ xs ys h. behind (waiting c) xs ys h; count = omega arith }

last_fair : (c : Option ContactSeen) → IsFair (opened_last c) c []
last_fair c = record { order = λ xs ys h. whole (waiting c) xs ys h; count = omega arith }

more_fair : (c : Option ContactSeen) → IsFair (opened_more c) c []
more_fair None = idle_fair None
more_fair (Some c) = record { order = λ xs ys h. whole c.held xs ys h; count = omega arith }

opened_fair : (c : Option ContactSeen) → IsFair (opened c) c []
opened_fair c = if_fair (is_ending c) (opened_last c) (opened_more c) c [] (last_fair c) (more_fair c)

-- the first one that waits goes through
to_fair : (held : List Notice) (c : ContactSeen) → c.held ≡ held → IsFair (passed_to held c) (Some c) []
to_fair [] c e = ended_fair (Some c)
to_fair (n ∷ held) c e = record {
  order = λ xs ys h. subst (λ (l : List Notice). IsPart (n ∷ xs) (l ++ ys)) (sym e) (both n xs (held ++ ys) h);
  count = (let all = ap (λ (l : List Notice). length l) e in omega (arith, all));
}

passed_fair : (c : Option ContactSeen) → IsFair (passed c) c []
passed_fair None = idle_fair None
passed_fair (Some c) = to_fair c.held c refl

heard_fair : (source : Addr) (c : Option ContactSeen) → IsFair (heard source c) c []
heard_fair source c = if_fair (is_open source c) (opened c) (passed c) c [] (opened_fair c) (passed_fair c)

step_fair : (call : Call) (c : Option ContactSeen) → IsFair (step_of call c) c (offer_of call)
step_fair (Offer tag room n) c = offered_fair room n c
step_fair (Answer tag number status source) c =
    if_fair (nat_le FINAL status) _ (idle c) c []
    (if_fair (status == GONE) (ended c) _ c [] (ended_fair c) (if_fair (is_told number c) (heard source c) (idle c) c [] (heard_fair source c) (idle_fair c)))
    (idle_fair c)
step_fair (GiveUp tag number) c = if_fair (is_told number c) (ended c) (idle c) c [] (ended_fair c) (idle_fair c)
step_fair (Close tag) c = ended_fair c
step_fair (Forget tag source) c = ended_fair c

at_fair : (tag : List ℕ) (call : Call) (c : Option ContactSeen) → IsFair (step_at tag call c) c (offer_at tag call)
at_fair tag call c = by (bytes_eq (tag_of call) tag)
  where
    by : (b : Bool) → IsFair (if b then step_of call c else idle c) c (if b then offer_of call else [])
    by true = step_fair call c
    by false = idle_fair c

-- ---- runs

run_order : (tag : List ℕ) (calls : List Call) (c : Option ContactSeen) → IsPart (through tag calls c) (waiting c ++ offers tag calls)
run_order tag [] c = none_part (waiting c ++ [])
run_order tag (call ∷ calls) c = (at_fair tag call c).order _ _ (run_order tag calls (step_at tag call c).contact)

pub each_in_order : EachInOrder
each_in_order tag calls = run_order tag calls None

run_count : (tag : List ℕ) (calls : List Call) (c : Option ContactSeen)
    → length (through tag calls c) + length (lost tag calls c) + length (waiting (known_after tag calls c)) ≡ length (waiting c) + length (offers tag calls)
run_count tag [] c = omega arith
run_count tag (call ∷ calls) c =
    let s = step_at tag call c in
    let here = (at_fair tag call c).count in
    let more = run_count tag calls s.contact in
    let sent = length-append s.through (through tag calls s.contact) in
    let dropped = length-append s.lost (lost tag calls s.contact) in
    let new = length-append (offer_at tag call) (offers tag calls) in
    omega (arith, here, more, sent, dropped, new)

pub none_vanishes : NoneVanishes
none_vanishes tag calls = omega (arith, run_count tag calls None)

-- ---- after an end

ends_none : (call : Call) (c : Option ContactSeen) → ends_it call c ≡ true → (step_of call c).contact ≡ None
ends_none (Offer tag room n) c e = absurd (cc)
ends_none (Answer tag number status source) c e = ap (λ (s : ℕ). (answered number s source c).contact) ((Decides-eqb status GONE).0 e)
ends_none (GiveUp tag number) c e = ap (λ (b : Bool). (if b then ended c else idle c).contact) e
ends_none (Close tag) c e = refl
ends_none (Forget tag source) c e = refl

pub none_after_its_end : NoneAfterItsEnd
none_after_its_end tag before since end ours ends =
    let k = known_after tag before None in
    let gone : (step_at tag end k).contact ≡ None = ap (λ (b : Bool). (if b then step_of end k else idle k).contact) ours ∙ ends_none end k ends in
    subst (λ (c : Option ContactSeen). IsPart (through tag since c) (offers tag since)) (sym gone) (run_order tag since None)
