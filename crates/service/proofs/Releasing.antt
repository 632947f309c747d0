-- What is released was held back before.
use Rattle.std.proofs.Common.{◌≡◌, ◌∙◌, ◌⊎◌, ℕ, Bool, true, false, List, [], ◌∷◌, ◌++◌, length, map, Option, Some, None, refl, ap, sym, subst, inl, inr, append_assoc, arith}
use Rattle.std.specs.Prelude.{bytes_eq, nat_le, ◌==◌, is_some, Result, Ok, Err, MatchResult, if◌then◌else◌}
use Rattle.std.specs.List.{filter, AllByRecursion}
use Rattle.std.proofs.lemmas.List.{append-nil, map-append}
use Rattle.std.proofs.lemmas.List.Elements.{filter-append, filter_map-append}
use Rattle.std.proofs.lemmas.Slice.Eq.{bytes_eq-Decides}
use Rattle.sip_text.specs.declared.address.Addr.{Addr}
use Rattle.notifier_model.specs.declared.event.Note.{Note as KnownNote}
use Rattle.notifier_model.specs.declared.event.Out.{Out}
use Rattle.notifier_model.specs.declared.event.Out.TheVariants as out
use Rattle.feeds.specs.declared.sending.Fate.{Fate}
use Rattle.first_contact.specs.declared.contact.Notice.{Notice}
use Rattle.first_contact.specs.declared.contact.Offered.{Offered}
use Rattle.first_contact.specs.declared.contact.Offered.TheVariants.{Through}
use Rattle.first_contact.specs.declared.contact.Passed.{Passed}
use Rattle.first_contact.specs.declared.contact.Room.{Room}
use Rattle.first_contact.specs.declared.contact.TheConstants.{FINAL, GONE}
use Rattle.first_contact.specs.declared.table.Contacts.{Contacts}
use Rattle.first_contact.specs.Outcomes.{IsOffered, IsLetOn, IsPassed, IsAnswer}
use Rattle.first_contact.specs.Tables.{at, IsStepped, IsSame}
use Rattle.first_contact.specs.Steps.{ContactSeen, Step, tag_in, notice_of, waiting, idle, begun, same_addr, begins_anew, goes_once, goes_first, passes, waits as waiting_step, drops, has_place, offered, offered_there, answered, given_up, ended, is_ending, opened, opened_last, opened_more, is_open, passed_to, passed, heard, is_told}
use Rattle.service.specs.declared.post.Note.{Note}
use Rattle.service.specs.Sending.{Act, Put, Held, Released, noting, held_back, held, let_go, released, of_dialog, IsPart, fate_of, fates, leaves, sent_first, taken_outs, notifies, notifys}
use Rattle.service.specs.Releasing.{outs, Waits, waits, Fewer, WaitsBehind, PassesNone, ahead, AreReleased, AreHeld, HoldsOn, ReleasesFirst}
use Rattle.service.proofs.Letting.{notice_itself}

-- ---- parts

pub none_part : (ys : List Out) → IsPart [] ys
none_part [] = refl
none_part (y ∷ ys) = inl (none_part ys)

both : (y : Out) (xs ys : List Out) → IsPart xs ys → IsPart (y ∷ xs) (y ∷ ys)
both y xs ys h = inr (xs, refl, h)

pub same_part : (xs : List Out) → IsPart xs xs
same_part [] = refl
same_part (x ∷ xs) = both x xs xs (same_part xs)

pub part_more : (xs ys zs : List Out) → IsPart xs ys → IsPart ys zs → IsPart xs zs
part_more xs ys [] h k = subst (λ (l : List Out). IsPart xs l) k h
part_more xs ys (z ∷ zs) h k = elim k [
  | inl rest ↦ inl (part_more xs ys zs h rest)
  | inr is ↦ heads z xs is.0 zs (subst (λ (l : List Out). IsPart xs l) is.1 h) (λ us more. part_more us is.0 zs more is.2)
]
  where
    heads : (z : Out) (xs ys zs : List Out) → IsPart xs (z ∷ ys) → ((us : List Out) → IsPart us ys → IsPart us zs) → IsPart xs (z ∷ zs)
    heads z xs ys zs h on = elim h [
      | inl rest ↦ inl (on xs rest)
      | inr is ↦ inr (is.0, is.1, on is.0 is.2)
    ]

-- with the same in front, and behind
front : (ws xs ys : List Out) → IsPart xs ys → IsPart (ws ++ xs) (ws ++ ys)
front [] xs ys h = h
front (w ∷ ws) xs ys h = both w (ws ++ xs) (ws ++ ys) (front ws xs ys h)

behind : (xs ys ws : List Out) → IsPart xs ys → IsPart (xs ++ ws) (ys ++ ws)
behind xs [] ws h = subst (λ (l : List Out). IsPart (l ++ ws) ws) (sym h) (same_part ws)
behind xs (y ∷ ys) ws h = elim h [
  | inl rest ↦ inl (behind xs ys ws rest)
  | inr is ↦ inr (is.0 ++ ws, ap (λ (l : List Out). l ++ ws) is.1, behind is.0 ys ws is.2)
]

pub last_part : (ws xs : List Out) → IsPart xs (ws ++ xs)
last_part [] xs = same_part xs
last_part (w ∷ ws) xs = inl (last_part ws xs)

first_part : (xs ws : List Out) → IsPart xs (xs ++ ws)
first_part [] ws = none_part ws
first_part (x ∷ xs) ws = both x xs (xs ++ ws) (first_part xs ws)

all_part : (xs ys : List Out) → xs ≡ ys → IsPart xs ys
all_part xs ys e = subst (λ (l : List Out). IsPart xs l) e (same_part xs)

-- what holds of all holds of the first one of a part
first_holds : (P : Out → Type 0) (x : Out) (xs ys : List Out) → IsPart (x ∷ xs) ys → AllByRecursion P ys → P x
first_holds P x xs [] h all = absurd cc
first_holds P x xs (y ∷ ys) h all = elim h [
  | inl rest ↦ first_holds P x xs ys rest all.1
  | inr is ↦ (let same : y ≡ x = first_same x xs y is.0 is.1 in subst P same all.0)
]
  where
    first_same : (x : Out) (xs : List Out) (y : Out) (rest : List Out) → x ∷ xs ≡ y ∷ rest → y ≡ x
    first_same x xs y rest e = cc

-- ---- of one dialog

all_notifys : (tag : List ℕ) (os : List Out) → AllByRecursion (λ (o : Out). notifies tag o ≡ true) (notifys tag os)
all_notifys tag [] = tt
all_notifys tag (o ∷ os) = by (notifies tag o) refl (all_notifys tag os)
  where
    by : (b : Bool) → notifies tag o ≡ b → AllByRecursion (λ (x : Out). notifies tag x ≡ true) (notifys tag os)
        → AllByRecursion (λ (x : Out). notifies tag x ≡ true) (if b then o ∷ notifys tag os else notifys tag os)
    by true is all = (is, all)
    by false is all = all

-- a NOTIFY of a dialog has its tag
notifies_tag : (tag : List ℕ) (o : Out) → notifies tag o ≡ true → tag_in o ≡ tag
notifies_tag tag (out.Answer to octets) is = absurd cc
notifies_tag tag (out.Notify to number terminated named note octets) is = (bytes_eq-Decides named tag).0 is
notifies_tag tag (out.Start named refer_to) is = absurd cc

notifies_some : (tag : List ℕ) (o : Out) → notifies tag o ≡ true → is_some (notice_of o) ≡ true
notifies_some tag (out.Answer to octets) is = absurd cc
notifies_some tag (out.Notify to number terminated named note octets) is = refl
notifies_some tag (out.Start named refer_to) is = absurd cc

-- a NOTIFY alone
notify_alone : (tag : List ℕ) (o : Out) → is_some (notice_of o) ≡ true → notifys tag (o ∷ []) ≡ of_dialog tag (o ∷ [])
notify_alone tag (out.Answer to octets) is = absurd cc
notify_alone tag (out.Notify to number terminated named note octets) is = refl
notify_alone tag (out.Start named refer_to) is = absurd cc

released_more : (tag : List ℕ) (a b : List Act) → of_dialog tag (released (a ++ b)) ≡ of_dialog tag (released a) ++ of_dialog tag (released b)
released_more tag a b = ap (of_dialog tag) (filter_map-append let_go a b) ∙ filter-append (λ (o : Out). bytes_eq (tag_in o) tag) (released a) (released b)

held_more : (tag : List ℕ) (a b : List Act) → of_dialog tag (held (a ++ b)) ≡ of_dialog tag (held a) ++ of_dialog tag (held b)
held_more tag a b = ap (of_dialog tag) (filter_map-append held_back a b) ∙ filter-append (λ (o : Out). bytes_eq (tag_in o) tag) (held a) (held b)

-- ---- one act more

-- a beginning of what was done and one act more
beginnings : (acts : List Act) (a : Act) (before after : List Act) → acts ++ a ∷ [] ≡ before ++ after
    → (before ≡ acts ++ a ∷ []) ⊎ ((rest : List Act) × (acts ≡ before ++ rest))
beginnings acts a [] after e = inr (acts, refl)
beginnings [] a (b ∷ before) after e = inl (whole before after e)
  where
    whole : (before after : List Act) → a ∷ [] ≡ b ∷ (before ++ after) → b ∷ before ≡ a ∷ []
    whole [] after e = (let same : a ≡ b = cc in ap (λ (x : Act). x ∷ []) (sym same))
    whole (x ∷ before) after e = absurd cc
beginnings (x ∷ acts) a (b ∷ before) after e =
    let same : x ≡ b = cc in
    let rest : acts ++ a ∷ [] ≡ before ++ after = cc in
    elim (beginnings acts a before after rest) [
      | inl all ↦ inl (ap (λ (l : List Act). b ∷ l) all ∙ ap (λ (y : Act). y ∷ (acts ++ a ∷ [])) (sym same))
      | inr is ↦ inr (is.0, ap (λ (l : List Act). x ∷ l) is.1 ∙ ap (λ (y : Act). y ∷ (before ++ is.0)) same)
    ]

sent_more : (tag : List ℕ) (a b : List Act) → notifys tag (sent_first (a ++ b)) ≡ notifys tag (sent_first a) ++ notifys tag (sent_first b)
sent_more tag a b = ap (notifys tag) (filter_map-append leaves a b) ∙ filter-append (notifies tag) (sent_first a) (sent_first b)

taken_more : (tag : List ℕ) (a b : List Act) → notifys tag (taken_outs (a ++ b)) ≡ notifys tag (taken_outs a) ++ notifys tag (taken_outs b)
taken_more tag a b =
    let outs_of : Out × Fate → Out = λ x. x.0 in
    ap (λ l. notifys tag (map outs_of l)) (filter_map-append fate_of a b) ∙ ap (notifys tag) (map-append outs_of (fates a) (fates b))
    ∙ filter-append (notifies tag) (taken_outs a) (taken_outs b)

-- what left of a dialog, and what came of it
module _ (left came : List Act → List Out) (left_more : (a b : List Act) → left (a ++ b) ≡ left a ++ left b)
    (came_more : (a b : List Act) → came (a ++ b) ≡ came a ++ came b) (v v' : List Out) (a : Act) (moves : IsPart (left (a ∷ []) ++ v') (v ++ came (a ∷ []))) where
  -- by one act more what was first leaves, or what is last then comes
  order_then : (acts : List Act) → IsPart (left acts ++ v) (came acts) → IsPart (left (acts ++ a ∷ []) ++ v') (came (acts ++ a ∷ []))
  order_then acts is =
      let l : List Out = left acts in let l1 : List Out = left (a ∷ []) in let k : List Out = came acts in let k1 : List Out = came (a ∷ []) in
      let here : IsPart (l ++ (l1 ++ v')) (l ++ (v ++ k1)) = front l (l1 ++ v') (v ++ k1) moves in
      let was : IsPart ((l ++ v) ++ k1) (k ++ k1) = behind (l ++ v) k k1 is in
      let before : IsPart (l ++ (v ++ k1)) (k ++ k1) = subst (λ (x : List Out). IsPart x (k ++ k1)) (append_assoc l v k1) was in
      let all : IsPart (l ++ (l1 ++ v')) (k ++ k1) = part_more (l ++ (l1 ++ v')) (l ++ (v ++ k1)) (k ++ k1) here before in
      subst (λ (x : List Out). IsPart x (came (acts ++ a ∷ []))) (sym (ap (λ (x : List Out). x ++ v') (left_more acts (a ∷ [])) ∙ append_assoc l l1 v'))
      (subst (λ (x : List Out). IsPart (l ++ (l1 ++ v')) x) (sym (came_more acts (a ∷ []))) all)

  -- so at every moment
  always_then : (acts : List Act) → IsPart (left acts ++ v) (came acts) → ((before after : List Act) → acts ≡ before ++ after → IsPart (left before) (came before))
      → (before after : List Act) → acts ++ a ∷ [] ≡ before ++ after → IsPart (left before) (came before)
  always_then acts is so_far before after e = elim (beginnings acts a before after e) [
    | inl all ↦ subst (λ (l : List Act). IsPart (left l) (came l)) (sym all)
        (part_more (left (acts ++ a ∷ [])) (left (acts ++ a ∷ []) ++ v') (came (acts ++ a ∷ [])) (first_part (left (acts ++ a ∷ [])) v') (order_then acts is))
    | inr some ↦ so_far before some.0 some.1
  ]

-- it releases what was first, or holds back what is last then; and what goes out first by it was taken first, or what is taken is last
module _ (w w' : Waits) (a : Act)
    (moves : (tag : List ℕ) → IsPart (of_dialog tag (released (a ∷ [])) ++ w' tag) (w tag ++ of_dialog tag (held (a ∷ []))))
    (goes : (tag : List ℕ) → IsPart (notifys tag (sent_first (a ∷ [])) ++ w' tag) (w tag ++ notifys tag (taken_outs (a ∷ [])))) where
  abbrev was_released : List ℕ → List Act → List Out
  was_released tag acts = of_dialog tag (released acts)

  abbrev was_held : List ℕ → List Act → List Out
  was_held tag acts = of_dialog tag (held acts)

  abbrev was_sent : List ℕ → List Act → List Out
  was_sent tag acts = notifys tag (sent_first acts)

  abbrev was_taken : List ℕ → List Act → List Out
  was_taken tag acts = notifys tag (taken_outs acts)

  pub one_on : HoldsOn (a ∷ []) w w'
  one_on acts is = record {
    so_far = λ before after e tag.
        always_then (was_released tag) (was_held tag) (released_more tag) (held_more tag) (w tag) (w' tag) a (moves tag) acts (is.in_order tag)
        (λ first rest p. is.so_far first rest p tag) before after e;
    in_order = λ tag.
        order_then (was_released tag) (was_held tag) (released_more tag) (held_more tag) (w tag) (w' tag) a (moves tag) acts (is.in_order tag);
    none_overtook = λ before after e tag.
        always_then (was_sent tag) (was_taken tag) (sent_more tag) (taken_more tag) (w tag) (w' tag) a (goes tag) acts (is.behind_sent tag)
        (λ first rest p. is.none_overtook first rest p tag) before after e;
    behind_sent = λ tag.
        order_then (was_sent tag) (was_taken tag) (sent_more tag) (taken_more tag) (w tag) (w' tag) a (goes tag) acts (is.behind_sent tag);
  }

-- ---- several acts

pub none_held : (w : Waits) → ((tag : List ℕ) → w tag ≡ []) → AreHeld [] w
none_held w none = record {
  so_far = λ before after e tag. nothing before after e tag;
  in_order = λ tag. none tag;
  none_overtook = λ before after e tag. nothing_sent before after e tag;
  behind_sent = λ tag. none tag;
}
  where
    nothing : (before after : List Act) → [] ≡ before ++ after → (tag : List ℕ) → IsPart (of_dialog tag (released before)) (of_dialog tag (held before))
    nothing [] after e tag = refl
    nothing (b ∷ before) after e tag = absurd cc

    nothing_sent : (before after : List Act) → [] ≡ before ++ after → (tag : List ℕ)
        → IsPart (notifys tag (sent_first before)) (notifys tag (taken_outs before))
    nothing_sent [] after e tag = refl
    nothing_sent (b ∷ before) after e tag = absurd cc

pub fewer_held : (w w' : Waits) → Fewer w w' → (acts : List Act) → AreHeld acts w → AreHeld acts w'
fewer_held w w' fewer acts is = record {
  so_far = is.so_far;
  in_order = λ tag. part_more (of_dialog tag (released acts) ++ w' tag) (of_dialog tag (released acts) ++ w tag) (of_dialog tag (held acts))
      (front (of_dialog tag (released acts)) (w' tag) (w tag) (fewer tag)) (is.in_order tag);
  none_overtook = is.none_overtook;
  behind_sent = λ tag. part_more (notifys tag (sent_first acts) ++ w' tag) (notifys tag (sent_first acts) ++ w tag) (notifys tag (taken_outs acts))
      (front (notifys tag (sent_first acts)) (w' tag) (w tag) (fewer tag)) (is.behind_sent tag);
}

pub fewer_on : (w w' : Waits) → Fewer w w' → HoldsOn [] w w'
fewer_on w w' fewer acts is = subst (λ (l : List Act). AreHeld l w') (sym (append-nil acts)) (fewer_held w w' fewer acts is)

pub on_more : (a b : List Act) (u v w : Waits) → HoldsOn a u v → HoldsOn b v w → HoldsOn (a ++ b) u w
on_more a b u v w first second acts is = subst (λ (l : List Act). AreHeld l w) (append_assoc acts a b) (second (acts ++ a) (first acts is))

-- fewer wait before it, or behind it
pub fewer_then : (a : List Act) (u v w : Waits) → Fewer u v → HoldsOn a v w → HoldsOn a u w
fewer_then a u v w fewer on = on_more [] a u v w (fewer_on u v fewer) on

pub then_fewer : (a : List Act) (u v w : Waits) → HoldsOn a u v → Fewer v w → HoldsOn a u w
then_fewer a u v w on fewer = subst (λ (l : List Act). HoldsOn l u w) (append-nil a) (on_more a [] u v w on (fewer_on v w fewer))

pub fewer_more : (u v w : Waits) → Fewer u v → Fewer v w → Fewer u w
fewer_more u v w first second tag = part_more (w tag) (v tag) (u tag) (second tag) (first tag)

pub fewer_same : (w : Waits) → Fewer w w
fewer_same w tag = same_part (w tag)

-- an act by which nothing goes out first, and that takes nothing
released_none : (a : Act) → sent_first (a ∷ []) ≡ [] → released (a ∷ []) ≡ []
released_none (Released now o fate) none = absurd cc
released_none _ none = refl

held_none : (a : Act) → taken_outs (a ∷ []) ≡ [] → held (a ∷ []) ≡ []
held_none (Held now o) none = absurd cc
held_none _ none = refl

-- where nothing leaves and nothing comes
still_part : (left came v v' : List Out) → left ≡ [] → came ≡ [] → IsPart v' v → IsPart (left ++ v') (v ++ came)
still_part left came v v' none none' part =
    subst (λ (l : List Out). IsPart (l ++ v') (v ++ came)) (sym none)
    (subst (λ (l : List Out). IsPart v' (v ++ l)) (sym none') (subst (λ (l : List Out). IsPart v' l) (sym (append-nil v)) part))

pub idle_on : (a : Act) (w w' : Waits) → sent_first (a ∷ []) ≡ [] → taken_outs (a ∷ []) ≡ [] → Fewer w w' → HoldsOn (a ∷ []) w w'
idle_on a w w' none none' fewer = one_on w w' a
    (λ tag. still_part (of_dialog tag (released (a ∷ []))) (of_dialog tag (held (a ∷ []))) (w tag) (w' tag)
    (ap (of_dialog tag) (released_none a none)) (ap (of_dialog tag) (held_none a none')) (fewer tag))
    (λ tag. still_part (notifys tag (sent_first (a ∷ []))) (notifys tag (taken_outs (a ∷ []))) (w tag) (w' tag)
    (ap (notifys tag) none) (ap (notifys tag) none') (fewer tag))

-- one that goes out at once, and passes none
pub put_on : (now : ℕ) (o : Out) (fate : Fate) (w w' : Waits) → Fewer w w' → PassesNone o w' → HoldsOn (Put now o fate ∷ []) w w'
put_on now o fate w w' fewer passes_none = one_on w w' (Put now o fate)
    (λ tag. still_part [] [] (w tag) (w' tag) refl refl (fewer tag))
    (λ tag. by tag (notifies tag o) refl)
  where
    by : (tag : List ℕ) (b : Bool) → notifies tag o ≡ b → IsPart ((if b then o ∷ [] else []) ++ w' tag) (w tag ++ (if b then o ∷ [] else []))
    by tag true is =
        let none : w' tag ≡ [] = subst (λ (t : List ℕ). w' t ≡ []) (notifies_tag tag o is) (passes_none (notifies_some tag o is)) in
        subst (λ (l : List Out). IsPart (o ∷ l) (w tag ++ o ∷ [])) (sym none) (last_part (w tag) (o ∷ []))
    by tag false is = still_part [] [] (w tag) (w' tag) refl refl (fewer tag)

pub notes_on : (notes : List Note) (w w' : Waits) → Fewer w w' → HoldsOn (map noting notes) w w'
notes_on [] w w' fewer = fewer_on w w' fewer
notes_on (n ∷ notes) w w' fewer = on_more (noting n ∷ []) (map noting notes) w w w' (idle_on (noting n) w w refl refl (fewer_same w)) (notes_on notes w w' fewer)

-- ---- what is released

module _ (now : ℕ) (tag : List ℕ) (w : Waits) where
  ahead_more : (notices : List Notice) → Fewer (ahead tag notices w) w
  ahead_more notices t = last_part (if bytes_eq tag t then outs notices else []) (w t)

  -- the first one that is to be released is a NOTIFY of the dialog, since it was taken as one
  first_notifies : (n : Notice) (notices : List Notice) (acts : List Act) → AreHeld acts (ahead tag (n ∷ notices) w) → notifies tag n.out ≡ true
  first_notifies n notices acts is =
      let own : bytes_eq tag tag ≡ true = (bytes_eq-Decides tag tag).1 refl in
      let r : List Out = notifys tag (sent_first acts) in let h : List Out = notifys tag (taken_outs acts) in
      let rest : List Out = outs notices ++ w tag in
      let all : IsPart (r ++ n.out ∷ rest) h = subst (λ (b : Bool). IsPart (r ++ ((if b then outs (n ∷ notices) else []) ++ w tag)) h) own (is.behind_sent tag) in
      let part : IsPart (n.out ∷ rest) h = part_more (n.out ∷ rest) (r ++ n.out ∷ rest) h (last_part r (n.out ∷ rest)) all in
      first_holds (λ (o : Out). notifies tag o ≡ true) n.out rest h part (all_notifys tag (taken_outs acts))

  goes_first_now : (n : Notice) (notices : List Notice) → tag_in n.out ≡ tag → (t : List ℕ)
      → IsPart (of_dialog t (n.out ∷ []) ++ ahead tag notices w t) (ahead tag (n ∷ notices) w t ++ [])
  goes_first_now n notices same t =
      subst (λ (named : List ℕ). IsPart ((if bytes_eq named t then n.out ∷ [] else []) ++ ahead tag notices w t) (ahead tag (n ∷ notices) w t ++ [])) (sym same)
      (subst (λ (l : List Out). IsPart ((if bytes_eq tag t then n.out ∷ [] else []) ++ ahead tag notices w t) l) (sym (append-nil (ahead tag (n ∷ notices) w t)))
      (by (bytes_eq tag t)))
    where
      by : (b : Bool) → IsPart ((if b then n.out ∷ [] else []) ++ ((if b then outs notices else []) ++ w t)) ((if b then outs (n ∷ notices) else []) ++ w t)
      by true = same_part (n.out ∷ (outs notices ++ w t))
      by false = same_part (w t)

  notify_first_now : (n : Notice) (notices : List Notice) → notifies tag n.out ≡ true → (t : List ℕ)
      → IsPart (notifys t (n.out ∷ []) ++ ahead tag notices w t) (ahead tag (n ∷ notices) w t ++ [])
  notify_first_now n notices ours t =
      subst (λ (l : List Out). IsPart (l ++ ahead tag notices w t) (ahead tag (n ∷ notices) w t ++ [])) (sym (notify_alone t n.out (notifies_some tag n.out ours)))
      (goes_first_now n notices (notifies_tag tag n.out ours) t)

  pub released_on : (notices : List Notice) (more : List Act) → AreReleased now notices more → HoldsOn more (ahead tag notices w) w
  released_on [] more none = subst (λ (l : List Act). HoldsOn l (ahead tag [] w) w) (sym none) (fewer_on (ahead tag [] w) w (ahead_more []))
  released_on (n ∷ notices) more is =
      let one : Act = Released now n.out is.0 in
      let first : HoldsOn (one ∷ []) (ahead tag (n ∷ notices) w) (ahead tag notices w) = λ acts held_so.
      (let ours : notifies tag n.out ≡ true = first_notifies n notices acts held_so in
      one_on (ahead tag (n ∷ notices) w) (ahead tag notices w) one
      (goes_first_now n notices (notifies_tag tag n.out ours))
      (notify_first_now n notices ours) acts held_so) in
      subst (λ (l : List Act). HoldsOn l (ahead tag (n ∷ notices) w) w) (sym is.2)
      (on_more (one ∷ []) is.1 (ahead tag (n ∷ notices) w) (ahead tag notices w) w first (released_on notices is.1 is.3))

pub released_first : (now : ℕ) (notices : List Notice) (acts : List Act) (w w' : Waits) → ReleasesFirst now notices acts w w'
    → (tag : List ℕ) → HoldsOn acts (ahead tag notices w) w'
released_first now notices acts w w' is tag =
    subst (λ (l : List Act). HoldsOn l (ahead tag notices w) w') (sym is.2)
    (on_more is.0 is.1 (ahead tag notices w) w w' (released_on now tag w notices is.0 is.3) is.4)

pub one_released : (now : ℕ) (done : List Notice) (n : Notice) (fate : Fate) (acts : List Act) → AreReleased now done acts
    → AreReleased now (done ++ n ∷ []) (acts ++ Released now n.out fate ∷ [])
one_released now [] n fate acts is = (fate, [], ap (λ (l : List Act). l ++ Released now n.out fate ∷ []) is, refl)
one_released now (m ∷ done) n fate acts is =
    let last : List Act = Released now n.out fate ∷ [] in
    (is.0, is.1 ++ last, ap (λ (l : List Act). l ++ last) is.2, one_released now done n fate is.1 is.3)

none_left : (left : List Notice) → length left ≡ 0 → left ≡ []
none_left [] e = refl
none_left (n ∷ left) e = absurd (omega arith)

-- where none is left
pub released_all : (now : ℕ) (done left all : List Notice) (acts : List Act) → done ++ left ≡ all → length left ≡ 0 → AreReleased now done acts → AreReleased now all acts
released_all now done left all acts whole none is =
    let same : done ≡ all = sym (append-nil done) ∙ ap (λ (l : List Notice). done ++ l) (sym (none_left left none)) ∙ whole in
    subst (λ (l : List Notice). AreReleased now l acts) same is

-- where nothing was let through
pub none_ahead : (notices : List Notice) (w w' : Waits) → notices ≡ [] → Fewer w w' → (tag : List ℕ) × Fewer w (ahead tag notices w')
none_ahead notices w w' none fewer = ([], subst (λ (l : List Notice). Fewer w (ahead [] l w')) (sym none) (λ t. by (bytes_eq [] t) (w t) (w' t) (fewer t)))
  where
    by : (b : Bool) (us vs : List Out) → IsPart vs us → IsPart ((if b then outs [] else []) ++ vs) us
    by true us vs h = h
    by false us vs h = h

-- where nothing waited nothing waits
pub none_fewer : (w w' : Waits) → Fewer w w' → ((tag : List ℕ) → w tag ≡ []) → (tag : List ℕ) → w' tag ≡ []
none_fewer w w' fewer none tag = subst (λ (l : List Out). IsPart (w' tag) l) (none tag) (fewer tag)

-- of dialogs of which nothing is known nothing waits
pub unknown_waits : (c : Contacts) → ((tag : List ℕ) → at c tag ≡ None) → (tag : List ℕ) → waits c tag ≡ []
unknown_waits c none tag = ap (λ (x : Option ContactSeen). outs (waiting x)) (none tag)

-- ---- what calls of first_contact leave waiting

-- what a step lets through, and then what waits, had waited before
abbrev Less : Option ContactSeen → Step → Type 0
Less c s = IsPart (outs s.through ++ outs (waiting s.contact)) (outs (waiting c))

less_if : (b : Bool) (c : Option ContactSeen) (s u : Step) → Less c s → Less c u → Less c (if b then s else u)
less_if true c s u f g = f
less_if false c s u f g = g

idle_less : (c : Option ContactSeen) → Less c (idle c)
idle_less c = same_part (outs (waiting c))

ended_less : (c : Option ContactSeen) → Less c (ended c)
ended_less c = none_part (outs (waiting c))

last_less : (c : Option ContactSeen) → Less c (opened_last c)
last_less c = all_part (outs (waiting c) ++ []) (outs (waiting c)) (append-nil (outs (waiting c)))

more_less : (c : Option ContactSeen) → Less c (opened_more c)
more_less None = idle_less None
more_less (Some c) = all_part (outs c.held ++ []) (outs c.held) (append-nil (outs c.held))

opened_less : (c : Option ContactSeen) → Less c (opened c)
opened_less c = less_if (is_ending c) c (opened_last c) (opened_more c) (last_less c) (more_less c)

-- the first one that waits goes through
to_less : (held : List Notice) (c : ContactSeen) → c.held ≡ held → Less (Some c) (passed_to held c)
to_less [] c e = ended_less (Some c)
to_less (n ∷ held) c e = all_part (n.out ∷ outs held) (outs c.held) (sym (ap outs e))

passed_less : (c : Option ContactSeen) → Less c (passed c)
passed_less None = idle_less None
passed_less (Some c) = to_less c.held c refl

heard_less : (source : Addr) (c : Option ContactSeen) → Less c (heard source c)
heard_less source c = less_if (is_open source c) c (opened c) (passed c) (opened_less c) (passed_less c)

answered_less : (number status : ℕ) (source : Addr) (c : Option ContactSeen) → Less c (answered number status source c)
answered_less number status source c =
    less_if (nat_le FINAL status) c (if status == GONE then ended c else if is_told number c then heard source c else idle c) (idle c)
    (less_if (status == GONE) c (ended c) (if is_told number c then heard source c else idle c) (ended_less c)
    (less_if (is_told number c) c (heard source c) (idle c) (heard_less source c) (idle_less c)))
    (idle_less c)

given_up_less : (number : ℕ) (c : Option ContactSeen) → Less c (given_up number c)
given_up_less number c = less_if (is_told number c) c (ended c) (idle c) (ended_less c) (idle_less c)

module _ (old new : Contacts) (tag : List ℕ) (step : Option ContactSeen → Step) (less : (c : Option ContactSeen) → Less c (step c))
    (is : IsStepped old new tag (step (at old tag))) where
  pub stepped_ahead : Fewer (waits old) (ahead tag (step (at old tag)).through (waits new))
  stepped_ahead t =
      let s : Step = step (at old tag) in
      let P : Option ContactSeen → Type 0 = λ c. IsPart ((if bytes_eq tag t then outs s.through else []) ++ outs (waiting c)) (outs (waiting (at old t))) in
      subst P (sym (is.at_tag t)) (by (bytes_eq tag t) refl)
    where
      by : (b : Bool) → bytes_eq tag t ≡ b
          → IsPart ((if b then outs (step (at old tag)).through else []) ++ outs (waiting (if b then (step (at old tag)).contact else at old t))) (outs (waiting (at old t)))
      by true e =
          let Q : List ℕ → Type 0 = λ u. IsPart (outs (step (at old tag)).through ++ outs (waiting (step (at old tag)).contact)) (outs (waiting (at old u))) in
          subst Q ((bytes_eq-Decides tag t).0 e) (less (at old tag))
      by false e = same_part (outs (waiting (at old t)))

  pub stepped_fewer : Fewer (waits old) (waits new)
  stepped_fewer = fewer_more (waits old) (ahead tag (step (at old tag)).through (waits new)) (waits new) stepped_ahead
      (λ t. last_part (if bytes_eq tag t then outs (step (at old tag)).through else []) (waits new t))

-- an answer
module _ (old new : Contacts) (tag : List ℕ) (number status : ℕ) (source : Addr) (passed_on : Passed) where
  abbrev step : Option ContactSeen → Step
  step = answered number status source

  ahead_then : (f : Option ContactSeen → Step) → ((c : Option ContactSeen) → Less c (f c)) → IsPassed old new tag (f (at old tag)) passed_on
      → Fewer (waits old) (ahead tag passed_on.through.items (waits new))
  ahead_then f less p = subst (λ (l : List Notice). Fewer (waits old) (ahead tag l (waits new))) (sym p.through) (stepped_ahead old new tag f less p.stepped)

  pub answered_ahead : IsAnswer old new tag number status source passed_on → Fewer (waits old) (ahead tag passed_on.through.items (waits new))
  answered_ahead is = elim is [
    | inl p ↦ ahead_then step (answered_less number status source) p
    | inr q ↦ ahead_then ended ended_less q.1
  ]

  pub answered_fewer : IsAnswer old new tag number status source passed_on → Fewer (waits old) (waits new)
  answered_fewer is = elim is [
    | inl p ↦ stepped_fewer old new tag step (answered_less number status source) p.stepped
    | inr q ↦ stepped_fewer old new tag ended ended_less q.1.stepped
  ]

-- the subscription is gone
pub closed_fewer : (old new : Contacts) (tag : List ℕ) → IsStepped old new tag (ended (at old tag)) → Fewer (waits old) (waits new)
closed_fewer old new tag is = stepped_fewer old new tag ended ended_less is

-- a give-up
pub given_up_fewer : (old new : Contacts) (tag : List ℕ) (number : ℕ) → IsStepped old new tag (given_up number (at old tag)) → Fewer (waits old) (waits new)
given_up_fewer old new tag number is = stepped_fewer old new tag (given_up number) (given_up_less number) is

-- behind what changes nothing
pub same_fewer : (old mid new : Contacts) → mid ≡ old → Fewer (waits mid) (waits new) → Fewer (waits old) (waits new)
same_fewer old mid new same fewer = subst (λ (c : Contacts). Fewer (waits c) (waits new)) same fewer

-- ---- an offer

-- where one goes through nothing waits of its dialog
abbrev Passes : Step → Type 0
Passes s = (m : Notice) → s.through ≡ m ∷ [] → waiting s.contact ≡ []

passes_if : (b : Bool) (s u : Step) → Passes s → Passes u → Passes (if b then s else u)
passes_if true s u f g = f
passes_if false s u f g = g

none_passes : (m : Notice) (left : List Notice) → [] ≡ m ∷ [] → left ≡ []
none_passes m left e = absurd cc

first_passes : (room : Room) (n : Notice) (c : Option ContactSeen) → Passes (goes_first room n c)
first_passes room n c = passes_if room.begins (begins_anew n c) (goes_once n c) (λ m e. refl) (λ m e. refl)

there_passes : (room : Room) (n : Notice) (c : ContactSeen) → Passes (offered_there room n c)
there_passes room n c =
    passes_if c.is_known (passes n c) (if has_place room c then waiting_step n c else drops n c) (λ m e. refl)
    (passes_if (has_place room c) (waiting_step n c) (drops n c) (λ m e. none_passes m (c.held ++ n ∷ []) e) (λ m e. none_passes m c.held e))

offered_passes : (room : Room) (n : Notice) (c : Option ContactSeen) → Passes (offered room n c)
offered_passes room n None = first_passes room n None
offered_passes room n (Some c) =
    passes_if (same_addr c.to n.to) (offered_there room n c) (goes_first room n (Some c)) (there_passes room n c) (first_passes room n (Some c))

-- else it waits last, or is dropped
abbrev Last : Notice → Option ContactSeen → Step → Type 0
Last n c s = IsPart (outs (waiting s.contact)) (outs (waiting c) ++ n.out ∷ [])

last_if : (b : Bool) (n : Notice) (c : Option ContactSeen) (s u : Step) → Last n c s → Last n c u → Last n c (if b then s else u)
last_if true n c s u f g = f
last_if false n c s u f g = g

first_last : (room : Room) (n : Notice) (c : Option ContactSeen) → Last n c (goes_first room n c)
first_last room n c =
    last_if room.begins n c (begins_anew n c) (goes_once n c) (none_part (outs (waiting c) ++ n.out ∷ [])) (none_part (outs (waiting c) ++ n.out ∷ []))

there_last : (room : Room) (n : Notice) (c : ContactSeen) → Last n (Some c) (offered_there room n c)
there_last room n c =
    last_if c.is_known n (Some c) (passes n c) (if has_place room c then waiting_step n c else drops n c) (none_part (outs c.held ++ n.out ∷ []))
    (last_if (has_place room c) n (Some c) (waiting_step n c) (drops n c)
    (all_part (outs (c.held ++ n ∷ [])) (outs c.held ++ n.out ∷ []) (map-append (λ (x : Notice). x.out) c.held (n ∷ [])))
    (first_part (outs c.held) (n.out ∷ [])))

offered_last : (room : Room) (n : Notice) (c : Option ContactSeen) → Last n c (offered room n c)
offered_last room n None = first_last room n None
offered_last room n (Some c) =
    last_if (same_addr c.to n.to) n (Some c) (offered_there room n c) (goes_first room n (Some c)) (there_last room n c) (first_last room n (Some c))

module _ (old new : Contacts) (room : Room) (n : Notice) where
  abbrev offer_step : Step
  offer_step = offered room n (at old (tag_in n.out))

  -- it goes through
  pub through_fewer : (m : Notice) → IsStepped old new (tag_in n.out) offer_step → offer_step.through ≡ m ∷ [] → Fewer (waits old) (waits new)
  through_fewer m is goes t =
      let P : Option ContactSeen → Type 0 = λ c. IsPart (outs (waiting c)) (outs (waiting (at old t))) in
      subst P (sym (is.at_tag t)) (by (bytes_eq (tag_in n.out) t))
    where
      by : (b : Bool) → IsPart (outs (waiting (if b then offer_step.contact else at old t))) (outs (waiting (at old t)))
      by true =
          subst (λ (l : List Notice). IsPart (outs l) (outs (waiting (at old t)))) (sym (offered_passes room n (at old (tag_in n.out)) m goes))
          (none_part (outs (waiting (at old t))))
      by false = same_part (outs (waiting (at old t)))

  -- and then none of its dialog waits
  pub through_none : (m : Notice) → IsStepped old new (tag_in n.out) offer_step → offer_step.through ≡ m ∷ [] → waits new (tag_in n.out) ≡ []
  through_none m is goes =
      let tag : List ℕ = tag_in n.out in
      let own : bytes_eq tag tag ≡ true = (bytes_eq-Decides tag tag).1 refl in
      ap (λ (c : Option ContactSeen). outs (waiting c)) (is.at_tag tag)
      ∙ ap (λ (b : Bool). outs (waiting (if b then offer_step.contact else at old tag))) own
      ∙ ap outs (offered_passes room n (at old tag) m goes)

  -- it doesn't, or it does
  stepped_behind : IsStepped old new (tag_in n.out) offer_step → WaitsBehind n.out (waits old) (waits new)
  stepped_behind is t =
      let P : Option ContactSeen → Type 0 = λ c. IsPart (outs (waiting c)) (outs (waiting (at old t)) ++ of_dialog t (n.out ∷ [])) in
      subst P (sym (is.at_tag t)) (by (bytes_eq (tag_in n.out) t) refl)
    where
      by : (b : Bool) → bytes_eq (tag_in n.out) t ≡ b
          → IsPart (outs (waiting (if b then offer_step.contact else at old t))) (outs (waiting (at old t)) ++ (if b then n.out ∷ [] else []))
      by true e =
          let Q : List ℕ → Type 0 = λ u. IsPart (outs (waiting offer_step.contact)) (outs (waiting (at old u)) ++ n.out ∷ []) in
          subst Q ((bytes_eq-Decides (tag_in n.out) t).0 e) (offered_last room n (at old (tag_in n.out)))
      by false e = first_part (outs (waiting (at old t))) []

  same_behind : IsSame old new → WaitsBehind n.out (waits old) (waits new)
  same_behind is t =
      subst (λ (c : Option ContactSeen). IsPart (outs (waiting c)) (outs (waiting (at old t)) ++ of_dialog t (n.out ∷ []))) (sym (is.at_tag t))
      (first_part (outs (waiting (at old t))) (of_dialog t (n.out ∷ [])))

  pub offered_behind : {E : Type 0} (r : Result Offered E) → MatchResult r (λ told. IsStepped old new (tag_in n.out) offer_step) (λ e. IsSame old new)
      → WaitsBehind n.out (waits old) (waits new)
  offered_behind (Ok told) is = stepped_behind is
  offered_behind (Err e) is = same_behind is

pub offered_through : (old new : Contacts) (room : Room) (n : Notice) (told : Offered) (m : Notice) (lost : ℕ) → told ≡ Through m lost
    → IsStepped old new (tag_in n.out) (offered room n (at old (tag_in n.out))) → IsOffered (offered room n (at old (tag_in n.out))) told
    → Fewer (waits old) (waits new)
offered_through old new room n told m lost is stepped outcome =
    let P : Offered → Type 0 = λ x. IsOffered (offered room n (at old (tag_in n.out))) x in
    let here : IsOffered (offered room n (at old (tag_in n.out))) (Through m lost) = subst P is outcome in
    through_fewer old new room n m stepped here.0

-- one that is let through at once, or isn't: then nothing changes
pub gone_on_fewer : (old new : Contacts) (tag : List ℕ) (to : Addr) (is_last goes : Bool) → (goes ≡ true → IsLetOn old new tag to is_last)
    → (goes ≡ false → IsSame old new) → Fewer (waits old) (waits new)
gone_on_fewer old new tag to is_last true let_on same =
    let room : Room = record { begins = true; first_waits = true; more_wait = true } in
    let note : KnownNote = record { watcher = []; resource = []; target = []; call_id = []; left = None } in
    let n : Notice = record { number = 0; to = to; is_last = is_last; out = out.Notify to 0 is_last tag note [] } in
    let so = let_on refl room n refl refl in through_fewer old new room n n so.0 so.1.0
gone_on_fewer old new tag to is_last false let_on same =
    λ t. subst (λ (c : Option ContactSeen). IsPart (outs (waiting c)) (waits old t)) (sym ((same refl).at_tag t)) (same_part (waits old t))

-- ---- what is held back

pub fewer_behind : (o : Out) (u v w : Waits) → Fewer u v → WaitsBehind o v w → WaitsBehind o u w
fewer_behind o u v w fewer waits_so t =
    let last : List Out = of_dialog t (o ∷ []) in
    part_more (w t) (v t ++ last) (u t ++ last) (waits_so t) (behind (v t) (u t) last (fewer t))

pub behind_fewer : (o : Out) (u v w : Waits) → WaitsBehind o u v → Fewer v w → WaitsBehind o u w
behind_fewer o u v w waits_so fewer t = part_more (w t) (v t) (u t ++ of_dialog t (o ∷ [])) (fewer t) (waits_so t)

-- one that is left to the next run
pub left_behind : (o : Out) (w w' : Waits) → Fewer w w' → WaitsBehind o w w'
left_behind o w w' fewer t = part_more (w' t) (w t) (w t ++ of_dialog t (o ∷ [])) (fewer t) (first_part (w t) (of_dialog t (o ∷ [])))

pub behind_as : (o o' : Out) (w w' : Waits) → o ≡ o' → WaitsBehind o w w' → WaitsBehind o' w w'
behind_as o o' w w' same waits_so = subst (λ (x : Out). WaitsBehind x w w') same waits_so

pub held_on : (now : ℕ) (o : Out) (w w' : Waits) → is_some (notice_of o) ≡ true → WaitsBehind o w w' → HoldsOn (Held now o ∷ []) w w'
held_on now o w w' is waits_so = one_on w w' (Held now o) (λ tag. waits_so tag)
    (λ tag. subst (λ (l : List Out). IsPart (w' tag) (w tag ++ l)) (sym (notify_alone tag o is)) (waits_so tag))

-- ---- what goes out passes none

-- it is no NOTIFY
pub unnoticed_passes : (o : Out) (w : Waits) → notice_of o ≡ None → PassesNone o w
unnoticed_passes o w none some = let is : false ≡ true = sym (ap is_some none) ∙ some in absurd cc

pub other_passes : (o : Out) (w : Waits)
    → ((to : Addr) (number : ℕ) (terminated : Bool) (tag : List ℕ) (note : KnownNote) (octets : List ℕ)
    → o ≡ out.Notify to number terminated tag note octets → ⊥)
    → PassesNone o w
other_passes (out.Answer to octets) w other = unnoticed_passes (out.Answer to octets) w refl
other_passes (out.Notify to number terminated tag note octets) w other = absurd (other to number terminated tag note octets refl)
other_passes (out.Start tag refer_to) w other = unnoticed_passes (out.Start tag refer_to) w refl

-- its address has answered
pub gone_on_passes : (o : Out) (old new : Contacts) (tag : List ℕ) (to : Addr) (is_last : Bool) → tag_in o ≡ tag
    → IsLetOn old new tag to is_last → PassesNone o (waits new)
gone_on_passes o old new tag to is_last same let_on some =
    let room : Room = record { begins = true; first_waits = true; more_wait = true } in
    let note : KnownNote = record { watcher = []; resource = []; target = []; call_id = []; left = None } in
    let n : Notice = record { number = 0; to = to; is_last = is_last; out = out.Notify to 0 is_last tag note [] } in
    let so = let_on room n refl refl in
    subst (λ (t : List ℕ). waits new t ≡ []) (sym same) (through_none old new room n n so.0 so.1.0)

-- it was offered
pub offered_passes_none : (o : Out) (old new : Contacts) (room : Room) (n : Notice) (told : Offered) (m : Notice) (lost : ℕ)
    → notice_of o ≡ Some n → told ≡ Through m lost → IsStepped old new (tag_in n.out) (offered room n (at old (tag_in n.out)))
    → IsOffered (offered room n (at old (tag_in n.out))) told → PassesNone o (waits new)
offered_passes_none o old new room n told m lost notify is stepped outcome some =
    let P : Offered → Type 0 = λ x. IsOffered (offered room n (at old (tag_in n.out))) x in
    let here : IsOffered (offered room n (at old (tag_in n.out))) (Through m lost) = subst P is outcome in
    subst (λ (x : Out). waits new (tag_in x) ≡ []) (notice_itself o n notify) (through_none old new room n m stepped here.0)

pub fewer_passes : (o : Out) (w w' : Waits) → PassesNone o w → Fewer w w' → PassesNone o w'
fewer_passes o w w' none fewer some = subst (λ (l : List Out). IsPart (w' (tag_in o)) l) (none some) (fewer (tag_in o))
