-- Who made which dialog: what outs make of it, one after the other.
use Rattle.std.proofs.Common.{◌≡◌, ◌⊎◌, ◌<◌, ◌≤◌, ◌+◌, ℕ, Bool, true, false, ◌||◌, List, [], ◌∷◌, ◌++◌, take, drop, length, get_or, Option, Some, None, refl, sym, ap, ◌∙◌, subst, inl, inr}
use Rattle.std.specs.Prelude.{option_map, unwrap_or, ◌==◌, ◌&&◌, MatchBool, if◌then◌else◌, Result, Ok, Err, OnOk, IfSome, slice_get, String, string_bytes, bytes_eq}
use Rattle.std.specs.String.{string_eq}
use Rattle.std.specs.Cmp.Lexicographic.{bytes_decides}
use Rattle.std.specs.declared.alloc.Global.{Global}
use Rattle.std.proofs.lemmas.Map.Text.{hash_map_updates_text}
use Rattle.indexmap.specs.IndexMap.{IndexMap, Updates, get_by_text}
use Rattle.std.specs.List.{list_any}
use Rattle.std.proofs.lemmas.List.{take_more, take_all, take-append-drop}
use Rattle.std.proofs.lemmas.List.Folds.{list_any-append, list_any_more}
use Rattle.sip_text.specs.declared.address.Addr.{Addr}
use Rattle.notifier_model.specs.declared.event.Note.{Note as KnownNote}
use Rattle.notifier_model.specs.declared.event.Out.{Out}
use Rattle.notifier_model.specs.declared.event.Out.TheVariants as out
use Rattle.service.specs.declared.owners.Owner.{Owner}
use Rattle.service.specs.Owners.{IsOwned, IsSwept, IsOverAt, IsNoted, AreNoted, IsUserOf, begins, ends, ended, granted, is_over, renewed, until}

-- ---- one out

pub owned_same : (t : List ℕ) (user : Option ℕ) (outs : List Out) (was : Option Owner) → IsOwned t user outs was was
owned_same t user outs None = tt
owned_same t user outs (Some o) = inl refl

owned_none : (t : List ℕ) (user : Option ℕ) (outs : List Out) (was now : Option Owner) → now ≡ None → IsOwned t user outs was now
owned_none t user outs was now none = subst (IsOwned t user outs was) (sym none) tt

pub owned_swept : (t : List ℕ) (user : Option ℕ) (outs : List Out) (second : Option ℕ) (was now : Option Owner) → IsSwept second was now → IsOwned t user outs was now
owned_swept t user outs second None now none = owned_none t user outs None now none
owned_swept t user outs second (Some o) now (inl same) = subst (IsOwned t user outs (Some o)) (sym same) (inl refl)
owned_swept t user outs second (Some o) now (inr gone) = owned_none t user outs (Some o) now gone.0

renewed_is : (t : List ℕ) (user : Option ℕ) (outs : List Out) (until : ℕ) (was : Option Owner) → IsOwned t user outs was (option_map (renewed until) was)
renewed_is t user outs until None = tt
renewed_is t user outs until (Some o) = inl refl

pub owned_renewed : (t : List ℕ) (user : Option ℕ) (outs : List Out) (until : ℕ) (is_its : Bool) (was now : Option Owner)
    → now ≡ (if is_its then option_map (renewed until) was else was) → IsOwned t user outs was now
owned_renewed t user outs until true was now is = subst (IsOwned t user outs was) (sym is) (renewed_is t user outs until was)
owned_renewed t user outs until false was now is = subst (IsOwned t user outs was) (sym is) (owned_same t user outs was)

pub owned_made : (t : List ℕ) (user until : ℕ) (o : Out) (was now : Option Owner) → now ≡ Some (record { user = user; until = until }) → begins t o ≡ true
    → IsOwned t (Some user) (o ∷ []) was now
owned_made t user until o was now made first = subst (IsOwned t (Some user) (o ∷ []) was) (sym made) (inr (refl, ap (λ b. b || false) first))

-- ---- what one makes of a dialog

pub swept_same : (second : Option ℕ) (was now : Option Owner) → now ≡ was → IsSwept second was now
swept_same second None now same = same
swept_same second (Some o) now same = inl same

pub swept_then : (second : Option ℕ) (a b c : Option Owner) → IsSwept second a b → c ≡ b → IsSwept second a c
swept_then second a b c swept same = subst (IsSwept second a) (sym same) swept

-- of this tag, or of another one
pub at_tag : (tag t : List ℕ) (there was now : Option Owner) → now ≡ (if bytes_eq tag t then there else was) → bytes_eq tag t ≡ true → now ≡ there
at_tag tag t there was now is here = is ∙ ap (λ (b : Bool). if b then there else was) here

pub elsewhere : (tag t : List ℕ) (there was now : Option Owner) → now ≡ (if bytes_eq tag t then there else was) → bytes_eq tag t ≡ false → now ≡ was
elsewhere tag t there was now is other = is ∙ ap (λ (b : Bool). if b then there else was) other

module _ (t : List ℕ) (second : Option ℕ) (to : Addr) (number : ℕ) (tag : List ℕ) (note : KnownNote) (octets : List ℕ) (was now : Option Owner) where
  abbrev told : Out
  told = out.Notify to number false tag note octets

  matched : (b : Bool) (P Q : Type 0) → (b ≡ true → P) → (b ≡ false → Q) → MatchBool b P Q
  matched true P Q here other = here refl
  matched false P Q here other = other refl

  is_granted : (user : Option ℕ) → (user ≡ None) ⊎ ((number == 1) ≡ false)
      → granted second user number (unwrap_or note.left 0) was ≡ option_map (renewed (until second (unwrap_or note.left 0))) was
  is_granted None either = refl
  is_granted (Some user) (inl none) = absurd cc
  is_granted (Some user) (inr later) =
      ap (λ (b : Bool). if b then Some (record { user = user; until = until second (unwrap_or note.left 0) })
      else option_map (renewed (until second (unwrap_or note.left 0))) was) later

  -- it is refreshed
  pub noted_renewed : (user : Option ℕ) → (user ≡ None) ⊎ ((number == 1) ≡ false)
      → now ≡ (if bytes_eq tag t then option_map (renewed (until second (unwrap_or note.left 0))) was else was) → IsNoted t second user told was now
  noted_renewed user either is =
      matched (bytes_eq tag t) _ _ (λ here. at_tag tag t _ was now is here ∙ sym (is_granted user either))
      (λ other. swept_same second was now (elsewhere tag t _ was now is other))

  -- it begins
  pub noted_begun : (user : ℕ) → (number == 1) ≡ true
      → (bytes_eq tag t ≡ true → now ≡ Some (record { user = user; until = until second (unwrap_or note.left 0) }))
      → (bytes_eq tag t ≡ false → IsSwept second was now) → IsNoted t second (Some user) told was now
  noted_begun user first made others =
      matched (bytes_eq tag t) _ _
      (λ here. made here ∙ sym (ap (λ (b : Bool). if b then Some (record { user = user; until = until second (unwrap_or note.left 0) })
      else option_map (renewed (until second (unwrap_or note.left 0))) was) first)) others

  pub owned_begun : (user : ℕ) → (number == 1) ≡ true
      → (bytes_eq tag t ≡ true → now ≡ Some (record { user = user; until = until second (unwrap_or note.left 0) }))
      → (bytes_eq tag t ≡ false → IsSwept second was now) → IsOwned t (Some user) (told ∷ []) was now
  owned_begun user first made others = by_tag (bytes_eq tag t) refl where
    by_tag : (b : Bool) → bytes_eq tag t ≡ b → IsOwned t (Some user) (told ∷ []) was now
    by_tag true here = owned_made t user (until second (unwrap_or note.left 0)) told was now (made here) (ap (λ x. x && bytes_eq tag t) first ∙ here)
    by_tag false other = owned_swept t (Some user) (told ∷ []) second was now (others other)

-- ---- one more

any_left : (t : List ℕ) (outs more : List Out) → list_any (begins t) outs ≡ true → list_any (begins t) (outs ++ more) ≡ true
any_left t outs more some = list_any-append (begins t) outs more ∙ ap (λ b. b || list_any (begins t) more) some

or_true : (b : Bool) → (b || true) ≡ true
or_true true = refl
or_true false = refl

any_right : (t : List ℕ) (outs more : List Out) → list_any (begins t) more ≡ true → list_any (begins t) (outs ++ more) ≡ true
any_right t outs more some =
    list_any-append (begins t) outs more ∙ (ap (λ b. list_any (begins t) outs || b) some ∙ or_true (list_any (begins t) outs))

-- the user was known, or is the sender
before : (t : List ℕ) (user : Option ℕ) (outs more : List Out) (a b : Option Owner) (z : Owner) → IsOwned t user outs a b → IsUserOf b z
    → IsUserOf a z ⊎ ((user ≡ Some z.user) × (list_any (begins t) (outs ++ more) ≡ true))
before t user outs more a None z first is = absurd is
before t user outs more None (Some y) z (inl first) is = absurd first
before t user outs more (Some x) (Some y) z (inl first) is = inl (is ∙ first)
before t user outs more a (Some y) z (inr sent) is = inr (sent.0 ∙ ap Some (sym is), any_left t outs more sent.1)

owned_more : (t : List ℕ) (user : Option ℕ) (outs : List Out) (o : Out) (a b c : Option Owner) → IsOwned t user outs a b → IsOwned t user (o ∷ []) b c
    → IsOwned t user (outs ++ o ∷ []) a c
owned_more t user outs o a b None first next = tt
owned_more t user outs o a b (Some z) first (inl is) = before t user outs (o ∷ []) a b z first is
owned_more t user outs o a b (Some z) first (inr sent) = inr (sent.0, any_right t outs (o ∷ []) sent.1)

pub owned_next : (t : List ℕ) (user : Option ℕ) (outs : List Out) (i : ℕ) (o : Out) (a b c : Option Owner) → i < length outs → o ≡ get_or outs i o
    → IsOwned t user (take i outs) a b → IsOwned t user (o ∷ []) b c → IsOwned t user (take (i + 1) outs) a c
owned_next t user outs i o a b c lt is first next =
    subst (λ l. IsOwned t user l a c) (sym (take_more outs i o lt))
    (owned_more t user (take i outs) (get_or outs i o) a b c first (subst (λ x. IsOwned t user (x ∷ []) b c) is next))

pub owned_all : (t : List ℕ) (user : Option ℕ) (outs : List Out) (i : ℕ) (a b : Option Owner) → length outs ≤ i → IsOwned t user (take i outs) a b → IsOwned t user outs a b
owned_all t user outs i a b high owned = subst (λ l. IsOwned t user l a b) (take_all i outs high) owned

pub owned_front : (t : List ℕ) (user : Option ℕ) (outs : List Out) (i : ℕ) (a b : Option Owner) → IsOwned t user (take i outs) a b → IsOwned t user outs a b
owned_front t user outs i a None owned = tt
owned_front t user outs i a (Some z) (inl is) = inl is
owned_front t user outs i a (Some z) (inr sent) =
    inr (sent.0, subst (λ l. list_any (begins t) l ≡ true) (take-append-drop i outs) (any_left t (take i outs) (drop i outs) sent.1))

-- ---- what all outs make of a dialog

noted_more : (t : List ℕ) (second user : Option ℕ) (outs : List Out) (o : Out) (a b c : Option Owner) → AreNoted t second user outs a b → IsNoted t second user o b c
    → AreNoted t second user (outs ++ o ∷ []) a c
noted_more t second user [] o a b c first next = (c, subst (λ m. IsNoted t second user o m c) first next, refl)
noted_more t second user (x ∷ outs) o a b c first next = (first.0, first.1, noted_more t second user outs o first.0 b c first.2 next)

pub noted_next : (t : List ℕ) (second now user : Option ℕ) (outs : List Out) (i : ℕ) (o : Out) (a b c : Option Owner) → i < length outs → o ≡ get_or outs i o
    → now ≡ second → AreNoted t second user (take i outs) a b → IsNoted t now user o b c → AreNoted t second user (take (i + 1) outs) a c
noted_next t second now user outs i o a b c lt is same first next =
    subst (λ l. AreNoted t second user l a c) (sym (take_more outs i o lt))
    (noted_more t second user (take i outs) (get_or outs i o) a b c first
    (subst (λ x. IsNoted t second user x b c) is (subst (λ s. IsNoted t s user o b c) same next)))

pub noted_all : (t : List ℕ) (second user : Option ℕ) (outs : List Out) (i : ℕ) (a b : Option Owner) → length outs ≤ i → AreNoted t second user (take i outs) a b
    → AreNoted t second user outs a b
noted_all t second user outs i a b high noted = subst (λ l. AreNoted t second user l a b) (take_all i outs high) noted

-- ---- what ended

pub ended_more : (p e : Bool) (a b c : Option Owner) → b ≡ (if p then None else a) → c ≡ (if e then None else b) → c ≡ (if p || e then None else a)
ended_more true true a b c was now = now
ended_more true false a b c was now = now ∙ was
ended_more false true a b c was now = now
ended_more false false a b c was now = now ∙ was

pub ended_next : (t : List ℕ) (outs : List Out) (i : ℕ) (o : Out) (a b c : Option Owner) → i < length outs → o ≡ get_or outs i o
    → b ≡ (if list_any (ends t) (take i outs) then None else a) → c ≡ (if ends t o then None else b) → c ≡ (if list_any (ends t) (take (i + 1) outs) then None else a)
ended_next t outs i o a b c lt is was now =
    ended_more (list_any (ends t) (take i outs)) (ends t o) a b c was now
    ∙ ap (λ (e : Bool). if e then None else a)
    (ap (λ (x : Out). list_any (ends t) (take i outs) || ends t x) is ∙ sym (list_any_more (ends t) outs i o lt))

pub ended_all : (t : List ℕ) (outs : List Out) (i : ℕ) (a b : Option Owner) → length outs ≤ i → b ≡ (if list_any (ends t) (take i outs) then None else a)
    → b ≡ ended t outs a
ended_all t outs i a b high ended = subst (λ l. b ≡ (if list_any (ends t) l then None else a)) (take_all i outs high) ended

pub owned_ended : (t : List ℕ) (user : Option ℕ) (outs : List Out) (e : Bool) (a b c : Option Owner) → IsOwned t user outs a b → c ≡ (if e then None else b)
    → IsOwned t user outs a c
owned_ended t user outs true a b c owned now = owned_none t user outs a c now
owned_ended t user outs false a b c owned now = subst (IsOwned t user outs a) (sym now) owned

pub none_ended : (e : Bool) (b c : Option Owner) → c ≡ (if e then None else b) → e ≡ true → c ≡ None
none_ended e b c now is = now ∙ ap (λ (x : Bool). if x then None else b) is

-- what holds of an `Ok` goes on from what held of it
pub on_ok : {T E : Type 0} (r : Result T E) (P Q : Type 0) → (P → Q) → OnOk r P → OnOk r Q
on_ok (Ok v) P Q onward p = onward p
on_ok (Err e) P Q onward p = p

-- ---- swept

abbrev over_or : Option ℕ → Option Owner → Bool
over_or second None = false
over_or second (Some o) = is_over second o

still_over : (second : Option ℕ) (x y : Owner) → ◌≡◌ {A = Option Owner} (Some y) (Some x) → is_over second y ≡ true → is_over second x ≡ true
still_over second x y same over = subst (λ o. over_or second o ≡ true) same over

not_none : (y : Owner) → ◌≡◌ {A = Option Owner} (Some y) None → ⊥
not_none y e = cc

swept_none : (second : Option ℕ) (b c : Option Owner) → b ≡ None → IsSwept second b c → c ≡ None
swept_none second None c none next = next
swept_none second (Some y) c none next = absurd (not_none y none)

swept_gone : (second : Option ℕ) (x : Owner) (c : Option Owner) → IsSwept second (Some x) None → c ≡ None → IsSwept second (Some x) c
swept_gone second x c (inl first) next = absurd (not_none x (sym first))
swept_gone second x c (inr first) next = inr (next, first.1)

pub swept_more : (second : Option ℕ) (a b c : Option Owner) → IsSwept second a b → IsSwept second b c → IsSwept second a c
swept_more second None b c first next = swept_none second b c first next
swept_more second (Some x) None c first next = swept_gone second x c first next
swept_more second (Some x) (Some y) c (inl first) (inl next) = inl (next ∙ first)
swept_more second (Some x) (Some y) c (inl first) (inr next) = inr (next.0, still_over second x y first next.1)
swept_more second (Some x) (Some y) c (inr first) next = absurd (not_none y first.0)

pub swept_next : (second now : Option ℕ) (a b c : Option Owner) → now ≡ second → IsSwept second a b → IsSwept now b c → IsSwept second a c
swept_next second now a b c same first next = swept_more second a b c first (subst (λ s. IsSwept s b c) same next)

swept_one : (second : Option ℕ) (was now : Option Owner) (o : Owner) (here : Bool) → now ≡ (if here then None else was) → (here ≡ true → was ≡ Some o)
    → is_over second o ≡ true → IsSwept second was now
swept_one second was now o false is held over = swept_same second was now is
swept_one second was now o true is held over = subst (λ w. IsSwept second w now) (sym (held refl)) (inr (is, over))

module _ {S : Type 0} (second : Option ℕ) (old new : IndexMap (String Global) Owner S) where
  -- one that lives no more is taken out
  swept_out : (k : String Global) (o : Owner) → get_by_text old (string_bytes k) ≡ Some o → is_over second o ≡ true → Updates string_eq old new k None → (t : List ℕ)
      → IsSwept second (get_by_text old t) (get_by_text new t)
  swept_out k o had over updates t =
      swept_one second _ _ o (bytes_eq (string_bytes k) t) (hash_map_updates_text (string_bytes k) old new None updates t)
      (λ here. ap (get_by_text old) (sym ((bytes_decides (string_bytes k) t).0 here)) ∙ had) over

  pub swept_away : (place : ℕ) (gone : Option (String Global × Owner)) → IsOverAt second old place → gone ≡ slice_get old.entries place
      → IfSome gone (λ p. Updates string_eq old new p.0 None) → (t : List ℕ) → IsSwept second (get_by_text old t) (get_by_text new t)
  swept_away place gone over is updates t =
      let at_place : gone ≡ Some over.0 = is ∙ over.1 in
      let updated : Updates string_eq old new over.0.0 None = (let P : Option (String Global × Owner) → Type 0 = λ g. IfSome g (λ p. Updates string_eq old new p.0 None) in subst P at_place updates) in
      swept_out over.0.0 over.0.1 over.2 over.3 updated t
