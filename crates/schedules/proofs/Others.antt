-- No other worker's NOTIFYs carry the tag of a worker's subscription.
use Rattle.std.proofs.Common.{◌≡◌, ℕ, ◌<◌, ◌^◌, Bool, true, false, List, [], ◌∷◌, ◌++◌, refl, ap, sym, ◌∙◌}
use Rattle.std.specs.Prelude.{if◌then◌else◌, ◌==◌, bytes_eq}
use Rattle.std.proofs.lemmas.Slice.Eq.{bytes_eq-Decides}
use Rattle.queues.specs.declared.items.Item.{Item}
use Rattle.queues.specs.declared.items.Entry.{Entry}
use Rattle.queues.specs.declared.items.Entry.TheVariants.{Value, End}
use Rattle.queues.specs.Items.{items_of, StartsWith}
use Rattle.queues.proofs.ItemLists.{items_of_first}
use Rattle.queues.specs.Values.{values}
use Rattle.notifier_model.specs.declared.place.Place.{Place}
use Rattle.notifier_model.specs.declared.event.Event.{Event}
use Rattle.notifier_model.specs.declared.event.Out.{Out}
use Rattle.notifier_model.specs.declared.event.Out.TheVariants.{Answer, Notify, Start as Begins}
use Rattle.notifier_model.specs.Start.{Start, tag_of}
use Rattle.life.specs.Laws.{IsStart, notifies_with, IsOfALife, AreOfLives, outs}
use Rattle.life.proofs.Owners.{no_other_law}
use Rattle.life.proofs.TagTexts.{worker_of_tag}
use Rattle.schedules.proofs.Cases.{if_is}

-- ---- what another worker makes has none with this tag

-- no subscription of this place has this tag
abbrev pub IsStrange : Place → List ℕ → Type 0
IsStrange place tag = (serial : ℕ) → tag_of place serial ≡ tag → ⊥

pub others_strange : (a b : Place) (serial : ℕ) → a.worker < 2 ^ 64 → b.worker < 2 ^ 64 → (a.worker ≡ b.worker → ⊥) → IsStrange a (tag_of b serial)
others_strange a b serial p q apart s e = apart (worker_of_tag a b s serial p q e).0

not_true : (d : Bool) → (d ≡ true → ⊥) → d ≡ false
not_true true h = absurd (h refl)
not_true false h = refl

-- the tag of a NOTIFY
abbrev tag_in : Out → List ℕ
tag_in (Answer to bytes) = []
tag_in (Notify to number terminated tag note bytes) = tag
tag_in (Begins tag refer_to) = []

none_of : (start : Start) (es : List Event) (tag : List ℕ) (made : List Out) → IsStrange start.place tag → AreOfLives start es made → notifies_with tag made ≡ []
unfolding notifies_with
none_of start es tag [] strange h = refl
none_of start es tag (Answer to bytes ∷ more) strange h = none_of start es tag more strange h
none_of start es tag (Begins other refer_to ∷ more) strange h = none_of start es tag more strange h
none_of start es tag (Notify to number terminated other note bytes ∷ more) strange h =
    let of_life : IsOfALife start es (Notify to number terminated other note bytes) = h.0 in
    let own : other ≡ tag_of start.place of_life.serial = ap tag_in of_life.notify.out_is in
    let differs : bytes_eq other tag ≡ false = not_true (bytes_eq other tag) (λ e. strange of_life.serial (sym own ∙ (bytes_eq-Decides other tag).0 e)) in
    rw differs (none_of start es tag more strange h.1)

pub others_silent : (start : Start) (es : List Event) (tag : List ℕ) → IsStart start → IsStrange start.place tag → notifies_with tag (outs start es) ≡ []
others_silent start es tag ok strange = none_of start es tag (outs start es) strange (no_other_law start es ok)

-- ---- what a worker made, among what all made

nothing_left : {A : Type 0} (xs ys : List A) → xs ++ ys ≡ [] → (xs ≡ []) × (ys ≡ [])
nothing_left [] ys e = (refl, e)
nothing_left (x ∷ xs) ys e = absurd (cc)

-- of an empty list the first part is empty
pub none_first : {A : Type 0} (some all : List A) → StartsWith all some → all ≡ [] → some ≡ []
none_first some all h e = (nothing_left some h.0 (sym h.1 ∙ e)).0

pub notifies-append : (tag : List ℕ) (xs ys : List Out) → notifies_with tag (xs ++ ys) ≡ notifies_with tag xs ++ notifies_with tag ys
unfolding notifies_with
notifies-append tag [] ys = refl
notifies-append tag (Answer to bytes ∷ xs) ys = notifies-append tag xs ys
notifies-append tag (Begins other refer_to ∷ xs) ys = notifies-append tag xs ys
notifies-append tag (Notify to number terminated other note bytes ∷ xs) ys = by_tag (notifies-append tag xs ys) (bytes_eq other tag)
  where
    by_tag : notifies_with tag (xs ++ ys) ≡ notifies_with tag xs ++ notifies_with tag ys → (d : Bool) →
        (if d then Notify to number terminated other note bytes ∷ notifies_with tag (xs ++ ys) else notifies_with tag (xs ++ ys))
        ≡ (if d then Notify to number terminated other note bytes ∷ notifies_with tag xs else notifies_with tag xs) ++ notifies_with tag ys
    by_tag more true = ap (λ l. Notify to number terminated other note bytes ∷ l) more
    by_tag more false = more

-- those with this tag among the items
abbrev pub with_tag : List ℕ → List (Item Out) → List Out
with_tag tag xs = notifies_with tag (values xs)

head-with_tag : (tag : List ℕ) (x : Item Out) (xs : List (Item Out)) → with_tag tag (x ∷ xs) ≡ with_tag tag (x ∷ []) ++ with_tag tag xs
head-with_tag tag x xs = by_entry x.entry
  where
    by_entry : (entry : Entry Out) → with_tag tag (record { from = x.from; entry = entry } ∷ xs) ≡ with_tag tag (record { from = x.from; entry = entry } ∷ []) ++ with_tag tag xs
    by_entry (Value out) = notifies-append tag (out ∷ []) (values xs)
    by_entry End = notifies-append tag [] (values xs)

-- no other sender's items have any
abbrev pub IsAlone : List ℕ → ℕ → List (Item Out) → Type 0
IsAlone tag w xs = (v : ℕ) → (v == w) ≡ false → with_tag tag (items_of v xs) ≡ []

alone-rest : (tag : List ℕ) (w : ℕ) (x : Item Out) (xs : List (Item Out)) → IsAlone tag w (x ∷ xs) → IsAlone tag w xs
alone-rest tag w x xs alone v other =
    if_is (λ (l : List (Item Out)). with_tag tag l ≡ [] → with_tag tag (items_of v xs) ≡ []) (x.from == v) (x ∷ items_of v xs) (items_of v xs)
    (λ e none. (nothing_left (with_tag tag (x ∷ [])) (with_tag tag (items_of v xs)) (sym (head-with_tag tag x (items_of v xs)) ∙ none)).1)
    (λ e none. none) (alone v other)

alone-head : (tag : List ℕ) (w : ℕ) (x : Item Out) (xs : List (Item Out)) → IsAlone tag w (x ∷ xs) → (x.from == w) ≡ false → with_tag tag (x ∷ []) ≡ []
alone-head tag w x xs alone other =
    (nothing_left (with_tag tag (x ∷ [])) (with_tag tag (items_of x.from xs)) (sym (head-with_tag tag x (items_of x.from xs)) ∙ ap (with_tag tag) (sym (items_of_first x.from x xs refl)) ∙ alone x.from other)).0

-- then those of all are its own
pub own_alone : (tag : List ℕ) (w : ℕ) (xs : List (Item Out)) → IsAlone tag w xs → with_tag tag xs ≡ with_tag tag (items_of w xs)
own_alone tag w [] alone = refl
own_alone tag w (x ∷ xs) alone = by_sender (own_alone tag w xs (alone-rest tag w x xs alone))
  where
    by_sender : with_tag tag xs ≡ with_tag tag (items_of w xs) → with_tag tag (x ∷ xs) ≡ with_tag tag (items_of w (x ∷ xs))
    by_sender same = head-with_tag tag x xs ∙ if_is (λ (l : List (Item Out)). with_tag tag (x ∷ []) ++ with_tag tag xs ≡ with_tag tag l) (x.from == w) (x ∷ items_of w xs) (items_of w xs)
        (λ e. ap (λ l. with_tag tag (x ∷ []) ++ l) same ∙ sym (head-with_tag tag x (items_of w xs)))
        (λ e. ap (λ l. l ++ with_tag tag xs) (alone-head tag w x xs alone e) ∙ same)
