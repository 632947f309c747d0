-- Own events that one port sent are in its order.
use Rattle.std.proofs.Common.{◌≡◌, ◌==◌, inl, inr, ℕ, Bool, true, false, List, [], ◌∷◌, ◌++◌, refl, ap, sym, subst, ◌∙◌, append_assoc, eq-eqb}
use Rattle.std.specs.Prelude.{if◌then◌else◌}
use Rattle.sip_read.specs.declared.message.Request.{Request}
use Rattle.queues.specs.declared.items.Item.{Item}
use Rattle.queues.specs.declared.items.Entry.{Entry}
use Rattle.queues.specs.declared.items.Entry.TheVariants.{Value, End}
use Rattle.queues.specs.Items.{items_of, StartsWith}
use Rattle.queues.specs.Values.{values}
use Rattle.notifier_model.specs.declared.event.Event.{Event}
use Rattle.notifier_model.specs.Start.{Start}
use Rattle.crew.proofs.Folds.{values-append}
use Rattle.crew.specs.OneSender.{IsPart, OneSenderLaw}
use Rattle.life.specs.Notices.{newest_first, onto}
use Rattle.life.specs.Own.{is_own, own}

-- ---- lists

-- what is part of a list is part of it with more in front
part-more : (es all : List Event) (d : Event) → IsPart es all → IsPart es (d ∷ all)
part-more [] all d part = tt
part-more (e ∷ es) all d part = inr part

part-onto : (es all more : List Event) → IsPart es all → IsPart es (onto all more)
part-onto es all [] part = part
part-onto es all (d ∷ more) part = part-onto es (d ∷ all) more (part-more es all d part)

onto-append : (past xs ys : List Event) → onto past (xs ++ ys) ≡ onto (onto past xs) ys
onto-append past [] ys = refl
onto-append past (x ∷ xs) ys = onto-append (x ∷ past) xs ys

-- ---- one item after the other

module _ (port : ℕ) (start : Start) (serial : ℕ) (x : Request) where
  -- the items that were taken, behind those that were taken before
  abbrev Rest : List (Item Event) → List (Item Event) → Type 0
  Rest done more = (before later : List (Item Event)) (item : Item Event) (e : Event) →
      done ++ more ≡ before ++ item ∷ later → item.entry ≡ Value e → is_own start serial x (newest_first (values before)) e ≡ true →
      item.from ≡ port

  -- one event more: its own is the port's, and the port's may be of others
  with_event : (past sent : List Event) (e : Event) (is_here : Bool) → (is_own start serial x past e ≡ true → is_here ≡ true) → IsPart (own start serial x past) sent
      → IsPart (own start serial x (e ∷ past)) (if is_here then e ∷ sent else sent)
  unfolding own
  with_event past sent e is_here here part = by (is_own start serial x past e) is_here here
    where
      by : (b c : Bool) → (b ≡ true → c ≡ true) → IsPart (if b then e ∷ own start serial x past else own start serial x past) (if c then e ∷ sent else sent)
      by true true h = inl (refl, part)
      by true false h = absurd (let no : false ≡ true = h refl in cc)
      by false true h = part-more (own start serial x past) sent e part
      by false false h = part

  -- what is known of the items that were taken, and what is to be known once all were
  abbrev Known : List (Item Event) → List Event → Type 0
  Known done sent = IsPart (own start serial x (newest_first (values done))) sent

  abbrev Wanted : List (Item Event) → List (Item Event) → List Event → Type 0
  Wanted done more sent = IsPart (own start serial x (onto (newest_first (values done)) (values more))) (onto sent (values (items_of port more)))

  -- one item more
  one_more : (done more : List (Item Event)) (y : Item Event) (sent : List Event) → Rest done (y ∷ more) → Known done sent
      → ((now : List Event) → Known (done ++ y ∷ []) now → Wanted (done ++ y ∷ []) more now) → Wanted done (y ∷ more) sent
  one_more done more y sent only part others = by y.entry refl
    where
      past : List Event
      past = newest_first (values done)

      -- what was taken then
      grown : newest_first (values (done ++ y ∷ [])) ≡ onto past (values (y ∷ []))
      grown = ap newest_first (values-append done (y ∷ [])) ∙ onto-append [] (values done) (values (y ∷ []))

      front : (b : Bool) (e : Event) → onto sent (values (if b then record { from = y.from; entry = Value e } ∷ items_of port more else items_of port more)) ≡ onto (if b then e ∷ sent else sent) (values (items_of port more))
      front true e = refl
      front false e = refl

      at_end : (b : Bool) → onto sent (values (if b then record { from = y.from; entry = End } ∷ items_of port more else items_of port more)) ≡ onto sent (values (items_of port more))
      at_end true = refl
      at_end false = refl

      here : (e : Event) → y.entry ≡ Value e → is_own start serial x past e ≡ true → (y.from == port) ≡ true
      here e is own_e = eq-eqb y.from port (only done more y e refl is own_e)

      by : (entry : Entry Event) → y.entry ≡ entry → Wanted done (record { from = y.from; entry = entry } ∷ more) sent
      by (Value e) is =
          let one : newest_first (values (done ++ y ∷ [])) ≡ e ∷ past = grown ∙ ap (λ (t : Entry Event). onto past (values (record { from = y.from; entry = t } ∷ []))) is in
          let now : List Event = if y.from == port then e ∷ sent else sent in
          subst (λ (l : List Event). IsPart (own start serial x (onto (e ∷ past) (values more))) l) (sym (front (y.from == port) e))
          (subst (λ (l : List Event). IsPart (own start serial x (onto l (values more))) (onto now (values (items_of port more)))) one
          (others now (subst (λ (l : List Event). IsPart (own start serial x l) now) (sym one) (with_event past sent e (y.from == port) (here e is) part))))
      by End is =
          let one : newest_first (values (done ++ y ∷ [])) ≡ past = grown ∙ ap (λ (t : Entry Event). onto past (values (record { from = y.from; entry = t } ∷ []))) is in
          subst (λ (l : List Event). IsPart (own start serial x (onto past (values more))) l) (sym (at_end (y.from == port)))
          (subst (λ (l : List Event). IsPart (own start serial x (onto l (values more))) (onto sent (values (items_of port more)))) one
          (others sent (subst (λ (l : List Event). IsPart (own start serial x l) sent) (sym one) part)))

  own_part : (done more : List (Item Event)) (sent : List Event) → Rest done more → Known done sent → Wanted done more sent
  own_part done [] sent only part = part
  own_part done (y ∷ more) sent only part =
      one_more done more y sent only part
      (λ now known. own_part (done ++ y ∷ []) more now (λ before later item e is. only before later item e (sym (append_assoc done (y ∷ []) more) ∙ is)) known)

  none_yet : IsPart (own start serial x []) []
  unfolding own
  none_yet = tt

-- ---- the law

pub one_sender_law : OneSenderLaw
one_sender_law report seat start serial x heard only =
    let taken : List (Item Event) = report.receiver.taken in
    let came : List (Item Event) = items_of seat.number taken in
    let rest : StartsWith seat.sent came = heard.came.0 in
    let part : IsPart (own start serial x (newest_first (values taken))) (newest_first (values came)) =
    own_part seat.number start serial x [] taken [] only (none_yet seat.number start serial x) in
    let all : newest_first (values seat.sent) ≡ onto (newest_first (values came)) (values rest.0) =
    ap (λ (l : List (Item Event)). newest_first (values l)) rest.1 ∙ (ap newest_first (values-append came rest.0) ∙ onto-append [] (values came) (values rest.0)) in
    subst (λ (l : List Event). IsPart (own start serial x (newest_first (values taken))) l) (sym all) (part-onto (own start serial x (newest_first (values taken))) (newest_first (values came)) (values rest.0) part)
