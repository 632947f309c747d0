-- The numbers of the NOTIFYs of one subscription are 1, 2, and so on.
use Rattle.std.proofs.Common.{◌≡◌, ℕ, ◌+◌, List, [], ◌∷◌, ◌++◌, length, map, Option, Some, None, Bool, true, false, refl, sym, ◌∙◌, ap, subst, arith, length-append}
use Prim.Native.Nat.{zero, suc}
use Rattle.std.specs.Prelude.{if◌then◌else◌}
use Rattle.std.proofs.lemmas.List.{append-nil}
use Rattle.notifier_model.specs.Limits.{Limits}
use Rattle.notifier_model.specs.Start.{Start}
use Rattle.notifier_model.specs.declared.event.Event.{Event}
use Rattle.notifier_model.specs.Out.{Notification}
use Rattle.life.specs.Life.{Life, is_touched, one_if, number}
use Rattle.life.specs.Lives.{lived, life, birth_at, befell}
use Rattle.life.specs.Notices.{notice_of, notices_at, notices}
use Rattle.life.specs.Laws.{up_to, NumbersLaw}
use Rattle.life.specs.Sentences.{or_before, number_of, is_touch}
use Rattle.life.proofs.Texts.{if_is}
use Rattle.life.proofs.Deeds.{lived_is}
use Rattle.life.proofs.NextLives.{by_fate, life-next, no_life_yet, birth_of_some}

abbrev Counts : Limits → Life → Option Life → Type 0
Counts limits l None = Unit {0}
Counts limits l (Some m) = number limits m ≡ number limits l + one_if (is_touched limits m)

lived-counts : (start : Start) (s : ℕ) (past : List Event) (e : Event) (l : Life) → Counts start.place.limits l (lived start s past e l)
unfolding number
lived-counts start s past e l = lived_is start s past e l (Counts start.place.limits l) tt (λ d. refl)

number-or : (limits : Limits) (l : Life) (o : Option Life) → Counts limits l o → number_of limits (or_before o (Some l)) ≡ number limits l + one_if (is_touch limits o)
number-or limits l None c = omega arith
number-or limits l (Some m) c = c

-- a birth is number 1
number-born : (start : Start) (past : List Event) (e : Event) (l : Life) → birth_at start past e ≡ Some l → number start.place.limits l ≡ 0 + one_if (is_touched start.place.limits l)
unfolding number is_touched
number-born start past e l is = let b = birth_of_some start past e l is in subst (λ (x : Life). number start.place.limits x ≡ 0 + one_if (is_touched start.place.limits x)) (sym b.is) (unfold number in (omega arith))

-- the number rises by one exactly where it is touched
pub number-next : (start : Start) (past : List Event) (e : Event) (s : ℕ) → number_of start.place.limits (life start (e ∷ past) s) ≡ number_of start.place.limits (life start past s) + one_if (is_touch start.place.limits (befell start past e s))
number-next start past e s =
    ap (number_of start.place.limits) (life-next start past e s)
    ∙ by_fate start past e s (λ o before. number_of start.place.limits (or_before o before) ≡ number_of start.place.limits before + one_if (is_touch start.place.limits o))
    (λ unborn. refl) (λ l next begins. number-born start past e l begins) (λ l is gone. omega arith) (λ l is alive. number-or start.place.limits l (lived start s past e l) (lived-counts start s past e l))

abbrev numbers : List Notification → List ℕ
numbers ns = map (λ n. n.number) ns

numbers-append : (ns ms : List Notification) → numbers (ns ++ ms) ≡ numbers ns ++ numbers ms
numbers-append [] ms = refl
numbers-append (n ∷ ns) ms = ap (λ ys. n.number ∷ ys) (numbers-append ns ms)

numbers_at : (start : Start) (es : List Event) (o : Option Life) → numbers (notices_at start es o) ≡ (if is_touch start.place.limits o then number_of start.place.limits o ∷ [] else [])
unfolding notices_at notice_of
numbers_at start es None = refl
numbers_at start es (Some l) = if_is (λ (ns : List Notification). numbers ns ≡ (if is_touched start.place.limits l then number start.place.limits l ∷ [] else [])) (is_touched start.place.limits l) (notice_of start es l ∷ []) []
    (λ e. unfold notice_of in (rw e refl)) (λ e. rw e refl)

one_more : (limits : Limits) (o before : Option Life) (n : ℕ) → number_of limits (or_before o before) ≡ n + one_if (is_touch limits o) → up_to n ++ (if is_touch limits o then number_of limits o ∷ [] else []) ≡ up_to (number_of limits (or_before o before))
one_more limits None before n e = append-nil (up_to n) ∙ ap up_to (let f : n ≡ number_of limits before = omega arith in f)
one_more limits (Some m) before n e = by_touched (is_touched limits m) e
  where
    by_touched : (d : Bool) → number limits m ≡ n + one_if d → up_to n ++ (if d then number limits m ∷ [] else []) ≡ up_to (number limits m)
    by_touched true e = let f : number limits m ≡ suc n = omega arith in rw f refl
    by_touched false e = append-nil (up_to n) ∙ ap up_to (let f : n ≡ number limits m = omega arith in f)

nothing_yet : (start : Start) (s : ℕ) → up_to (number_of start.place.limits (life start [] s)) ≡ []
nothing_yet start s = rw (no_life_yet start s) refl

pub numbers_rise : (start : Start) (s : ℕ) (past : List Event) → numbers (notices start s past) ≡ up_to (number_of start.place.limits (life start past s))
unfolding notices
numbers_rise start s [] = sym (nothing_yet start s)
numbers_rise start s (e ∷ past) =
    rw (numbers-append (notices start s past) (notices_at start (e ∷ past) (befell start past e s)), numbers_rise start s past, numbers_at start (e ∷ past) (befell start past e s), life-next start past e s)
    (one_more start.place.limits (befell start past e s) (life start past s) (number_of start.place.limits (life start past s)) (ap (number_of start.place.limits) (sym (life-next start past e s)) ∙ number-next start past e s))

length-up_to : (n : ℕ) → length (up_to n) ≡ n
length-up_to zero = refl
length-up_to (suc n) = length-append (up_to n) (suc n ∷ []) ∙ (let e = length-up_to n in omega arith)

length-numbers : (ns : List Notification) → length (numbers ns) ≡ length ns
length-numbers [] = refl
length-numbers (n ∷ ns) = ap suc (length-numbers ns)

pub numbers_law : NumbersLaw
numbers_law start s past =
    let rise = numbers_rise start s past in
    rise ∙ ap up_to (sym (length-up_to (number_of start.place.limits (life start past s))) ∙ (ap length (sym rise) ∙ length-numbers (notices start s past)))
