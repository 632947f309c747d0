-- How many steps are kept.
use Rattle.std.proofs.Common.{◌≡◌, ◌∙◌, ℕ, ◌+◌, ◌≤◌, Bool, true, false, cond, not, ◌||◌, List, [], ◌∷◌, ◌++◌, length, map, eqb, eq-eqb, refl, sym, ap, arith}
use Rattle.std.specs.Prelude.{bytes_eq, filter}
use Rattle.std.specs.List.{list_any, IsDistinct, AllByRecursion}
use Rattle.std.specs.Cmp.Lexicographic.{nat_list_eq_equiv}
use Rattle.std.proofs.lemmas.List.{length-append, length-map}
use Rattle.std.proofs.lemmas.List.Folds.{list_any-append}
use Rattle.std.proofs.lemmas.Map.Keys.{IsDistinct-head, IsDistinct-tail, IsDistinct-cons}
use Rattle.std.proofs.lemmas.Map.Made.{length-le_from_is_member}
use Rattle.std.proofs.lemmas.Slice.Eq.{bytes_eq-Decides}
use Rattle.package.specs.Values.{Progress}
use Rattle.package.specs.Content.{is_final}
use Rattle.notifier_model.specs.declared.event.Event.{Event}
use Rattle.notifier_model.specs.declared.event.Event.TheVariants.{Request as Comes, Reply, Mail, Progress as Goes, Tick, Shut}
use Rattle.keeper.specs.Told.{Kept, told_step, told_event, without, forgotten}
use Rattle.keeper.specs.Laws.{Call, Handles, Answers, Shows, Books, Forgets, events_of, kept_after, AreOf, OneStepOfEachIsKept, FewStepsAreKept}

-- ---- lengths

fewer : (f : Progress → Bool) (ps : List Progress) → length (filter f ps) ≤ length ps
fewer f [] = omega arith
fewer f (p ∷ ps) = by (f p) (fewer f ps) where
  by : (b : Bool) → length (filter f ps) ≤ length ps → length (cond b (p ∷ filter f ps) (filter f ps)) ≤ length (p ∷ ps)
  by true le = omega (arith, le)
  by false le = omega (arith, le)

one_step_more : (p : Progress) (ps : List Progress) → length (told_step p ps) ≤ length ps + 1
one_step_more p ps = by (is_final p.code) where
  others : List Progress
  others = filter (λ q. not (bytes_eq p.tag q.tag)) ps

  by : (b : Bool) → length (cond b others (others ++ p ∷ [])) ≤ length ps + 1
  by true = let le = fewer (λ q. not (bytes_eq p.tag q.tag)) ps in omega (arith, le)
  by false =
      let le = fewer (λ q. not (bytes_eq p.tag q.tag)) ps in
      let long : length (others ++ p ∷ []) ≡ length others + 1 = length-append others (p ∷ []) in
      omega (arith, le, long)

told_few : (event : Event) (k : Kept) → length (told_event event k).steps ≤ length k.steps + 1
told_few (Comes source request) k = omega arith
told_few (Reply response) k = omega arith
told_few (Mail m) k = omega arith
told_few (Goes p) k = one_step_more p k.steps
told_few (Tick second) k = omega arith
told_few Shut k = omega arith

few : (w : ℕ) (cs : List Call) (k : Kept) → length (kept_after w k cs).steps ≤ length k.steps + length (events_of w cs)
few w [] k = omega arith
few w (Handles v event ∷ cs) k = step (eqb v w) (few w cs (told_event event k)) (few w cs k) where
  step : (b : Bool) → length (kept_after w (told_event event k) cs).steps ≤ length (told_event event k).steps + length (events_of w cs)
      → length (kept_after w k cs).steps ≤ length k.steps + length (events_of w cs)
      → length (kept_after w (cond b (told_event event k) k) cs).steps ≤ length k.steps + length (cond b (event ∷ events_of w cs) (events_of w cs))
  step true mine others = let one = told_few event k in omega (arith, mine, one)
  step false mine others = others
few w (Answers v change ∷ cs) k = step (eqb v w) (few w cs (record k { lines = k.lines + 1 })) (few w cs k) where
  step : (b : Bool) → length (kept_after w (record k { lines = k.lines + 1 }) cs).steps ≤ length k.steps + length (events_of w cs)
      → length (kept_after w k cs).steps ≤ length k.steps + length (events_of w cs)
      → length (kept_after w (cond b (record k { lines = k.lines + 1 }) k) cs).steps ≤ length k.steps + length (events_of w cs)
  step true mine others = mine
  step false mine others = others
few w (Shows clock ∷ cs) k = few w cs k
few w (Books v saved ∷ cs) k = few w cs k
few w (Forgets v tags ∷ cs) k = step (eqb v w) (few w cs (forgotten tags k)) (few w cs k) where
  step : (b : Bool) → length (kept_after w (forgotten tags k) cs).steps ≤ length (without tags k.steps) + length (events_of w cs)
      → length (kept_after w k cs).steps ≤ length k.steps + length (events_of w cs)
      → length (kept_after w (cond b (forgotten tags k) k) cs).steps ≤ length k.steps + length (events_of w cs)
  step true mine others = let le = fewer (λ p. not (list_any (bytes_eq p.tag) tags)) k.steps in omega (arith, mine, le)
  step false mine others = others

-- ---- one step of each transfer

abbrev tags_in : List Progress → List (List ℕ)
tags_in ps = map (λ (p : Progress). p.tag) ps

abbrev Lacks : List ℕ → List (List ℕ) → Type 0
Lacks t ts = AllByRecursion (λ u. bytes_eq t u ≡ false) ts

abbrev AreApart : List Progress → Type 0
AreApart ps = IsDistinct bytes_eq (tags_in ps)

lacks_filter : (f : Progress → Bool) (t : List ℕ) (ps : List Progress) → Lacks t (tags_in ps) → Lacks t (tags_in (filter f ps))
lacks_filter f t [] a = a
lacks_filter f t (p ∷ ps) a = by (f p) (lacks_filter f t ps a.1) where
  by : (b : Bool) → Lacks t (tags_in (filter f ps)) → Lacks t (tags_in (cond b (p ∷ filter f ps) (filter f ps)))
  by true rest = (a.0, rest)
  by false rest = rest

apart_filter : (f : Progress → Bool) (ps : List Progress) → AreApart ps → AreApart (filter f ps)
apart_filter f [] d = d
apart_filter f (p ∷ ps) d = by (f p) (apart_filter f ps (IsDistinct-tail bytes_eq p.tag (tags_in ps) d)) where
  by : (b : Bool) → AreApart (filter f ps) → AreApart (cond b (p ∷ filter f ps) (filter f ps))
  by true rest = IsDistinct-cons bytes_eq p.tag (tags_in (filter f ps)) (lacks_filter f p.tag ps (IsDistinct-head bytes_eq p.tag (tags_in ps) d)) rest
  by false rest = rest

lacks_push : (t : List ℕ) (ps : List Progress) (p : Progress) → Lacks t (tags_in ps) → bytes_eq t p.tag ≡ false → Lacks t (tags_in (ps ++ p ∷ []))
lacks_push t [] p a e = (e, tt)
lacks_push t (q ∷ qs) p a e = (a.0, lacks_push t qs p a.1 e)

apart_push : (ps : List Progress) (p : Progress) → AreApart ps → Lacks p.tag (tags_in ps) → AreApart (ps ++ p ∷ [])
apart_push [] p d a = IsDistinct-cons bytes_eq p.tag [] tt d
apart_push (q ∷ qs) p d a =
    IsDistinct-cons bytes_eq q.tag (tags_in (qs ++ p ∷ []))
    (lacks_push q.tag qs p (IsDistinct-head bytes_eq q.tag (tags_in qs) d) (nat_list_eq_equiv.symm q.tag p.tag ∙ a.0))
    (apart_push qs p (IsDistinct-tail bytes_eq q.tag (tags_in qs) d) a.1)

others_lack : (t : List ℕ) (ps : List Progress) → Lacks t (tags_in (filter (λ q. not (bytes_eq t q.tag)) ps))
others_lack t [] = tt
others_lack t (p ∷ ps) = by (bytes_eq t p.tag) refl (others_lack t ps) where
  others : List Progress
  others = filter (λ q. not (bytes_eq t q.tag)) ps

  by : (b : Bool) → bytes_eq t p.tag ≡ b → Lacks t (tags_in others) → Lacks t (tags_in (cond (not b) (p ∷ others) others))
  by true e rest = rest
  by false e rest = (e, rest)

apart_step : (p : Progress) (ps : List Progress) → AreApart ps → AreApart (told_step p ps)
apart_step p ps d = by (is_final p.code) where
  others : List Progress
  others = filter (λ q. not (bytes_eq p.tag q.tag)) ps

  apart : AreApart others
  apart = apart_filter (λ q. not (bytes_eq p.tag q.tag)) ps d

  by : (b : Bool) → AreApart (cond b others (others ++ p ∷ []))
  by true = apart
  by false = apart_push others p apart (others_lack p.tag ps)

apart_event : (event : Event) (k : Kept) → AreApart k.steps → AreApart (told_event event k).steps
apart_event (Comes source request) k d = d
apart_event (Reply response) k d = d
apart_event (Mail m) k d = d
apart_event (Goes p) k d = apart_step p k.steps d
apart_event (Tick second) k d = d
apart_event Shut k d = d

pub one_of_each : OneStepOfEachIsKept
one_of_each w k [] d = d
one_of_each w k (Handles v event ∷ cs) d = one_of_each w (cond (eqb v w) (told_event event k) k) cs (step (eqb v w)) where
  step : (b : Bool) → AreApart (cond b (told_event event k) k).steps
  step true = apart_event event k d
  step false = d
one_of_each w k (Answers v change ∷ cs) d = one_of_each w (cond (eqb v w) (record k { lines = k.lines + 1 }) k) cs (step (eqb v w)) where
  step : (b : Bool) → AreApart (cond b (record k { lines = k.lines + 1 }) k).steps
  step true = d
  step false = d
one_of_each w k (Shows clock ∷ cs) d = one_of_each w k cs d
one_of_each w k (Books v saved ∷ cs) d = one_of_each w k cs d
one_of_each w k (Forgets v tags ∷ cs) d = one_of_each w (cond (eqb v w) (forgotten tags k) k) cs (step (eqb v w)) where
  step : (b : Bool) → AreApart (cond b (forgotten tags k) k).steps
  step true = apart_filter (λ p. not (list_any (bytes_eq p.tag) tags)) k.steps d
  step false = d

-- ---- what is left

or_right : (a b : Bool) → b ≡ true → (a || b) ≡ true
or_right true b e = refl
or_right false b e = e

-- a tag that is left is of a step, and not gone
left : (gone : List (List ℕ)) (ps : List Progress) (t : List ℕ) → list_any (bytes_eq t) (tags_in (without gone ps)) ≡ true
    → (list_any (bytes_eq t) (tags_in ps) ≡ true) × (list_any (bytes_eq t) gone ≡ false)
left gone [] t e = absurd cc
left gone (p ∷ ps) t e = by (list_any (bytes_eq p.tag) gone) refl e (left gone ps t) where
  There : Bool → Type 0
  There same = ((same || list_any (bytes_eq t) (tags_in ps)) ≡ true) × (list_any (bytes_eq t) gone ≡ false)

  Rest : Type 0
  Rest = list_any (bytes_eq t) (tags_in (without gone ps)) ≡ true → (list_any (bytes_eq t) (tags_in ps) ≡ true) × (list_any (bytes_eq t) gone ≡ false)

  further : (same : Bool) → Rest → list_any (bytes_eq t) (tags_in (without gone ps)) ≡ true → There same
  further same rest in_rest = (or_right same (list_any (bytes_eq t) (tags_in ps)) (rest in_rest).0, (rest in_rest).1)

  this : list_any (bytes_eq p.tag) gone ≡ false → (same : Bool) → bytes_eq t p.tag ≡ same
      → (same || list_any (bytes_eq t) (tags_in (without gone ps))) ≡ true → Rest → There same
  this none true same is rest = (refl, ap (λ (u : List ℕ). list_any (bytes_eq u) gone) ((bytes_eq-Decides t p.tag).0 same) ∙ none)
  this none false same is rest = further false rest is

  by : (b : Bool) → list_any (bytes_eq p.tag) gone ≡ b
      → list_any (bytes_eq t) (tags_in (cond (not b) (p ∷ without gone ps) (without gone ps))) ≡ true → Rest → There (bytes_eq t p.tag)
  by true is in_rest rest = further (bytes_eq t p.tag) rest in_rest
  by false none in_rest rest = this none (bytes_eq t p.tag) refl in_rest rest

or_false : (a b : Bool) → (a || b) ≡ true → b ≡ false → a ≡ true
or_false true b e f = refl
or_false false b e f = absurd cc

few_left : (live gone : List (List ℕ)) (k : Kept) → AreApart k.steps → AreOf (live ++ gone) k → length (without gone k.steps) ≤ length live
few_left live gone k d all =
    let long : length (tags_in (without gone k.steps)) ≡ length (without gone k.steps) = length-map (without gone k.steps) (λ (p : Progress). p.tag) in
    let le : length (tags_in (without gone k.steps)) ≤ length live
    = length-le_from_is_member nat_list_eq_equiv (tags_in (without gone k.steps)) live (apart_filter (λ p. not (list_any (bytes_eq p.tag) gone)) k.steps d) lives in
    omega (arith, long, le)
  where
    lives : (t : List ℕ) → list_any (bytes_eq t) (tags_in (without gone k.steps)) ≡ true → list_any (bytes_eq t) live ≡ true
    lives t e =
        let is = left gone k.steps t e in
        or_false (list_any (bytes_eq t) live) (list_any (bytes_eq t) gone) (sym (list_any-append (bytes_eq t) live gone) ∙ all t is.0) is.1

pub few_kept : FewStepsAreKept
few_kept w k cs live gone d all =
    let is : kept_after w k (Forgets w gone ∷ cs) ≡ kept_after w (forgotten gone k) cs =
    ap (λ b. kept_after w (cond b (forgotten gone k) k) cs) (eq-eqb w w refl) in
    let long = ap (λ (j : Kept). length j.steps) is in
    let more : length (kept_after w (forgotten gone k) cs).steps ≤ length (without gone k.steps) + length (events_of w cs) = few w cs (forgotten gone k) in
    let left = few_left live gone k d all in
    omega (arith, long, more, left)
