-- The list of lives, by serial, and what holds of each.
use Rattle.std.proofs.Common.{◌≡◌, ℕ, ◌+◌, ◌<◌, ◌≤◌, List, [], ◌∷◌, ◌++◌, length, get_or, Option, Some, None, Bool, true, false, not, ◌&&◌, refl, sym, ◌∙◌, ap, subst, ◌⊎◌, inl, inr, arith, length-append}
use Prim.Native.Nat.{zero, suc}
use Rattle.std.specs.Prelude.{if◌then◌else◌, ◌==◌, ◌||◌, nat_lt, nat_le, is_some, is_none, slice_get, option_to_list, option_and_then, unwrap_or}
use Rattle.std.proofs.lemmas.Bool.Decides.{nat_tests}
use Rattle.std.proofs.lemmas.Option.{slice_get_past, slice_get_cases}
use Rattle.life.proofs.Texts.{Bytes, not_true}
use Rattle.sip_text.specs.declared.address.Addr.{Addr}
use Rattle.sip_read.specs.declared.message.Request.{Request}
use Rattle.notifier_model.specs.Limits.{Limits, AreLimits}
use Rattle.notifier_model.specs.Start.{Start}
use Rattle.notifier_model.specs.declared.event.Event.{Event}
use Rattle.notifier_model.specs.declared.event.Event.TheVariants.{Request as Comes, Reply as Replies, Mail as Mails, Progress as Progresses, Tick as Ticks, Shut as Shuts}
use Rattle.notifier_model.specs.Requests.{birth_of as birth_of_request, needs_place, is_full}
use Rattle.life.specs.Past.{now, fits}
use Rattle.life.specs.Life.{Life, Born, is_gone, one_if}
use Rattle.life.specs.Lives.{when, lived, count_alive, is_birth, begun, befalls, go_on, after, lives, births, life, birth_at, befell}
use Rattle.life.specs.Sentences.{or_before}

-- ---- the list, by serial

length-go_on : (start : Start) (past : List Event) (e : Event) (k : ℕ) (ls : List Life) → length (go_on start past e k ls) ≡ length ls
unfolding go_on
length-go_on start past e k [] = refl
length-go_on start past e k (l ∷ ls) = ap suc (length-go_on start past e (k + 1) ls)

length-option : (o : Option Life) → length (option_to_list o) ≡ one_if (is_some o)
length-option None = refl
length-option (Some l) = refl

pub births-next : (start : Start) (past : List Event) (e : Event) → births start (e ∷ past) ≡ births start past + one_if (is_some (birth_at start past e))
unfolding births birth_at lives after
births-next start past e =
    rw (length-append (go_on start past e 1 (lives start past)) (option_to_list (begun start past (lives start past) e)), length-go_on start past e 1 (lives start past), length-option (begun start past (lives start past) e)) refl

pub births-le : (start : Start) (past : List Event) (e : Event) → births start past ≤ births start (e ∷ past)
births-le start past e = rw (births-next start past e) (omega arith)

pub births-of_birth : (start : Start) (past : List Event) (e : Event) → is_some (birth_at start past e) ≡ true → births start (e ∷ past) ≡ births start past + 1
births-of_birth start past e h = rw (births-next start past e, h) refl

pub births-of_none : (start : Start) (past : List Event) (e : Event) → birth_at start past e ≡ None → births start (e ∷ past) ≡ births start past
births-of_none start past e h = rw (births-next start past e, h) (omega arith)

life-zero : (start : Start) (past : List Event) → life start past 0 ≡ None
unfolding life
life-zero start past = refl

life-past : (start : Start) (past : List Event) (s : ℕ) → births start past < s → life start past s ≡ None
unfolding births life
life-past start past zero h = refl
life-past start past (suc n) h = slice_get_past (lives start past) n (omega arith)

-- no life has serial 0, or one above the births
pub no_life : (start : Start) (past : List Event) (s : ℕ) → (s ≡ 0) ⊎ (births start past < s) → life start past s ≡ None
no_life start past s (inl z) = subst (λ (n : ℕ). life start past n ≡ None) (sym z) (life-zero start past)
no_life start past s (inr lt) = life-past start past s lt

pub no_life_yet : (start : Start) (s : ℕ) → life start [] s ≡ None
unfolding life lives
no_life_yet start zero = refl
no_life_yet start (suc n) = refl

-- one that has a life isn't the next
pub not_next : (start : Start) (past : List Event) (s : ℕ) (l : Life) → life start past s ≡ Some l → (s == births start past + 1) ≡ false
not_next start past s l is = not_true (s == births start past + 1) (λ next. absurd (let lt : births start past < s = grind (arith, nat_tests) in let f : Some l ≡ None = sym is ∙ life-past start past s lt in cc))

-- what befalls one that isn't born yet, and one that is
pub befell-unborn : (start : Start) (past : List Event) (e : Event) (s : ℕ) → life start past s ≡ None → befell start past e s ≡ (if s == births start past + 1 then birth_at start past e else None)
unfolding befell
befell-unborn start past e s none = rw none refl

pub befell-born : (start : Start) (past : List Event) (e : Event) (s : ℕ) (l : Life) → life start past s ≡ Some l → befell start past e s ≡ (if is_gone start.place.limits l then None else lived start s past e l)
unfolding befell befalls
befell-born start past e s l is = rw (not_next start past s l is, is) refl

-- ---- one event more

-- what becomes of the n-th of these, and where a new one is put
nth-within : (start : Start) (past : List Event) (e : Event) (k n : ℕ) (ls new : List Life) (l : Life) → slice_get ls n ≡ Some l → slice_get (go_on start past e k ls ++ new) n ≡ Some (unwrap_or (befalls start (k + n) past e l) l)
unfolding go_on
nth-within start past e k n [] new l h = absurd (cc)
nth-within start past e k zero (first ∷ ls) new l h =
    let same : first ≡ l = cc in
    let z : k + 0 ≡ k = omega arith in
    rw (z, same) refl
nth-within start past e k (suc n) (first ∷ ls) new l h =
    let s : (k + 1) + n ≡ k + suc n = omega arith in
    subst (λ (i : ℕ). slice_get (go_on start past e (k + 1) ls ++ new) n ≡ Some (unwrap_or (befalls start i past e l) l)) s (nth-within start past e (k + 1) n ls new l h)

nth-new : (ls new : List Life) (n : ℕ) → length ls ≡ n → slice_get (ls ++ new) n ≡ slice_get new 0
nth-new [] new n h = rw (← h) refl
nth-new (l ∷ ls) new zero h = absurd (omega arith)
nth-new (l ∷ ls) new (suc n) h = nth-new ls new n (omega arith)

first-new : (o : Option Life) → slice_get (option_to_list o) 0 ≡ or_before o None
first-new None = refl
first-new (Some l) = refl

some-or : (o : Option Life) (l : Life) → Some (unwrap_or o l) ≡ or_before o (Some l)
some-or None l = refl
some-or (Some m) l = refl

few : (o : Option Life) → length (option_to_list o) ≤ 1
few None = omega arith
few (Some l) = omega arith

next-born : (start : Start) (past : List Event) (e : Event) (n : ℕ) (l : Life) → slice_get (lives start past) n ≡ Some l → life start (e ∷ past) (suc n) ≡ or_before (if is_gone start.place.limits l then None else lived start (suc n) past e l) (Some l)
unfolding life lives after befalls
next-born start past e n l is =
    nth-within start past e 1 n (lives start past) (option_to_list (begun start past (lives start past) e)) l is
    ∙ (let s : 1 + n ≡ suc n = omega arith in rw s (some-or (if is_gone start.place.limits l then None else lived start (suc n) past e l) l))

next-unborn : (start : Start) (past : List Event) (e : Event) (n : ℕ) → length (lives start past) ≤ n → (d : Bool) → (n == length (lives start past)) ≡ d → life start (e ∷ past) (suc n) ≡ or_before (if d then birth_at start past e else None) None
unfolding birth_at life lives after
next-unborn start past e n le true h =
    let at : length (go_on start past e 1 (lives start past)) ≡ n = (let is : n ≡ length (lives start past) = grind (arith, nat_tests) in length-go_on start past e 1 (lives start past) ∙ sym is) in
    nth-new (go_on start past e 1 (lives start past)) (option_to_list (begun start past (lives start past) e)) n at ∙ first-new (begun start past (lives start past) e)
next-unborn start past e n le false h = slice_get_past (go_on start past e 1 (lives start past) ++ option_to_list (begun start past (lives start past) e)) n beyond
  where
    above : length (lives start past) < n
    above = grind (arith, nat_tests)

    beyond : length (go_on start past e 1 (lives start past) ++ option_to_list (begun start past (lives start past) e)) ≤ n
    beyond =
        rw (length-append (go_on start past e 1 (lives start past)) (option_to_list (begun start past (lives start past) e)), length-go_on start past e 1 (lives start past))
        (let one = few (begun start past (lives start past) e) in let lt = above in omega arith)

pub life-next : (start : Start) (past : List Event) (e : Event) (s : ℕ) → life start (e ∷ past) s ≡ or_before (befell start past e s) (life start past s)
life-next start past e zero =
    let no : (0 == births start past + 1) ≡ false = grind (arith, nat_tests) in
    rw (befell-unborn start past e 0 (life-zero start past), no, life-zero start past, life-zero start (e ∷ past)) refl
life-next start past e (suc n) = by_place (slice_get_cases (lives start past) n).1
  where
    by_place : ((l : Life) × (n < length (lives start past)) × (slice_get (lives start past) n ≡ Some l) × (get_or (lives start past) n l ≡ l)) ⊎ ((length (lives start past) ≤ n) × (slice_get (lives start past) n ≡ None))
        → life start (e ∷ past) (suc n) ≡ or_before (befell start past e (suc n)) (life start past (suc n))
    by_place (inl p) =
        let is : life start past (suc n) ≡ Some p.0 = (unfold life in p.2) in
        rw (befell-born start past e (suc n) p.0 is, is) (next-born start past e n p.0 p.2)
    by_place (inr p) =
        let is : life start past (suc n) ≡ None = (unfold life in p.1) in
        let next : (suc n == births start past + 1) ≡ (n == length (lives start past)) = (unfold births in grind (arith, nat_tests)) in
        rw (befell-unborn start past e (suc n) is, is, next) (next-unborn start past e n p.0 (n == length (lives start past)) refl)

-- ---- what befalls each

-- at an event with no birth
pub befell-none : (start : Start) (past : List Event) (e : Event) (s : ℕ) → birth_at start past e ≡ None → befell start past e s ≡ option_and_then (befalls start s past e) (life start past s)
unfolding befell
befell-none start past e s none = by_next (s == births start past + 1) refl
  where
    by_next : (d : Bool) → (s == births start past + 1) ≡ d → (if d then birth_at start past e else option_and_then (befalls start s past e) (life start past s)) ≡ option_and_then (befalls start s past e) (life start past s)
    by_next true next = let lt : births start past < s = grind (arith, nat_tests) in rw (none, life-past start past s lt) refl
    by_next false next = refl

-- What befalls a subscription, beside its life before: it isn't born yet; it is born here; it is gone; or it lives.
pub by_fate : (start : Start) (past : List Event) (e : Event) (s : ℕ) (Q : Option Life → Option Life → Type 0)
    → (((s == births start past + 1) && is_some (birth_at start past e)) ≡ false → Q None None)
    → ((l : Life) → (s == births start past + 1) ≡ true → birth_at start past e ≡ Some l → Q (Some l) None)
    → ((l : Life) → life start past s ≡ Some l → is_gone start.place.limits l ≡ true → Q None (Some l))
    → ((l : Life) → life start past s ≡ Some l → is_gone start.place.limits l ≡ false → Q (lived start s past e l) (Some l))
    → Q (befell start past e s) (life start past s)
by_fate start past e s Q unborn born gone lives = by_life (life start past s) refl
  where
    by_birth : (d : Bool) (o : Option Life) → (s == births start past + 1) ≡ d → birth_at start past e ≡ o → Q (if d then o else None) None
    by_birth true (Some l) next is = born l next is
    by_birth true None next is = unborn (rw (next, is) refl)
    by_birth false o next is = unborn (rw next refl)

    by_gone : (l : Life) → life start past s ≡ Some l → (d : Bool) → is_gone start.place.limits l ≡ d → Q (if d then None else lived start s past e l) (Some l)
    by_gone l is true g = gone l is g
    by_gone l is false g = lives l is g

    by_life : (o : Option Life) → life start past s ≡ o → Q (befell start past e s) (life start past s)
    by_life None is = rw (befell-unborn start past e s is, is) (by_birth (s == births start past + 1) (birth_at start past e) refl refl)
    by_life (Some l) is = rw (befell-born start past e s l is, is) (by_gone l is (is_gone start.place.limits l) refl)

-- this holds of what became of it, else of itself
abbrev pub After : (Life → Type 0) → Life → Option Life → Type 0
After P l None = P l
After P l (Some m) = P m

-- What holds at each birth, of each living one after what befalls it, and of each that is gone after any event, holds of each
-- life.
pub each_life : (start : Start) (P : List Event → ℕ → Life → Type 0)
    → ((past : List Event) (e : Event) (l : Life) → birth_at start past e ≡ Some l → P (e ∷ past) (births start past + 1) l)
    → ((past : List Event) (e : Event) (s : ℕ) (l : Life) → life start past s ≡ Some l → P past s l → is_gone start.place.limits l ≡ false → After (P (e ∷ past) s) l (lived start s past e l))
    → ((past : List Event) (e : Event) (s : ℕ) (l : Life) → P past s l → is_gone start.place.limits l ≡ true → P (e ∷ past) s l)
    → (past : List Event) (s : ℕ) (l : Life) → life start past s ≡ Some l → P past s l
each_life start P born on stays [] s l is = absurd (let none : life start [] s ≡ None = no_life_yet start s in cc)
each_life start P born on stays (e ∷ past) s l is = next (λ k at. each_life start P born on stays past s k at) (sym (life-next start past e s) ∙ is)
  where
    become : (k : Life) (o : Option Life) → After (P (e ∷ past) s) k o → or_before o (Some k) ≡ Some l → P (e ∷ past) s l
    become k None holds h = let same : k ≡ l = cc in subst (P (e ∷ past) s) same holds
    become k (Some m) holds h = let same : m ≡ l = cc in subst (P (e ∷ past) s) same holds

    next : ((k : Life) → life start past s ≡ Some k → P past s k) → or_before (befell start past e s) (life start past s) ≡ Some l → P (e ∷ past) s l
    next before = by_fate start past e s (λ (o b : Option Life). or_before o b ≡ Some l → P (e ∷ past) s l)
        (λ unborn h. absurd (cc))
        (λ k next begins h. let same : k ≡ l = cc in let at : s ≡ births start past + 1 = grind (arith, nat_tests) in subst (P (e ∷ past) s) same (subst (λ (n : ℕ). P (e ∷ past) n k) (sym at) (born past e k begins)))
        (λ k at gone. become k None (stays past e s k (before k at) gone))
        (λ k at lives. become k (lived start s past e k) (on past e s k at (before k at) lives))

-- ---- the birth here

-- a birth, by the tests on its request
pub record Birth (start : Start) (past : List Event) (e : Event) (l : Life) : Type 0 where
  pub source : Addr
  pub request : Request
  pub event : e ≡ Comes source request
  pub is : l ≡ Born (now past) source request
  pub no_tag : request.head.to.tag ≡ None
  pub fits : fits start past request ≡ true
  pub room : is_full start.place.limits (births start past + 1) (count_alive start.place.limits (lives start past)) request ≡ false

birth_by_tests : (start : Start) (past : List Event) (source : Addr) (r : Request) (l : Life) → birth_at start past (Comes source r) ≡ Some l → Birth start past (Comes source r) l
unfolding birth_at begun is_birth births
birth_by_tests start past source r l h = by_tests r.head.to.tag (fits start past r) (is_full start.place.limits (length (lives start past) + 1) (count_alive start.place.limits (lives start past)) r) refl refl refl h
  where
    by_tests : (o : Option Bytes) (a b : Bool) → r.head.to.tag ≡ o → fits start past r ≡ a → is_full start.place.limits (length (lives start past) + 1) (count_alive start.place.limits (lives start past)) r ≡ b → when (is_none o && (a && not b)) (Born (now past) source r) ≡ Some l → Birth start past (Comes source r) l
    by_tests None true false e f g h = record { source = source; request = r; event = refl; is = (let x : l ≡ Born (now past) source r = cc in x); no_tag = e; fits = f; room = g }
    by_tests (Some tag) a b e f g h = absurd (cc)
    by_tests None true true e f g h = absurd (cc)
    by_tests None false b e f g h = absurd (cc)

pub birth_of_some : (start : Start) (past : List Event) (e : Event) (l : Life) → birth_at start past e ≡ Some l → Birth start past e l
unfolding birth_at begun
birth_of_some start past (Comes source r) l h = birth_by_tests start past source r l h
birth_of_some start past (Replies r) l h = absurd (cc)
birth_of_some start past (Mails m) l h = absurd (cc)
birth_of_some start past (Progresses p) l h = absurd (cc)
birth_of_some start past (Ticks t) l h = absurd (cc)
birth_of_some start past Shuts l h = absurd (cc)

-- no more serials than there may be
full_above : (limits : Limits) (n alive : ℕ) (r : Request) → is_full limits n alive r ≡ false → n ≤ limits.serials
unfolding is_full
full_above limits n alive r h = not_above (nat_lt limits.serials n) refl h
  where
    not_above : (d : Bool) → nat_lt limits.serials n ≡ d → (d || (nat_le limits.table alive && needs_place (birth_of_request limits r))) ≡ false → n ≤ limits.serials
    not_above true e h = absurd (cc)
    not_above false e h = grind (arith, nat_tests)

pub births_few : (start : Start) (past : List Event) → births start past ≤ start.place.limits.serials
births_few start [] = nothing
  where
    nothing : births start [] ≤ start.place.limits.serials
    nothing = unfold births lives in (omega arith)
births_few start (e ∷ past) = rw (births-next start past e) (by_birth (births_few start past) (birth_at start past e) refl)
  where
    by_birth : births start past ≤ start.place.limits.serials → (o : Option Life) → birth_at start past e ≡ o → births start past + one_if (is_some o) ≤ start.place.limits.serials
    by_birth ih None e = omega arith
    by_birth ih (Some l) is = let b = birth_of_some start past e l is in full_above start.place.limits (births start past + 1) (count_alive start.place.limits (lives start past)) b.request b.room

-- ---- the limits

pub record Ranges (limits : Limits) : Type 0 where
  pub some_time : 0 < limits.min_time
  pub longer : limits.min_time ≤ limits.max_time
  pub refer : 0 < limits.refer_time
  pub few_serials : limits.serials ≤ 4294967295

pub ranges : (limits : Limits) → AreLimits limits → Ranges limits
ranges limits h =
    let a = h.min_time.0 in
    let b = h.refer_time.0 in
    record { some_time = omega arith; longer = h.max_time.0; refer = omega arith; few_serials = h.serials.1 }
