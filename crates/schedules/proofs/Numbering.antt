-- What the taker got of a subscription is numbered from 1 on, and ends with a terminated one.
use Rattle.std.proofs.Common.{◌≡◌, ◌+◌, ℕ, zero, suc, ◌<◌, ◌≤◌, true, not, List, [], ◌∷◌, ◌++◌, map, length, take, refl, ap, sym, ◌∙◌, subst, ⊎_elim, length-append, arith}
use Rattle.std.proofs.lemmas.List.{take-append-le, map-append, length-map}
use Rattle.std.proofs.Math.Seq.{take-append_seam}
use Rattle.std.proofs.Math.Nat.{eq-or-lt_of_le}
use Rattle.std.proofs.lemmas.Grind.{common_steps}
use Rattle.notifier_model.specs.declared.event.Event.{Event}
use Rattle.notifier_model.specs.declared.event.Out.{Out}
use Rattle.notifier_model.specs.Out.{Notification, is_last}
use Rattle.notifier_model.specs.Start.{Start}
use Rattle.life.specs.Notices.{newest_first, notices}
use Rattle.life.specs.Laws.{notifies_with, AreNotifies, up_to, ends_once}
use Rattle.life.proofs.Numbers.{numbers_law}
use Rattle.life.proofs.Ends.{ends_law}
use Rattle.queues.specs.Values.{values}
use Rattle.schedules.specs.World.{world, its_events}
use Rattle.queues.specs.Items.{StartsWith}
use Rattle.schedules.specs.Laws.{its_tag, its_notices, number_of, is_terminated, none_follows, Rise, RisingLaw}
use Rattle.schedules.proofs.Cases.{and-left, and-right}
use Rattle.schedules.proofs.Fronts.{first_of_all}
use Rattle.schedules.proofs.Told.{cut, world_law}

-- ---- the first of 1, 2, 3 and so on

length-up_to : (n : ℕ) → length (up_to n) ≡ n
length-up_to zero = refl
length-up_to (suc n) = length-append (up_to n) (suc n ∷ []) ∙ ap (λ k. k + 1) (length-up_to n) ∙ omega arith

pub take_all : {A : Type 0} (m : ℕ) (xs : List A) → m ≡ length xs → take m xs ≡ xs
take_all m xs e = grind (arith, common_steps)

take-up_to : (n m : ℕ) → m ≤ n → take m (up_to n) ≡ up_to m
take-up_to zero m le = let e : m ≡ 0 = omega arith in rw e refl
take-up_to (suc n) m le = ⊎_elim
    (λ (e : m ≡ suc n). take_all m (up_to (suc n)) (e ∙ sym (length-up_to (suc n))) ∙ ap up_to (sym e))
    (λ (lt : m < suc n). take-append-le m (up_to n) (suc n ∷ []) (let l : length (up_to n) ≡ n = length-up_to n in omega arith) ∙ take-up_to n m (omega arith)) (eq-or-lt_of_le le)

-- the first of them are the first of them
first-up_to : (some : List ℕ) (n : ℕ) → StartsWith (up_to n) some → some ≡ up_to (length some)
first-up_to some n h =
    let whole : n ≡ length some + length h.0 = sym (length-up_to n) ∙ ap length h.1 ∙ length-append some h.0 in
    sym (take-append_seam some h.0) ∙ ap (take (length some)) (sym h.1) ∙ take-up_to n (length some) (omega arith)

-- ---- of all notices the first ones

map-first : {A B : Type 0} (f : A → B) (some all : List A) → StartsWith all some → StartsWith (map f all) (map f some)
map-first f some all h = (map f h.0, ap (map f) h.1 ∙ map-append f some h.0)

ends-first : (some rest : List Notification) → ends_once (some ++ rest) ≡ true → ends_once some ≡ true
unfolding ends_once
ends-first [] rest h = refl
ends-first (n ∷ []) rest h = refl
ends-first (n ∷ m ∷ more) rest h =
    rw (and-left (not (is_last n.state)) (ends_once (m ∷ (more ++ rest))) h) (ends-first (m ∷ more) rest (and-right (not (is_last n.state)) (ends_once (m ∷ (more ++ rest))) h))

-- ---- of the NOTIFYs that are these notices

numbers-are : (tag : List ℕ) (told : List Notification) (outs : List Out) → AreNotifies tag told outs → map number_of outs ≡ map (λ n. n.number) told
numbers-are tag [] [] h = refl
numbers-are tag [] (out ∷ outs) h = absurd h
numbers-are tag (n ∷ told) [] h = absurd h
numbers-are tag (n ∷ told) (out ∷ outs) h = rw (ap number_of h.0.out_is, numbers-are tag told outs h.1) refl

ends-are : (tag : List ℕ) (told : List Notification) (outs : List Out) → AreNotifies tag told outs → none_follows outs ≡ ends_once told
unfolding ends_once
ends-are tag [] [] h = refl
ends-are tag [] (out ∷ outs) h = absurd h
ends-are tag (n ∷ told) [] h = absurd h
ends-are tag (n ∷ []) (out ∷ []) h = refl
ends-are tag (n ∷ []) (out ∷ next ∷ outs) h = absurd h.1
ends-are tag (n ∷ m ∷ told) (out ∷ []) h = absurd h.1
ends-are tag (n ∷ m ∷ told) (out ∷ next ∷ outs) h = rw (ap is_terminated h.0.out_is, ends-are tag (m ∷ told) (next ∷ outs) h.1) refl

-- of NOTIFYs that are the first notices of a life
pub first_rise : (start : Start) (serial : ℕ) (past : List Event) (tag : List ℕ) (front : List Notification) (got : List Out) → StartsWith (notices start serial past) front → AreNotifies tag front got → Rise got
first_rise start serial past tag front got first are =
    let all : List Notification = notices start serial past in
    let numbered : map (λ (n : Notification). n.number) all ≡ up_to (length all) = numbers_law start serial past in
    let numbers : map number_of got ≡ map (λ (n : Notification). n.number) front = numbers-are tag front got are in
    let rising : StartsWith (up_to (length all)) (map number_of got) =
    subst (λ (l : List ℕ). StartsWith l (map number_of got)) numbered (subst (λ (l : List ℕ). StartsWith (map (λ (n : Notification). n.number) all) l) (sym numbers) (map-first (λ (n : Notification). n.number) front all first)) in
    record {
      numbers = first-up_to (map number_of got) (length all) rising ∙ ap up_to (length-map got number_of);
      ends = ends-are tag front got are ∙ ends-first front first.0 (ap ends_once (sym first.1) ∙ ends_law start serial past);
    }

pub rising_law : RisingLaw
rising_law crew steps w serial ok lt small =
    let s = world crew steps in
    let tag = its_tag crew w serial in
    let got : List Out = notifies_with tag (values s.got) in
    let k = world_law crew steps w serial ok lt small in
    let c = cut tag k.told got k.got.0 (subst (AreNotifies tag k.told) k.got.1 k.posted) in
    first_rise (crew.start w) serial (newest_first (its_events crew w (s.worker w))) tag c.front got
    (first_of_all c.front k.told (its_notices crew s w serial) c.first k.of_its_life) c.are
