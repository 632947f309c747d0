-- A subscription was born of a request that its worker took, which has its home there.
use Rattle.std.proofs.Common.{◌≡◌, ◌<◌, ◌≤◌, ◌^◌, ℕ, true, List, [], ◌∷◌, ◌++◌, Option, Some, None, length, get_or, refl, ap, sym, subst, ◌∙◌, arith}
use Rattle.std.specs.Prelude.{option_map, slice_get}
use Rattle.std.specs.List.{All}
use Rattle.std.proofs.lemmas.Bool.Decides.{nat_tests}
use Rattle.std.proofs.lemmas.Option.{get_or_from_slice_get, slice_get_within}
use Rattle.std.proofs.lemmas.List.Elements.{All-nil, All-cons, All-head, All-tail, All-append}
use Rattle.sip_text.specs.declared.address.Addr.{Addr}
use Rattle.sip_read.specs.declared.message.Request.{Request}
use Rattle.notifier_model.specs.declared.event.Event.{Event}
use Rattle.notifier_model.specs.declared.event.Event.TheVariants.{Request as Comes}
use Rattle.notifier_model.specs.Home.{comes_to, home, is_for_all}
use Rattle.notifier_model.specs.declared.place.Place.{Place}
use Rattle.notifier_model.specs.Start.{Start, tag_of}
use Rattle.notifier.specs.Standing.{Standing, first_standing}
use Rattle.queues.specs.declared.items.Item.{Item}
use Rattle.notifier_model.specs.declared.event.Out.{Out}
use Rattle.life.specs.Life.{Life, birth}
use Rattle.life.specs.Lives.{concerns, life, birth_at, lived}
use Rattle.life.specs.Notices.{newest_first, onto}
use Rattle.life.specs.Own.{born_of}
use Rattle.life.proofs.Deeds.{lived_is}
use Rattle.life.proofs.Homes.{nowhere_else_law}
use Rattle.life.proofs.NextLives.{After, birth_of_some, each_life}
use Rattle.crew.specs.Elsewhere.{HaveAllSeats, events_taken}
use Rattle.crew.specs.Laws.{its_tag}
use Rattle.crew.specs.GoesOn.{standing_after, OneHomeGoesOnLaw}
use Rattle.crew.specs.OneHome.{OneHomeLaw}
use Rattle.crew.specs.Started.{Hired}
use Rattle.crew.specs.Whole.{IsCrewRunFrom}
use Rattle.crew.specs.declared.report.WorkerReport.{WorkerReport}
use Rattle.crew.proofs.Elsewhere.{all_come}

-- ---- the request that a subscription was born of came

module _ (P : Event → Type 0) where
  abbrev Came : Request → Type 0
  Came x = (source : Addr) × P (Comes source x)

  came_here : (start : Start) (past : List Event) (e : Event) (l : Life) → P e → birth_at start past e ≡ Some l → Came (birth l)
  unfolding birth
  came_here start past e l p h =
      let b = birth_of_some start past e l h in
      subst (λ (m : Life). Came (birth m)) (sym b.is) (b.source, subst P b.event p)

  came_on : (start : Start) (past : List Event) (e : Event) (serial : ℕ) (l : Life) → (All P past → Came (birth l)) → After (λ m. All P (e ∷ past) → Came (birth m)) l (lived start serial past e l)
  unfolding birth
  came_on start past e serial l before = lived_is start serial past e l (After (λ m. All P (e ∷ past) → Came (birth m)) l) (λ all. before (All-tail P e past all)) (λ d all. before (All-tail P e past all))

  came : (start : Start) (past : List Event) (serial : ℕ) (l : Life) → life start past serial ≡ Some l → All P past → Came (birth l)
  came start past serial l is =
      each_life start (λ past s l. All P past → Came (birth l))
      (λ past e l begins all. came_here start past e l (All-head P e past all) begins)
      (λ past e s l at before alive. came_on start past e s l before)
      (λ past e s l before gone all. before (All-tail P e past all))
      past serial l is

  born_came : (start : Start) (serial : ℕ) (past : List Event) (x : Request) → All P past → born_of start serial past ≡ Some x → Came x
  unfolding born_of
  born_came start serial past x all h = by_life (life start past serial) (λ l is. came start past serial l is all) h
    where
      same : {a b : Request} → Some a ≡ Some b → a ≡ b
      same is = cc

      by_life : (o : Option Life) → ((l : Life) → o ≡ Some l → Came (birth l)) → option_map birth o ≡ Some x → Came x
      by_life None w is = absurd (cc)
      by_life (Some l) w is = subst Came (same is) (w l refl)

  all_onto : (past es : List Event) → All P past → All P es → All P (onto past es)
  all_onto past [] old new = old
  all_onto past (e ∷ es) old new = all_onto (e ∷ past) es (All-cons P e past (All-head P e es new) old) (All-tail P e es new)

-- ---- the law

at_home : (n w : ℕ) (source : Addr) (x : Request) → comes_to n w (Comes source x) ≡ true → home (Comes source x) n ≡ w
at_home n w source x h = grind (arith, nat_tests)

-- of workers whose places are those of these starts, whatever their books
one_home_from : (start : ℕ → Start) (stands : ℕ → Standing) (before : List Event) (crew : List Hired) (got : List (Item Out)) (reports : List WorkerReport)
    (w v serial : ℕ) (x : Request) (h g : Hired) (r s : WorkerReport) (run : IsCrewRunFrom start stands crew got reports) →
    (stands w).place ≡ (start w).place → HaveAllSeats crew run.ports → All (λ e. comes_to (length crew) w e ≡ true) before → (v ≡ w → ⊥) →
    slice_get crew w ≡ Some h → slice_get reports w ≡ Some r → slice_get crew v ≡ Some g → slice_get reports v ≡ Some s →
    born_of (start w) serial (newest_first (before ++ events_taken h r)) ≡ Some x →
    All (λ e. concerns (its_tag h serial) x e ≡ true → is_for_all e ≡ true) (events_taken g s)
one_home_from start stands before crew got reports w v serial x h g r s run place seats first elsewhere here there here' there' born =
    let n : ℕ = length crew in
    let P : Event → Type 0 = λ e. comes_to n w e ≡ true in
    let inside : w < n = slice_get_within crew w h here in
    let hired : get_or crew w h ≡ h = get_or_from_slice_get crew w h h here in
    let taken : List Event = events_taken h r in
    let past : List Event = newest_first (before ++ taken) in
    let all : All P past = all_onto P [] (before ++ taken) (All-nil P) (All-append P before taken first (all_come crew run.ports got reports w h r run.joined seats here there)) in
    let came_from = born_came P (start w) serial past x all born in
    let begins : h.stands ≡ stands w = ap (λ (y : Hired). y.stands) (sym hired) ∙ (let is = run.started.each w h inside in is.begins) in
    let number : (start w).place.worker ≡ w = run.starts.numbers w inside in
    let few : n ≤ 2 ^ 64 = (let l = run.starts.few in omega arith) in
    let same_place : (start w).place ≡ h.stands.place = sym (ap (λ (y : Standing). y.place) begins ∙ place) in
    subst (λ (p : Place). All (λ e. concerns (tag_of p serial) x e ≡ true → is_for_all e ≡ true) (events_taken g s)) same_place
    (nowhere_else_law n serial v (start w) came_from.0 x past (events_taken g s)
    (record { below = (let is = number in omega arith); few = few; born = born; home = at_home n w came_from.0 x came_from.1 ∙ sym number })
    (λ same. elsewhere (same ∙ number))
    (all_come crew run.ports got reports v g s run.joined seats here' there'))

pub one_home_goes_on_law : OneHomeGoesOnLaw
one_home_goes_on_law start before crew got reports w v serial x h g r s run seats first elsewhere here there here' there' born =
    one_home_from start (λ k. standing_after (start k) (before k)) (before w) crew got reports w v serial x h g r s run refl seats first elsewhere here there here' there' born

pub one_home_law : OneHomeLaw
one_home_law start crew got reports w v serial x h g r s run seats elsewhere here there here' there' born =
    one_home_from start (λ k. first_standing (start k)) [] crew got reports w v serial x h g r s run refl seats (All-nil (λ e. comes_to (length crew) w e ≡ true)) elsewhere here there here' there' born
