-- How a crew stands at its start.
use Rattle.std.proofs.Common.{◌≡◌, ℕ, zero, suc, ◌<◌, List, [], ◌∷◌, ◌++◌, length, map, get_or, Option, None, Some, refl, ap, sym, ◌∙◌, subst, arith, below_more, length-append}
use Rattle.std.proofs.lemmas.List.{get_or_append_left, get_or_default}
use Rattle.std.proofs.Math.Seq.{get_or-append_seam}
use Rattle.package.specs.Content.{Seen}
use Rattle.notifier_model.specs.declared.place.Place.{Place}
use Rattle.notifier.specs.Held.{Held, seen_by}
use Rattle.notifier.specs.Standing.{Standing, first_standing}
use Rattle.notifier_model.specs.Start.{Start}
use Rattle.queues.specs.InboxSeats.{ReceiverSeat}
use Rattle.queues.specs.OutboxSeats.{Outbox, PosterSeat, TakerSeat, new_posters, new_taker}
use Rattle.std.specs.Prelude.{unwrap_or}
use Rattle.notifier_model.specs.declared.place.Setup.{Setup}
use Rattle.crew.specs.Desks.{nowhere, standing_of, AllMayBegin, IsUnfit, MayBegin}
use Rattle.crew.specs.Ready.{start_of, NewWorkerSeen, IsReady, IsFit}
use Rattle.crew.specs.Ports.{PortSeats}
use Rattle.crew.specs.Started.{Hired, IsHired, HaveBegun, IsStarted}

abbrev pub new_poster : Outbox → ℕ → PosterSeat
new_poster outbox number = record { outbox = outbox; number = number; posted = [] }

pub new_posters-length : (outbox : Outbox) (n : ℕ) → length (new_posters outbox n) ≡ n
new_posters-length outbox zero = refl
new_posters-length outbox (suc n) = length-append (new_posters outbox n) (new_poster outbox n ∷ []) ∙ (let h = new_posters-length outbox n in omega arith)

pub new_posters-at : (outbox : Outbox) (n k : ℕ) (d : PosterSeat) → k < n → get_or (new_posters outbox n) k d ≡ new_poster outbox k
new_posters-at outbox zero k d low = absurd (omega arith)
new_posters-at outbox (suc n) k d low =
    let size = new_posters-length outbox n in
    let P : ℕ → Type 0 = λ j. get_or (new_posters outbox (suc n)) j d ≡ new_poster outbox j in
    below_more P n
    (λ j less. get_or_append_left (new_posters outbox n) (new_poster outbox n ∷ []) d j (omega arith) ∙ new_posters-at outbox n j d less)
    (ap (λ j. get_or (new_posters outbox n ++ new_poster outbox n ∷ []) j d) (sym size) ∙ get_or-append_seam (new_posters outbox n) (new_poster outbox n) [] d)
    k (omega arith)

-- any element, to read others by
pub element : {A : Type 0} (xs : List A) (k : ℕ) → k < length xs → A
element [] k low = absurd (omega arith)
element (x ∷ xs) k low = x

pub ready_fit : (stands : Standing) (n : ℕ) (p : PosterSeat) (worker : NewWorkerSeen) → p.posted ≡ [] → IsReady stands n p worker → IsFit worker
ready_fit stands n p worker none k = record {
  stops = k.stops ∙ ap (λ (s : Standing). s.place.stop) (sym k.begins);
  desk = k.desk ∙ ap (λ (s : Standing). Some s) (sym k.begins);
  untaken = ap (λ (w : ReceiverSeat). w.taken) k.hears;
  unposted = ap (λ (w : PosterSeat). w.posted) k.tells ∙ none;
}

pub hired_is : (stands : Standing) (n w : ℕ) (taker : TakerSeat) (worker : NewWorkerSeen) (x : Hired) → x ≡ record { stands = worker.stands; reads = worker.reads; posts = worker.posts }
    → taker.outbox.capacity ≡ stands.place.limits.outbox → IsReady stands n (new_poster taker.outbox w) worker → IsHired stands n taker w x
hired_is stands n w taker worker x is holds k =
    let P : Hired → Type 0 = λ y. IsHired stands n taker w y in
    subst P (sym is) (record { begins = k.begins; hears = k.hears; tells = k.tells; inbox_holds = k.holds; outbox_holds = holds })

-- the same crew, under other names of how its desks stood and of their number
pub begun_as : (stands stands' : ℕ → Standing) (workers workers' n : ℕ) (crew : List Hired) (ports : List PortSeats) (taker : TakerSeat)
    → workers ≡ workers' → ((w : ℕ) → w < workers → stands w ≡ stands' w) → HaveBegun stands workers n crew ports taker → HaveBegun stands' workers' n crew ports taker
begun_as stands stands' workers workers' n crew ports taker same each is = record {
  takes = is.takes ∙ ap (λ (m : ℕ). new_taker taker.outbox m) same;
  len = is.len ∙ same;
  each = λ w h low.
      let there : w < workers = omega arith in
      subst (λ (s : Standing). IsHired s n taker w (get_or crew w h)) (each w there) (is.each w h there);
  dealt = is.dealt;
}

-- and of its starts
pub started_as : (start start' : ℕ → Start) (workers workers' n : ℕ) (crew : List Hired) (ports : List PortSeats) (taker : TakerSeat)
    → workers ≡ workers' → ((w : ℕ) → w < workers → start w ≡ start' w) → IsStarted start workers n crew ports taker → IsStarted start' workers' n crew ports taker
started_as start start' workers workers' n crew ports taker same each is =
    begun_as (λ w. first_standing (start w)) (λ w. first_standing (start' w)) workers workers' n crew ports taker same (λ w low. ap first_standing (each w low)) is

some_is : {A : Type 0} (x y : A) → Some x ≡ Some y → x ≡ y
some_is x y e = cc

-- a desk with which a worker can begin stands somehow
pub begun_at : (first : Option Standing) (worker : ℕ) (desk : Option Standing) → MayBegin first worker desk → (s : Standing) × (desk ≡ Some s)
begun_at None worker desk may = absurd may
begun_at (Some f) worker None may = absurd may
begun_at (Some f) worker (Some s) may = (s, refl)

stands_at : (first : Option Standing) (worker : ℕ) (desk : Option Standing) → MayBegin first worker desk → desk ≡ Some (unwrap_or desk nowhere)
stands_at None worker desk may = absurd may
stands_at (Some f) worker None may = absurd may
stands_at (Some f) worker (Some s) may = refl

-- each of these desks stands somehow
pub stands_so : {P : Type 0} (seen : P → Seen) (desks : List (Option (Held P))) (d : Option (Held P)) → AllMayBegin seen desks
    → (k : ℕ) (x : Option (Held P)) → k < length desks → seen_by seen (get_or desks k x) ≡ Some (standing_of seen (get_or desks k d))
stands_so seen desks d all k x low =
    ap (seen_by seen) (get_or_default desks k x d low)
    ∙ stands_at (seen_by seen (get_or desks 0 d)) k (seen_by seen (get_or desks k d)) (all k d low)

-- it has the room for the outbox that the first has
same_room : (first : Option Standing) (worker : ℕ) (desk : Option Standing) (f s : Standing) → MayBegin first worker desk → first ≡ Some f → desk ≡ Some s → f.place.limits.outbox ≡ s.place.limits.outbox
same_room None worker desk f s may here there = absurd may
same_room (Some g) worker None f s may here there = absurd may
same_room (Some g) worker (Some t) f s may here there =
    ap (λ (x : Standing). x.place.limits.outbox) (sym (some_is g f here)) ∙ sym may.1 ∙ ap (λ (x : Standing). x.place.limits.outbox) (some_is t s there)

-- so an outbox with the room that the first gives it has that which each gives it
pub room_of_each : {P : Type 0} (seen : P → Seen) (desks : List (Option (Held P))) (stands : ℕ → Standing) (x : Option (Held P)) (capacity : ℕ) (place : Place)
    → AllMayBegin seen desks → ((k : ℕ) (d : Option (Held P)) → k < length desks → seen_by seen (get_or desks k d) ≡ Some (stands k))
    → x ≡ get_or desks 0 x → ((s : Standing) → seen_by seen x ≡ Some s → place ≡ s.place) → capacity ≡ place.limits.outbox
    → (w : ℕ) → w < length desks → capacity ≡ (stands w).place.limits.outbox
room_of_each seen desks stands x capacity place all are first told holds w low =
    let zeroth : seen_by seen (get_or desks 0 x) ≡ Some (stands 0) = are 0 x (omega arith) in
    holds ∙ ap (λ (p : Place). p.limits.outbox) (told (stands 0) (ap (seen_by seen) first ∙ zeroth))
    ∙ same_room (seen_by seen (get_or desks 0 x)) w (seen_by seen (get_or desks w x)) (stands 0) (stands w) (all w x low) zeroth (are w x low)

-- where workers can begin with all desks none is unfit
pub none_unfit : {P : Type 0} (seen : P → Seen) (desks others : List (Option (Held P))) (worker : ℕ) → desks ≡ others → AllMayBegin seen desks → IsUnfit seen others worker → ⊥
none_unfit {P = P} seen desks others worker same all unfit =
    let d : Option (Held P) = element others worker unfit.within in
    unfit.unfit d (subst (AllMayBegin seen) same all worker d unfit.within)

-- with new desks of one setup workers can begin
pub new_may_begin : {P : Type 0} (seen : P → Seen) (setup : Setup) (worker : ℕ) (boxes0 boxes : List P) (first desk : Option Standing)
    → first ≡ Some (first_standing (start_of seen setup 0 boxes0)) → desk ≡ Some (first_standing (start_of seen setup worker boxes)) → MayBegin first worker desk
new_may_begin seen setup worker boxes0 boxes first desk here there =
    let P : Option Standing × Option Standing → Type 0 = λ x. MayBegin x.0 worker x.1 in
    let may : P (Some (first_standing (start_of seen setup 0 boxes0)), Some (first_standing (start_of seen setup worker boxes))) = (refl, refl) in
    subst P (λ i. (sym here i, sym there i)) may

-- what is there
pub unwrapped : (desk : Option Standing) (s : Standing) → desk ≡ Some s → unwrap_or desk nowhere ≡ s
unwrapped desk s is = ap (λ (d : Option Standing). unwrap_or d nowhere) is

pub same_maps : {A B C : Type 0} (f : A → C) (g : B → C) (xs : List A) (ys : List B) → length xs ≡ length ys → ((k : ℕ) (x : A) (y : B) → k < length xs → f (get_or xs k x) ≡ g (get_or ys k y)) → map f xs ≡ map g ys
same_maps f g [] [] len h = refl
same_maps f g [] (y ∷ ys) len h = absurd (omega arith)
same_maps f g (x ∷ xs) [] len h = absurd (omega arith)
same_maps f g (x ∷ xs) (y ∷ ys) len h =
    let head = h 0 x y (omega arith) in let tail = same_maps f g xs ys (omega arith) (λ k a b low. h (suc k) a b (omega arith)) in λ i. head i ∷ tail i
