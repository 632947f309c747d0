-- What the other workers took.
use Rattle.std.proofs.Common.{◌≡◌, ◌==◌, ◌<◌, ℕ, Bool, true, false, List, [], ◌∷◌, ◌++◌, length, map, get_or, refl, ap, sym, subst, ◌∙◌, arith}
use Rattle.std.specs.Prelude.{if◌then◌else◌, Contains, Some, slice_get}
use Rattle.std.specs.List.{All, AllZip}
use Rattle.std.proofs.lemmas.List.{get_or_append_left, length-append, get_or-map}
use Rattle.std.proofs.lemmas.List.Elements.{All-nil, All-cons, All-head, All-tail, All-append, All-contains, All-contains_itself}
use Rattle.std.proofs.lemmas.Option.{get_or_from_slice_get, slice_get-get_or, slice_get_within}
use Rattle.queues.specs.declared.items.Item.{Item}
use Rattle.queues.specs.declared.items.Entry.{Entry}
use Rattle.queues.specs.declared.items.Entry.TheVariants.{Value, End}
use Rattle.queues.specs.Items.{items_of, StartsWith}
use Rattle.queues.specs.Values.{values}
use Rattle.queues.proofs.ItemLists.{items_of_first}
use Rattle.notifier_model.specs.declared.event.Event.{Event}
use Rattle.notifier_model.specs.Home.{comes_to, at_the_stop}
use Rattle.queues.specs.InboxEvents.{events_of, have_ended}
use Rattle.queues.specs.InboxSeats.{SenderSeat, ReceiverSeat}
use Rattle.crew.proofs.Folds.{values-append}
use Rattle.crew.specs.Joined.{Reported, IsSeatOf, IsHeard, IsJoined}
use Rattle.crew.specs.AtHome.{AreAtHome}
use Rattle.crew.specs.Kept.{emptied}
use Rattle.crew.specs.Ports.{PortSeats, new_seat, no_seats}
use Rattle.crew.specs.Started.{Hired}
use Rattle.crew.proofs.Keeping.{started_port}
use Rattle.crew.proofs.Zipped.{zip_len, zip_get}
use Rattle.crew.specs.declared.report.WorkerReport.{WorkerReport}
use Rattle.life.proofs.Homes.{nowhere_else_law}
use Rattle.notifier_model.specs.declared.event.Out.{Out}
use Rattle.crew.specs.Elsewhere.{HaveAllSeats, events_taken, EveryPortLaw, NowhereElseLaw}

-- ---- lists

-- what holds of a list's elements holds of those of its beginning
All-front : {T : Type 0} (P : T → Type 0) (xs ys : List T) → All P (xs ++ ys) → All P xs
All-front P xs ys h k d lt =
    let long = length-append xs ys in subst P (get_or_append_left xs ys d k lt) (h k d (omega arith))

module _ {T : Type 0} (P : T → Type 0) where
  without : (x : Item T) (xs : List (Item T)) → All P (values (x ∷ xs)) → All P (values xs)
  without x xs h = by x.entry h
    where
      by : (e : Entry T) → All P (values (record { from = x.from; entry = e } ∷ xs)) → All P (values xs)
      by (Value y) h = All-tail P y (values xs) h
      by End h = h

  with_head : (x : Item T) (xs ys : List (Item T)) → All P (values (x ∷ xs)) → All P (values ys) → All P (values (x ∷ ys))
  with_head x xs ys h all = by x.entry h
    where
      by : (e : Entry T) → All P (values (record { from = x.from; entry = e } ∷ xs)) → All P (values (record { from = x.from; entry = e } ∷ ys))
      by (Value y) h = All-cons P y (values ys) (All-head P y (values xs) h) all
      by End h = all

  unless_own : (b : Bool) (x : Item T) (xs : List (Item T)) → All P (values (if b then x ∷ xs else xs)) → All P (values xs)
  unless_own true x xs h = without x xs h
  unless_own false x xs h = h

  -- what holds of each sender's values holds of all
  all_of_each : (n : ℕ) (xs : List (Item T)) → All (λ (x : Item T). x.from < n) xs → ((k : ℕ) → k < n → All P (values (items_of k xs))) → All P (values xs)
  all_of_each n [] few each = All-nil P
  all_of_each n (x ∷ xs) few each =
      let low : x.from < n = All-head (λ (y : Item T). y.from < n) x xs few in
      let own : All P (values (x ∷ items_of x.from xs)) = subst (λ (l : List (Item T)). All P (values l)) (items_of_first x.from x xs refl) (each x.from low) in
      with_head x (items_of x.from xs) xs own
      (all_of_each n xs (All-tail (λ (y : Item T). y.from < n) x xs few) (λ k lt. unless_own (x.from == k) x (items_of k xs) (each k lt)))

  -- what holds of what a sender sent holds of what came of it
  all_that_came : (sent came : List (Item T)) → StartsWith sent came → All P (values sent) → All P (values came)
  all_that_came sent came (rest, is) h =
      All-front P (values came) (values rest) (subst (All P) (ap values is ∙ values-append came rest) h)

-- ---- the planned stop

stop_comes : (n w : ℕ) (stop : Bool) → All (λ e. comes_to n w e ≡ true) (at_the_stop stop)
stop_comes n w true = All-cons (λ e. comes_to n w e ≡ true) _ [] refl (All-nil (λ e. comes_to n w e ≡ true))
stop_comes n w false = All-nil (λ e. comes_to n w e ≡ true)

end_comes : (n w : ℕ) (stop ended : Bool) → All (λ e. comes_to n w e ≡ true) (if ended then at_the_stop stop else [])
end_comes n w stop true = stop_comes n w stop
end_comes n w stop false = All-nil (λ e. comes_to n w e ≡ true)

all_events : (n w ports : ℕ) (stop : Bool) (taken : List (Item Event)) → All (λ e. comes_to n w e ≡ true) (values taken) → All (λ e. comes_to n w e ≡ true) (events_of stop ports taken)
all_events n w ports stop taken h =
    All-append (λ e. comes_to n w e ≡ true) (values taken) (if have_ended ports taken then at_the_stop stop else []) h (end_comes n w stop (have_ended ports taken))

-- ---- the ports of a new crew

among : (ports : List PortSeats) (k : ℕ) (d : PortSeats) → k < length ports → Contains ports (get_or ports k d)
among ports k d low = All-contains_itself ports k d low

seats_map : (p : ℕ) (crew : List Hired) → map emptied (map (λ i. new_seat i p) (map (λ (h : Hired). h.reads.inbox) crew)) ≡ map (λ (h : Hired). new_seat h.reads.inbox p) crew
seats_map p [] = refl
seats_map p (h ∷ crew) = ap (λ l. new_seat h.reads.inbox p ∷ l) (seats_map p crew)

pub every_port : EveryPortLaw
every_port stands n crew dealt ports taker is all =
    let sizes : length ports ≡ n = all.len ∙ is.dealt.len in
    let len : All (λ (q : PortSeats). length q.seats ≡ length crew) ports = λ p q low. (let port = started_port is ports all p q low in zip_len IsSeatOf crew (get_or ports p q).seats port.seats) in record {
      len = len;
      each = λ w k h here few.
          let inside : w < length crew = slice_get_within crew w h here in
          let hired : get_or crew w h ≡ h = get_or_from_slice_get crew w h h here in
          let count : h.reads.ports ≡ n = ap (λ (x : Hired). x.reads.ports) (sym hired) ∙ ap (λ (r : ReceiverSeat). r.ports) ((is.each w h inside).hears) in
          let low : k < length ports = omega arith in
          let q : PortSeats = get_or ports k no_seats in
          let s : SenderSeat = new_seat h.reads.inbox k in
          let same : map emptied q.seats ≡ map (λ (x : Hired). new_seat x.reads.inbox k) crew =
          all.seats k no_seats (let l = all.len in omega arith) ∙ ap (λ (x : PortSeats). map emptied x.seats) (is.dealt.each k no_seats (omega arith)) ∙ seats_map k crew in
          let fits : w < length q.seats = let l = len k no_seats low in omega arith in
          let at : emptied (get_or q.seats w s) ≡ new_seat (get_or crew w h).reads.inbox k =
          sym (get_or-map emptied q.seats w s s fits) ∙ ap (λ l. get_or l w s) same ∙ get_or-map (λ (x : Hired). new_seat x.reads.inbox k) crew w h s inside in (
            q,
            get_or q.seats w s,
            among ports k no_seats low,
            slice_get-get_or q.seats w s fits,
            ap (λ (x : SenderSeat). x.number) at,
          );
    }

-- ---- the law

-- each event that a worker took comes to it
pub all_come : (crew : List Hired) (ports : List PortSeats) (got : List (Item Out)) (reports : List WorkerReport) (w : ℕ) (h : Hired) (r : WorkerReport)
    → IsJoined crew ports got reports → HaveAllSeats crew ports → slice_get crew w ≡ Some h → slice_get reports w ≡ Some r
    → All (λ e. comes_to (length crew) w e ≡ true) (events_taken h r)
all_come crew ports got reports w h r joined seats here there =
    let n : ℕ = length crew in
    let P : Event → Type 0 = λ e. comes_to n w e ≡ true in
    let told : Reported h got r = zip_get (λ (x : Hired) (y : WorkerReport). Reported x got y) crew reports joined.reported w h r here there in
    let came : (k : ℕ) → k < h.reads.ports → All P (values (items_of k r.receiver.taken)) = λ k lt.
    let at = seats.each w k h here lt in
    let q : PortSeats = at.0 in
    let seat : SenderSeat = at.1 in
    let all = All-contains (λ (x : PortSeats). AllZip IsHeard reports x.seats) ports q joined.heard at.2 in
    let heard : IsHeard r seat = zip_get IsHeard reports q.seats all w r seat there at.3 in
    let home_here : AreAtHome n q.seats = All-contains (λ (x : PortSeats). AreAtHome n x.seats) ports q joined.home at.2 in
    subst (λ (j : ℕ). All P (values (items_of j r.receiver.taken))) at.4
    (all_that_came P seat.sent (items_of seat.number r.receiver.taken) heard.came.0 (home_here w seat at.3)) in
    all_events n w h.reads.ports h.stands.place.stop r.receiver.taken
    (all_of_each P h.reads.ports r.receiver.taken told.among came)

pub nowhere_else_joined : NowhereElseLaw
nowhere_else_joined crew ports got reports start serial other source x past h r joined seats born elsewhere here there =
    nowhere_else_law (length crew) serial other start source x past (events_taken h r) born elsewhere
    (all_come crew ports got reports other h r joined seats here there)
