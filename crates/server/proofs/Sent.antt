-- What one port sent of a script.
use Rattle.std.proofs.Common.{◌≡◌, ℕ, zero, suc, ◌<◌, Bool, true, false, List, [], ◌∷◌, ◌++◌, length, map, get_or, Some, refl, ap, sym, ◌∙◌, subst, arith}
use Rattle.std.specs.Prelude.{slice_get, MatchBool, MatchResult, Result, Ok, Err, is_ok}
use Rattle.std.proofs.lemmas.List.{get_or-map, length-map}
use Rattle.std.proofs.lemmas.Option.{get_or_from_slice_get}
use Rattle.queues.specs.Values.{values, values_by, end_item}
use Rattle.notifier_model.specs.declared.event.Event.{Event}
use Rattle.notifier_model.specs.Home.{events_for}
use Rattle.queues.specs.InboxSeats.{Inbox, SenderSeat, with_sent}
use Rattle.crew.specs.Ports.{PortSeats, new_seat, port_of, Closes}
use Rattle.crew.proofs.Folds.{values_end}
use Rattle.feeds.specs.Fed.{with_events, Sends}

-- each worker was sent those of these events that go to it, in order, and no others
pub record HasSent (es : List Event) (port : PortSeats) : Type 0 where
  pub each : (w : ℕ) (s : SenderSeat) → w < length port.seats
      → values (get_or port.seats w s).sent ≡ events_for (length port.seats) w es

-- ---- from a new port on

values_back : (w : ℕ) (xs : List Event) → values (values_by w xs) ≡ xs
values_back w [] = refl
values_back w (x ∷ xs) = ap (λ l. x ∷ l) (values_back w xs)

stood : (seats : List SenderSeat) (w : ℕ) (s : SenderSeat) → w < length seats → slice_get seats w ≡ Some (get_or seats w s)
stood [] w s low = absurd (omega arith)
stood (t ∷ seats) zero s low = refl
stood (t ∷ seats) (suc w) s low = stood seats w s (omega arith)

pub new_sent : (inboxes : List Inbox) (es : List Event) (sent : PortSeats) → Sends (port_of inboxes 0) es sent → HasSent es sent
new_sent inboxes es sent sends =
    let seats : List SenderSeat = map (λ (i : Inbox). new_seat i 0) inboxes in
    let n : ℕ = length seats in
    let size : n ≡ length inboxes = length-map inboxes (λ (i : Inbox). new_seat i 0) in record {
      each = λ w s low.
          let inside : w < n = subst (λ m. w < m) sends.len low in
          let new : SenderSeat = new_seat (get_or inboxes w s.inbox) 0 in
          let was : get_or seats w s ≡ new = get_or-map (λ (i : Inbox). new_seat i 0) inboxes w s.inbox s (omega arith) in
          let at : slice_get seats w ≡ Some new = stood seats w s inside ∙ ap Some was in
          let now : get_or sent.seats w s ≡ with_events new (events_for n w es) =
          get_or_from_slice_get sent.seats w (with_events new (events_for n w es)) s (sends.each w new at) in
          ap (λ (x : SenderSeat). values x.sent) now ∙ values_back 0 (events_for n w es) ∙ ap (λ m. events_for m w es) (sym sends.len);
    }

-- ---- closing

ended_at : (seats : List SenderSeat) (w : ℕ) (s : SenderSeat) → w < length seats
    → values (get_or (map (λ x. with_sent x (end_item x.number)) seats) w s).sent ≡ values (get_or seats w s).sent
ended_at seats w s low =
    ap (λ (x : SenderSeat). values x.sent) (get_or-map (λ (x : SenderSeat). with_sent x (end_item x.number)) seats w s s low)
    ∙ values_end (get_or seats w s).sent (get_or seats w s).number

closed_or_not : (b : Bool) (es : List Event) (old new : PortSeats) → old.is_open ≡ b → Closes old new → HasSent es old → HasSent es new
closed_or_not false es old new is closes was = subst (HasSent es) (sym (closes.1 is)) was
closed_or_not true es old new is closes was =
    let seats : new.seats ≡ map (λ (x : SenderSeat). with_sent x (end_item x.number)) old.seats = ap (λ (p : PortSeats). p.seats) (closes.0 is) in
    let len : length new.seats ≡ length old.seats = ap length seats ∙ length-map old.seats (λ (x : SenderSeat). with_sent x (end_item x.number)) in record {
      each = λ w s low.
          let inside : w < length old.seats = subst (λ m. w < m) len low in
          ap (λ l. values (get_or l w s).sent) seats
          ∙ ended_at old.seats w s inside
          ∙ was.each w s inside
          ∙ ap (λ m. events_for m w es) (sym len);
    }

pub closed_sent : (es : List Event) (old new : PortSeats) → Closes old new → HasSent es old → HasSent es new
closed_sent es old new closes was = closed_or_not old.is_open es old new refl closes was

-- ---- what calls answer

pub where_true : {A : Type 0} (B : Type 0) (b : Bool) → MatchBool b A B → b ≡ true → A
where_true B true told ok = told
where_true B false told ok = absurd cc

pub where_ok : {X Y A : Type 0} (B : Y → Type 0) (r : Result X Y) → MatchResult r (λ _. A) B → is_ok r ≡ true → A
where_ok B (Ok x) told ok = told
where_ok B (Err y) told ok = absurd cc
