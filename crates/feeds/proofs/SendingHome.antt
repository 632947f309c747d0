-- What a port has sent, event by event.
use Rattle.std.proofs.Common.{◌≡◌, ◌≢◌, ⊎_elim, ℕ, zero, suc, ◌<◌, Bool, true, false, ◌||◌, cond, eqb, List, [], ◌∷◌, ◌++◌, length, set, Some, refl, ap, sym, ◌∙◌, subst, append_assoc, arith}
use Rattle.std.specs.Prelude.{slice_get, ◌==◌, MatchBool, MatchResult, is_ok, Result, Ok, Err}
use Rattle.std.proofs.lemmas.List.{append-nil, map-append, length-set}
use Rattle.std.proofs.lemmas.List.Elements.{filter-append}
use Rattle.std.proofs.lemmas.Bool.Decides.{eqb_tells}
use Rattle.queues.specs.Values.{value_item, values_by}
use Rattle.notifier_model.specs.declared.event.Event.{Event}
use Rattle.notifier_model.specs.Home.{home, is_for_all, comes_to, events_for}
use Rattle.queues.specs.InboxSeats.{SenderSeat, with_sent}
use Rattle.notifier_model.specs.declared.event.Event.TheVariants as event
use Rattle.crew.specs.Ports.{PortSeats, SendsTo, sent_first, sends_first}
use Rattle.crew.specs.PortErrors.{GivesBack, TicksFirst}
use Rattle.crew.specs.declared.errors.SendError.{SendError}
use Rattle.crew.specs.declared.errors.SendError.TheVariants as send
use Rattle.crew.specs.declared.errors.TickError.{TickError}
use Rattle.crew.specs.declared.errors.TickError.TheVariants as tick
use Rattle.crew.proofs.AtHome.{len_first, fits}
use Rattle.feeds.specs.Fed.{with_events, Sends, Misses}

-- ---- no events, and more of them

kept : (s : SenderSeat) → s ≡ with_events s []
kept s = ap (λ l. record s { sent = l }) (sym (append-nil s.sent))

none_for : (n w : ℕ) → events_for n w [] ≡ []
unfolding events_for
none_for n w = refl

pub sends_none : (p : PortSeats) → Sends p [] p
sends_none p = record {
  still_open = refl;
  missed = refl;
  len = refl;
  each = λ w s stood. stood ∙ ap Some (kept s ∙ ap (with_events s) (sym (none_for (length p.seats) w)));
}

joined : (n w : ℕ) (es fs : List Event) → events_for n w (es ++ fs) ≡ events_for n w es ++ events_for n w fs
unfolding events_for
joined n w es fs = filter-append (comes_to n w) es fs

with_more : (s : SenderSeat) (es fs : List Event) → with_events (with_events s es) fs ≡ with_events s (es ++ fs)
with_more s es fs =
    ap (λ l. record s { sent = l })
    (append_assoc s.sent (values_by s.number es) (values_by s.number fs)
    ∙ ap (λ l. s.sent ++ l) (sym (map-append (λ e. value_item s.number e) es fs)))

pub sends_more : (old mid new : PortSeats) (es fs : List Event) → Sends old es mid → Sends mid fs new → Sends old (es ++ fs) new
sends_more old mid new es fs a b = record {
  still_open = b.still_open ∙ a.still_open;
  missed = b.missed ∙ a.missed;
  len = b.len ∙ a.len;
  each = λ w s stood.
      let n : ℕ = length old.seats in
      let between = a.each w s stood in
      let after = b.each w (with_events s (events_for n w es)) between in
      let P : ℕ → Type 0 = λ m. slice_get new.seats w ≡ Some (with_events (with_events s (events_for n w es)) (events_for m w fs)) in
      subst P a.len after
      ∙ ap Some (with_more s (events_for n w es) (events_for n w fs) ∙ ap (with_events s) (sym (joined n w es fs)));
}

-- ---- one event

chosen : (n w : ℕ) (e : Event) (b : Bool) → comes_to n w e ≡ b → events_for n w (e ∷ []) ≡ cond b (e ∷ []) []
unfolding events_for
chosen n w e b is = ap (λ t. cond t (e ∷ []) []) is

some_is : {A : Type 0} (x y : A) → Some x ≡ Some y → x ≡ y
some_is x y e = cc

set_same : (l : List SenderSeat) (v : ℕ) (x y : SenderSeat) → slice_get l v ≡ Some x → slice_get (set l v y) v ≡ Some y
set_same [] v x y e = absurd cc
set_same (t ∷ l) zero x y e = refl
set_same (t ∷ l) (suc v) x y e = set_same l v x y e

set_other : (l : List SenderSeat) (v w : ℕ) (y : SenderSeat) → v ≢ w → slice_get (set l v y) w ≡ slice_get l w
set_other [] v w y e = refl
set_other (t ∷ l) zero zero y e = absurd (e refl)
set_other (t ∷ l) zero (suc w) y e = refl
set_other (t ∷ l) (suc v) zero y e = refl
set_other (t ∷ l) (suc v) (suc w) y e = set_other l v w y (λ is. e (ap suc is))

pub send_one : (old new : PortSeats) (e : Event) → is_for_all e ≡ false → SendsTo old (home e (length old.seats)) e new → Sends old (e ∷ []) new
send_one old new e single sent =
    let n : ℕ = length old.seats in let v : ℕ = home e n in
    let u : SenderSeat = with_sent sent.seat (value_item sent.seat.number e) in
    let seats : new.seats ≡ set old.seats v u = ap (λ (p : PortSeats). p.seats) sent.stands in
    let comes : (w : ℕ) (b : Bool) → eqb v w ≡ b → events_for n w (e ∷ []) ≡ cond b (e ∷ []) [] =
    λ w b is. chosen n w e b (ap (λ t. t || eqb v w) single ∙ is) in record {
      still_open = ap (λ (p : PortSeats). p.is_open) sent.stands;
      missed = ap (λ (p : PortSeats). p.missed) sent.stands;
      len = ap length seats ∙ length-set old.seats v u;
      each = λ w s stood.
          ⊎_elim
          (λ k. let at : slice_get old.seats v ≡ Some s = ap (slice_get old.seats) k.1 ∙ stood in
          let same : sent.seat ≡ s = some_is sent.seat s (sym sent.stood ∙ at) in
          let P : SenderSeat → Type 0 = λ x. slice_get new.seats w ≡ Some (with_sent x (value_item x.number e)) in
          let got : slice_get new.seats w ≡ Some u =
          ap (λ l. slice_get l w) seats ∙ ap (slice_get (set old.seats v u)) (sym k.1) ∙ set_same old.seats v sent.seat u sent.stood in
          subst P same got ∙ ap (λ es. Some (with_events s es)) (sym (comes w true k.0)))
          (λ k. ap (λ l. slice_get l w) seats ∙ set_other old.seats v w u k.1 ∙ stood
          ∙ ap Some (kept s ∙ ap (with_events s) (sym (comes w false k.0))))
          (eqb_tells v w);
    }

first_at : (i w : ℕ) (e : Event) (seats : List SenderSeat) (s : SenderSeat) → w < i → slice_get seats w ≡ Some s
    → slice_get (sent_first i e seats) w ≡ Some (with_sent s (value_item s.number e))
first_at zero w e seats s low is = absurd (omega arith)
first_at (suc i) w e [] s low is = absurd cc
first_at (suc i) zero e (t ∷ seats) s low is = ap (λ x. Some (with_sent x (value_item x.number e))) (some_is t s is)
first_at (suc i) (suc w) e (t ∷ seats) s low is = first_at i w e seats s (omega arith) is

pub tick_one : (old new : PortSeats) (e : Event) → is_for_all e ≡ true → new ≡ sends_first (length old.seats) e old → Sends old (e ∷ []) new
tick_one old new e all is =
    let n : ℕ = length old.seats in record {
      still_open = ap (λ (p : PortSeats). p.is_open) is;
      missed = ap (λ (p : PortSeats). p.missed) is;
      len = ap (λ (p : PortSeats). length p.seats) is ∙ len_first n e old.seats;
      each = λ w s stood.
          ap (λ (p : PortSeats). slice_get p.seats w) is ∙ first_at n w e old.seats s (fits old.seats w s stood) stood
          ∙ ap (λ es. Some (with_events s es)) (sym (chosen n w e true (ap (λ t. t || (home e n == w)) all)));
    }

-- ---- what a port's calls answer

missed_send : (old new : PortSeats) (e : Event) (error : SendError) → old.is_open ≡ true → GivesBack old e new error → Misses old e new
missed_send old new e (send.Closed back) opened k = absurd (let f = k.2 in cc)
missed_send old new e (send.Gone back) opened k = record { reached = 0; few = λ _. k.3; single = λ _. refl; stands = k.1 }

pub sent_law : (r : Result (Unit {0}) SendError) (old new : PortSeats) (e : Event) → is_for_all e ≡ false → old.is_open ≡ true
    → MatchResult r (λ _. (old.is_open ≡ true) × SendsTo old (home e (length old.seats)) e new) (λ error. GivesBack old e new error)
    → MatchBool (is_ok r) (Sends old (e ∷ []) new) (Misses old e new)
sent_law (Ok x) old new e single opened k = send_one old new e single k.1
sent_law (Err x) old new e single opened k = missed_send old new e x opened k

missed_call : (old new : PortSeats) (e : Event) (error : TickError) → is_for_all e ≡ true → old.is_open ≡ true → TicksFirst old e new error → Misses old e new
missed_call old new e tick.Closed all opened k = absurd (let f = k.1 in cc)
missed_call old new e (tick.Gone i) all opened k = record { reached = i; few = λ _. k.2; single = λ f. absurd cc; stands = k.0 }

-- of what goes to all workers
pub called_law : (r : Result (Unit {0}) TickError) (old new : PortSeats) (e : Event) → is_for_all e ≡ true → old.is_open ≡ true
    → MatchResult r (λ _. (old.is_open ≡ true) × (new ≡ sends_first (length old.seats) e old)) (λ error. TicksFirst old e new error)
    → MatchBool (is_ok r) (Sends old (e ∷ []) new) (Misses old e new)
called_law (Ok x) old new e all opened k = tick_one old new e all k.1
called_law (Err x) old new e all opened k = missed_call old new e x all opened k
