-- That each event a port sent to a worker has its home there.
use Rattle.std.proofs.Common.{◌≡◌, ◌⊎◌, ⊎_elim, ℕ, zero, suc, ◌<◌, Bool, true, false, ◌||◌, eq-eqb, List, [], ◌∷◌, ◌++◌, length, map, get_or, set, reverse, Some, refl, ap, sym, ◌∙◌, subst, arith, inr}
use Rattle.std.specs.Prelude.{slice_get, ◌==◌, not}
use Rattle.std.specs.List.{All}
use Rattle.std.proofs.lemmas.List.{append-nil, get_or-set_other, get_or-set_same, length-set, get_or-map, length-map, nil_from_length}
use Rattle.std.proofs.lemmas.List.Elements.{All-nil, All-cons, All-head, All-tail, All-append, All-push}
use Rattle.std.proofs.lemmas.Bool.Decides.{eqb_tells}
use Rattle.std.proofs.lemmas.Option.{get_or_from_slice_get, slice_get-get_or, slice_get_within}
use Rattle.queues.specs.declared.items.Item.{Item}
use Rattle.queues.specs.Values.{values, value_item, end_item}
use Rattle.notifier_model.specs.declared.event.Event.{Event}
use Rattle.notifier_model.specs.Home.{home, is_for_all, comes_to}
use Rattle.queues.specs.InboxSeats.{Inbox, SenderSeat, with_sent}
use Rattle.crew.proofs.Folds.{values_value, values_end}
use Rattle.crew.specs.Ports.{PortSeats, new_seat, port_of, AreUnused, sent_first, sends_first, Closes, ClosesSome, SendsAt, SendsTo}
use Rattle.crew.specs.AtHome.{AreAtHome, SentHome, NewLaw, SendLaw, TickLaw, CloseLaw}
use Rattle.crew.specs.Calls.{call_event}
use Rattle.crew.specs.declared.port.Call.{Call}
use Rattle.crew.specs.declared.port.Call.TheVariants as call

-- all that a seat sent comes to worker w of n
abbrev Comes : ℕ → ℕ → SenderSeat → Type 0
Comes n w s = All (λ e. comes_to n w e ≡ true) (values s.sent)

-- each seat's, by its number
abbrev Home : ℕ → List SenderSeat → Type 0
Home n seats = (w : ℕ) (s : SenderSeat) → w < length seats → Comes n w (get_or seats w s)

at_home_all : (n : ℕ) (seats : List SenderSeat) → Home n seats → AreAtHome n seats
at_home_all n seats home w s is = subst (Comes n w) (get_or_from_slice_get seats w s s is) (home w s (slice_get_within seats w s is))

at_home_each : (n : ℕ) (seats : List SenderSeat) → AreAtHome n seats → Home n seats
at_home_each n seats home w s low = home w (get_or seats w s) (slice_get-get_or seats w s low)

comes_more : (n w p : ℕ) (e : Event) (s : SenderSeat) → comes_to n w e ≡ true → Comes n w s → Comes n w (with_sent s (value_item p e))
comes_more n w p e s here was =
    let P : Event → Type 0 = λ x. comes_to n w x ≡ true in
    subst (All P) (sym (values_value s.sent p e)) (All-push P (values s.sent) e was here)

comes_ended : (n w p : ℕ) (s : SenderSeat) → Comes n w s → Comes n w (with_sent s (end_item p))
comes_ended n w p s was = subst (All (λ e. comes_to n w e ≡ true)) (sym (values_end s.sent p)) was

or_true : (a b : Bool) → b ≡ true → (a || b) ≡ true
or_true true b e = refl
or_true false b e = e

true_or : (a b : Bool) → a ≡ true → (a || b) ≡ true
true_or true b e = refl
true_or false b e = absurd cc

at_home : (n : ℕ) (e : Event) → comes_to n (home e n) e ≡ true
at_home n e = or_true (is_for_all e) (home e n == home e n) (eq-eqb (home e n) (home e n) refl)

-- ---- a new port

new_home : (inboxes : List Inbox) (number n : ℕ) → Home n (port_of inboxes number).seats
new_home inboxes number n w s low =
    let P : ℕ → Type 0 = λ m. w < m in
    let inside : w < length inboxes = subst P (length-map inboxes (λ i. new_seat i number)) low in
    let Q : SenderSeat → Type 0 = λ x. Comes n w x in
    let i : Inbox = s.inbox in
    subst Q (sym (get_or-map (λ j. new_seat j number) inboxes w i s inside)) (All-nil (λ e. comes_to n w e ≡ true))

pub new_law : NewLaw
new_law inboxes number n = at_home_all n (port_of inboxes number).seats (new_home inboxes number n)

-- ---- a send

pub fits : (seats : List SenderSeat) (v : ℕ) (x : SenderSeat) → slice_get seats v ≡ Some x → v < length seats
fits [] v x e = absurd cc
fits (t ∷ seats) zero x e = omega arith
fits (t ∷ seats) (suc v) x e = let k = fits seats v x e in omega arith

send_home : (old new : PortSeats) (n : ℕ) (e : Event) → Home n old.seats → SendsTo old (home e n) e new → Home n new.seats
send_home old new n e was sent w s low =
    let v : ℕ = home e n in let t : SenderSeat = sent.seat in let u : SenderSeat = with_sent t (value_item t.number e) in
    let seats : new.seats ≡ set old.seats v u = ap (λ (p : PortSeats). p.seats) sent.stands in
    let inside : w < length old.seats = let l = ap length seats ∙ length-set old.seats v u in omega arith in
    let here : v < length old.seats = fits old.seats v t sent.stood in
    let Q : SenderSeat → Type 0 = λ x. Comes n w x in
    ⊎_elim
    (λ k. let same : w ≡ v = k.1 in
    let at : get_or new.seats w s ≡ u = ap (λ l. get_or l w s) seats ∙ ap (λ j. get_or (set old.seats v u) j s) same ∙ get_or-set_same old.seats v u s here in
    let is : get_or old.seats w s ≡ t = ap (λ j. get_or old.seats j s) same ∙ get_or_from_slice_get old.seats v t s sent.stood in
    let P : ℕ → Type 0 = λ j. comes_to n j e ≡ true in
    subst Q (sym at) (comes_more n w t.number e t (subst P (sym same) (at_home n e)) (subst Q is (was w s inside))))
    (λ k. let other = k.1 in
    subst Q (sym (ap (λ l. get_or l w s) seats ∙ get_or-set_other old.seats v w u s other)) (was w s inside))
    (eqb_tells w v)

pub send_law : SendLaw
send_law old new n e was sent = at_home_all n new.seats (send_home old new n e (at_home_each n old.seats was) sent)

-- ---- a tick

pub len_first : (i : ℕ) (e : Event) (seats : List SenderSeat) → length (sent_first i e seats) ≡ length seats
len_first zero e seats = refl
len_first (suc i) e [] = refl
len_first (suc i) e (s ∷ seats) = ap suc (len_first i e seats)

tick_at : (n o i w : ℕ) (e : Event) (seats : List SenderSeat) (s : SenderSeat) → comes_to n o e ≡ true → w < length seats → Comes n o (get_or seats w s) → Comes n o (get_or (sent_first i e seats) w s)
tick_at n o zero w e seats s here low was = was
tick_at n o (suc i) w e [] s here low was = absurd (omega arith)
tick_at n o (suc i) zero e (t ∷ seats) s here low was = comes_more n o t.number e t here was
tick_at n o (suc i) (suc w) e (t ∷ seats) s here low was = tick_at n o i w e seats s here (omega arith) was

tick_home : (old : PortSeats) (n i : ℕ) (e : Event) → is_for_all e ≡ true → Home n old.seats → Home n (sends_first i e old).seats
tick_home old n i e all was w s low =
    let inside : w < length old.seats = let l = len_first i e old.seats in omega arith in
    tick_at n w i w e old.seats s (true_or (is_for_all e) (home e n == w) all) inside (was w s inside)

pub tick_law : TickLaw
tick_law old n i e all was = at_home_all n (sends_first i e old).seats (tick_home old n i e all (at_home_each n old.seats was))

-- ---- closing

ended_at : (n o w : ℕ) (old : List SenderSeat) (s : SenderSeat) → (w < length old → Comes n o (get_or old w s)) → w < length old → Comes n o (get_or (map (λ x. with_sent x (end_item x.number)) old) w s)
ended_at n o w [] s was low = absurd (omega arith)
ended_at n o zero (t ∷ old) s was low = comes_ended n o t.number t (was low)
ended_at n o (suc w) (t ∷ old) s was low = ended_at n o w old s (λ k. was (omega arith)) (omega arith)

some_at : (n o w : ℕ) (old new : List SenderSeat) (s : SenderSeat) → ClosesSome old new → (w < length old → Comes n o (get_or old w s)) → w < length new → Comes n o (get_or new w s)
some_at n o w [] new s none was low = absurd (let e = ap length none in omega arith)
some_at n o zero (t ∷ old) new s (u, rest, is, told, more) was low =
    let Q : SenderSeat → Type 0 = λ x. Comes n o x in
    let at : get_or new zero s ≡ u = ap (λ l. get_or l zero s) is in
    let before : Q t = was (omega arith) in
    subst Q (sym at) (⊎_elim (λ e. subst Q (sym e) before) (λ e. subst Q (sym e) (comes_ended n o t.number t before)) told)
some_at n o (suc w) (t ∷ old) new s (u, rest, is, told, more) was low =
    let Q : SenderSeat → Type 0 = λ x. Comes n o x in
    let at : get_or new (suc w) s ≡ get_or rest w s = ap (λ l. get_or l (suc w) s) is in
    let inside : w < length rest = let e = ap length is in omega arith in
    subst Q (sym at) (some_at n o w old rest s more (λ k. was (omega arith)) inside)

all_at : (n w : ℕ) (b : Bool) (old new : PortSeats) (s : SenderSeat) → old.is_open ≡ b → Closes old new → (w < length old.seats → Comes n w (get_or old.seats w s)) → w < length new.seats → Comes n w (get_or new.seats w s)
all_at n w false old new s e closes was low =
    let P : PortSeats → Type 0 = λ p. w < length p.seats → Comes n w (get_or p.seats w s) in subst P (sym (closes.1 e)) was low
all_at n w true old new s e closes was low =
    let is : new.seats ≡ map (λ x. with_sent x (end_item x.number)) old.seats = ap (λ (p : PortSeats). p.seats) (closes.0 e) in
    let inside : w < length old.seats = let l = ap length is ∙ length-map old.seats (λ x. with_sent x (end_item x.number)) in omega arith in
    let P : List SenderSeat → Type 0 = λ l. Comes n w (get_or l w s) in subst P (sym is) (ended_at n w w old.seats s was inside)

close_home : (old new : PortSeats) (n : ℕ) → Home n old.seats → Closes old new ⊎ ClosesSome old.seats new.seats → Home n new.seats
close_home old new n was closes w s low =
    ⊎_elim (λ k. all_at n w old.is_open old new s refl k (was w s) low) (λ k. some_at n w w old.seats new.seats s k (was w s) low) closes

pub close_law : CloseLaw
close_law old new n was closes = at_home_all n new.seats (close_home old new n (at_home_each n old.seats was) closes)

-- ---- what a port keeps of that

-- (`senders` are the seats of an open port, `sents` those of a closed one from the last on: one of both lists is empty)

pub unused_home : (n : ℕ) (seats : List SenderSeat) → AreUnused seats → AreAtHome n seats
unused_home n seats none w s is =
    let P : Event → Type 0 = λ e. comes_to n w e ≡ true in
    let same : get_or seats w s ≡ s = get_or_from_slice_get seats w s s is in
    let unsent : s.sent ≡ [] = subst (λ (x : SenderSeat). x.sent ≡ []) same (none w s (slice_get_within seats w s is)) in
    subst (λ (l : List (Item Event)). All P (values l)) (sym unsent) (All-nil P)

pub none_home : (senders sents : List SenderSeat) → senders ≡ [] → sents ≡ [] → SentHome (senders ++ reverse sents)
none_home senders sents none none' =
    let is : senders ++ reverse sents ≡ [] = ap (λ l. l ++ reverse sents) none ∙ ap reverse none' in
    subst SentHome (sym is) (λ w s at. absurd (let l = slice_get_within [] w s at in omega arith))

both_unused : (xs ys : List SenderSeat) → AreUnused (xs ++ ys) → AreUnused xs × AreUnused ys
both_unused [] ys all = (All-nil (λ (s : SenderSeat). s.sent ≡ []), all)
both_unused (x ∷ xs) ys all =
    let P : SenderSeat → Type 0 = λ s. s.sent ≡ [] in
    let rest = both_unused xs ys (All-tail P x (xs ++ ys) all) in
    (All-cons P x xs (All-head P x (xs ++ ys) all) rest.0, rest.1)

pub same_home : (senders sents senders' sents' : List SenderSeat) → senders' ≡ senders → sents' ≡ sents → SentHome (senders ++ reverse sents) → SentHome (senders' ++ reverse sents')
same_home senders sents senders' sents' same same' was =
    let is : senders' ++ reverse sents' ≡ senders ++ reverse sents = λ i. same i ++ reverse (same' i) in
    subst SentHome (sym is) was

-- with one seat more, where nothing was sent
pub seated_home : (senders sents senders' sents' : List SenderSeat) (s : SenderSeat) → AreUnused (senders ++ reverse sents) → s.sent ≡ [] → senders' ≡ senders ++ s ∷ [] → sents' ≡ sents → SentHome (senders' ++ reverse sents')
seated_home senders sents senders' sents' s unused new more same =
    let P : SenderSeat → Type 0 = λ x. x.sent ≡ [] in
    let parts = both_unused senders (reverse sents) unused in
    let seats : List SenderSeat = (senders ++ s ∷ []) ++ reverse sents in
    let is : senders' ++ reverse sents' ≡ seats = λ i. more i ++ reverse (same i) in
    subst SentHome (sym is) (unused_home (length seats) seats (All-append P (senders ++ s ∷ []) (reverse sents) (All-push P senders s parts.0 new) parts.1))

-- nothing stands behind the senders of an open port
alone : (senders sents : List SenderSeat) → length sents ≡ 0 → senders ++ reverse sents ≡ senders
alone senders sents none = ap (λ l. senders ++ reverse l) (nil_from_length sents none) ∙ append-nil senders

pub sent_home : (senders sents senders' : List SenderSeat) (at : ℕ) (e : Event) → length sents ≡ 0 → at ≡ home e (length senders) → SentHome (senders ++ reverse sents) → SendsAt senders at e senders' → SentHome (senders' ++ reverse sents)
sent_home senders sents senders' at e none there was sends =
    let n : ℕ = length senders in
    let old : PortSeats = record { is_open = true; seats = senders; missed = 0 } in
    let new : PortSeats = record { is_open = true; seats = senders'; missed = 0 } in
    let before : AreAtHome n senders = subst SentHome (alone senders sents none) was in
    let sent : SendsTo old at e new = record { seat = sends.seat; stood = sends.stood; stands = ap (λ (l : List SenderSeat). let p : PortSeats = record { is_open = true; seats = l; missed = 0 } in p) sends.stands } in
    let after : AreAtHome n senders' = send_law old new n e before (subst (λ (k : ℕ). SendsTo old k e new) there sent) in
    let size : length senders' ≡ n = ap length sends.stands ∙ length-set senders at (with_sent sends.seat (value_item sends.seat.number e)) in
    subst SentHome (sym (alone senders' sents none)) (subst (λ (m : ℕ). AreAtHome m senders') (sym size) after)

pub opened : (b : Bool) → false ≡ not b → b ≡ true
opened true e = refl
opened false e = absurd cc

call_all : (c : Call) → is_for_all (call_event c) ≡ true
call_all (call.Tick now) = refl
call_all call.Shut = refl

pub called_home : (senders sents senders' : List SenderSeat) (i : ℕ) (c : Call) → length sents ≡ 0 → SentHome (senders ++ reverse sents) → senders' ≡ sent_first i (call_event c) senders → SentHome (senders' ++ reverse sents)
called_home senders sents senders' i c none was is =
    let n : ℕ = length senders in
    let old : PortSeats = record { is_open = true; seats = senders; missed = 0 } in
    let before : AreAtHome n senders = subst SentHome (alone senders sents none) was in
    let after : AreAtHome n senders' = subst (AreAtHome n) (sym is) (tick_law old n i (call_event c) (call_all c) before) in
    let size : length senders' ≡ n = ap length is ∙ len_first i (call_event c) senders in
    subst SentHome (sym (alone senders' sents none)) (subst (λ (m : ℕ). AreAtHome m senders') (sym size) after)

some_len : (old new : List SenderSeat) → ClosesSome old new → length new ≡ length old
some_len [] new none = ap length none
some_len (s ∷ old) new (t, rest, is, told, more) = ap length is ∙ ap suc (some_len old rest more)

pub closed_home : (all olds senders senders' sents : List SenderSeat) → SentHome all → all ≡ senders ++ olds → senders ≡ [] → senders' ≡ [] → ClosesSome olds (reverse sents) → SentHome (senders' ++ reverse sents)
closed_home all olds senders senders' sents was whole none none' closes =
    let n : ℕ = length olds in
    let old : PortSeats = record { is_open = true; seats = olds; missed = 0 } in
    let new : PortSeats = record { is_open = false; seats = reverse sents; missed = 0 } in
    let before : SentHome olds = subst SentHome (whole ∙ ap (λ l. l ++ olds) none) was in
    let after : AreAtHome n (reverse sents) = close_law old new n before (inr closes) in
    subst SentHome (sym (ap (λ l. l ++ reverse sents) none')) (subst (λ (m : ℕ). AreAtHome m (reverse sents)) (sym (some_len olds (reverse sents) closes)) after)
