-- What ports keep, and how a taker comes to all ends.
use Rattle.std.proofs.Common.{◌≡◌, inl, inr, ⊎_elim, ℕ, zero, suc, ◌+◌, ◌<◌, ◌≤◌, Bool, false, List, [], ◌∷◌, ◌++◌, length, map, get_or, take, drop, true, refl, ap, sym, ◌∙◌, subst, arith}
use Rattle.std.specs.Prelude.{MatchResult, OnErr, Result, Ok, Err, Some, slice_get, slice_set}
use Rattle.std.proofs.lemmas.Bool.{lt-ltb}
use Rattle.std.proofs.lemmas.List.{get_or-map, length-map}
use Rattle.queues.specs.declared.items.Item.{Item}
use Rattle.queues.specs.Items.{items_of, has_end}
use Rattle.queues.specs.Ended.{count_ended, AllEnded}
use Rattle.queues.proofs.Ended.{ended_value, ended_more, ended_none, all_ended}
use Rattle.notifier.specs.Standing.{Standing}
use Rattle.notifier_model.specs.declared.event.Event.{Event}
use Rattle.notifier_model.specs.declared.event.Out.{Out}
use Rattle.queues.specs.Values.{end_item, value_item}
use Rattle.queues.specs.InboxSeats.{SenderSeat, ReceiverSeat, with_sent}
use Rattle.queues.specs.OutboxSeats.{TakerSeat, PosterSeat}
use Rattle.queues.specs.OutboxTook.{Took}
use Rattle.queues.specs.declared.outbox.Posted.{Posted}
use Rattle.queues.specs.declared.outbox.Posted.TheVariants as posted
use Rattle.crew.specs.Ports.{PortSeats, new_seat, Closes, ClosesSome, OneStays, IsLeftByClose, SendsTo, sends_first}
use Rattle.crew.specs.PortErrors.{GivesBack, TicksFirst}
use Rattle.crew.specs.declared.errors.SendError.{SendError}
use Rattle.crew.specs.declared.errors.SendError.TheVariants as send
use Rattle.crew.specs.declared.errors.TickError.{TickError}
use Rattle.crew.specs.declared.errors.TickError.TheVariants as tick
use Rattle.crew.specs.Kept.{emptied, SameSeats, AllClosed}
use Rattle.crew.specs.Started.{Hired, HaveBegun}
use Rattle.crew.specs.Joined.{HasEndOf, IsSeatOf, IsPortOf}
use Rattle.crew.proofs.Zipped.{zipped}

some_keep : (old new : List SenderSeat) → ClosesSome old new → map emptied new ≡ map emptied old
some_keep [] new none = ap (map emptied) none
some_keep (s ∷ old) new (t, rest, is, told, more) =
    let one : emptied t ≡ emptied s = ⊎_elim (λ e. ap emptied e) (λ e. ap emptied e) told in
    let others = some_keep old rest more in
    ap (map emptied) is ∙ (λ i. one i ∷ others i)

ended_keep : (old : List SenderSeat) → map emptied (map (λ s. with_sent s (end_item s.number)) old) ≡ map emptied old
ended_keep [] = refl
ended_keep (s ∷ old) = ap (λ l. emptied s ∷ l) (ended_keep old)

ends_keep : (b : Bool) (old new : PortSeats) → old.is_open ≡ b → Closes old new → SameSeats old new
ends_keep true old new e k = ap (λ (p : PortSeats). map emptied p.seats) (k.0 e) ∙ ended_keep old.seats
ends_keep false old new e k = ap (λ (p : PortSeats). map emptied p.seats) (k.1 e)

pub close_keeps : {A B : Type 0} (r : Result A B) (old new : PortSeats) → MatchResult r (λ _. Closes old new) (λ _. ClosesSome old.seats new.seats) → SameSeats old new
close_keeps (Ok x) old new k = ends_keep old.is_open old new refl k
close_keeps (Err x) old new k = some_keep old.seats new.seats k

-- however `close` answers
pub is_shut : {A B : Type 0} (r : Result A B) (old new : PortSeats) → MatchResult r (λ _. Closes old new) (λ _. ClosesSome old.seats new.seats)
    → OnErr r (OneStays old.seats new.seats) → IsLeftByClose old new
is_shut (Ok x) old new ends left = inl ends
is_shut (Err x) old new ends left = inr (ends, left)

-- ---- closing all

-- the first n ports are closed, and the others are as they were
pub record Closing (old new : List PortSeats) (n : ℕ) : Type 0 where
  pub len : length new ≡ length old
  pub closed : (k : ℕ) (p : PortSeats) → k < n → (get_or new k p).is_open ≡ false
  pub seats : (k : ℕ) (p : PortSeats) → k < n → SameSeats (get_or old k p) (get_or new k p)
  pub rest : (k : ℕ) (p : PortSeats) → n ≤ k → get_or new k p ≡ get_or old k p

-- ---- taking all

pub record Taking (t0 t : TakerSeat) (left : ℕ) : Type 0 where
  pub outbox : t.outbox ≡ t0.outbox
  pub workers : t.workers ≡ t0.workers
  pub left_is : left + count_ended t0.workers t.got ≡ t0.workers

pub taking_first : (t : TakerSeat) (left : ℕ) → t.got ≡ [] → left ≡ t.workers → Taking t t left
taking_first t left none all = record { outbox = refl; workers = refl; left_is = (let e = ended_none t.workers t.got none in omega arith) }

pub taking_out : (t0 t u : TakerSeat) (left w : ℕ) (out : Out) → Taking t0 t left → Took t (posted.Out w out) u → Taking t0 u left
taking_out t0 t u left w out was took =
    let more : count_ended t0.workers u.got ≡ count_ended t0.workers t.got = ap (λ (x : TakerSeat). count_ended t0.workers x.got) took.0 ∙ ended_value t0.workers t.got (value_item w out) refl in record {
      outbox = ap (λ (x : TakerSeat). x.outbox) took.0 ∙ was.outbox;
      workers = ap (λ (x : TakerSeat). x.workers) took.0 ∙ was.workers;
      left_is = (let l = was.left_is in omega arith);
    }

pub taking_end : (t0 t u : TakerSeat) (left left' w : ℕ) → Taking t0 t left → Took t (posted.Ended w) u → left' + 1 ≡ left → Taking t0 u left'
taking_end t0 t u left left' w was took one =
    let low : w < t0.workers = subst (λ n. w < n) was.workers took.1.0 in
    let more : count_ended t0.workers u.got ≡ count_ended t0.workers t.got + 1 = ap (λ (x : TakerSeat). count_ended t0.workers x.got) took.0 ∙ ended_more t0.workers t.got (end_item w) refl low took.1.1 in record {
      outbox = ap (λ (x : TakerSeat). x.outbox) took.0 ∙ was.outbox;
      workers = ap (λ (x : TakerSeat). x.workers) took.0 ∙ was.workers;
      left_is = (let l = was.left_is in omega arith);
    }

pub taking_none : (t0 t u : TakerSeat) (left : ℕ) → Taking t0 t left → u ≡ t → Taking t0 u left
taking_none t0 t u left was same = let P : TakerSeat → Type 0 = λ x. Taking t0 x left in subst P (sym same) was

pub all_taken : (t0 t : TakerSeat) (left : ℕ) → Taking t0 t left → left ≡ 0 → AllEnded t0.workers t.got
all_taken t0 t left was none = all_ended t0.workers t.got (let l = was.left_is in omega arith)

pub took_as : (t u : TakerSeat) (x y : Posted) → x ≡ y → Took t x u → Took t y u
took_as t u x y is took = let P : Posted → Type 0 = λ z. Took t z u in subst P is took

-- ---- what was dealt

-- the ports of a crew that was just started are open
pub started_open : {stands : ℕ → Standing} {workers n : ℕ} {crew : List Hired} {ports : List PortSeats} {taker : TakerSeat}
    → HaveBegun stands workers n crew ports taker → 0 < workers → (k : ℕ) (p : PortSeats) → k < n → (get_or ports k p).is_open ≡ true
started_open {crew = crew} is some k p low =
    let size = length-map crew (λ (h : Hired). h.reads.inbox) in
    let len = is.len in
    ap (λ (x : PortSeats). x.is_open) (is.dealt.each k p low)
    ∙ lt-ltb 0 (length (map (λ (h : Hired). h.reads.inbox) crew)) (omega (arith, size, len, some))

-- ---- what `join` asks

seats_map : (p : ℕ) (crew : List Hired) → map emptied (map (λ i. new_seat i p) (map (λ (h : Hired). h.reads.inbox) crew)) ≡ map (λ (h : Hired). new_seat h.reads.inbox p) crew
seats_map p [] = refl
seats_map p (h ∷ crew) = ap (λ l. new_seat h.reads.inbox p ∷ l) (seats_map p crew)

module _ {stands : ℕ → Standing} {workers n : ℕ} {crew : List Hired} {ports : List PortSeats} {taker : TakerSeat} (is : HaveBegun stands workers n crew ports taker) where
  pub started_port : (new : List PortSeats) → AllClosed ports new → (p : ℕ) (q : PortSeats) → p < length new → IsPortOf crew (get_or new p q)
  started_port new all p q low =
      let low_old : p < length ports = let l = all.len in omega arith in
      let low_n : p < n = let l = is.dealt.len in omega arith in
      let port : PortSeats = get_or new p q in
      let same : map emptied port.seats ≡ map (λ (h : Hired). new_seat h.reads.inbox p) crew =
      all.seats p q low_old ∙ ap (λ (x : PortSeats). map emptied x.seats) (is.dealt.each p q low_n) ∙ seats_map p crew in
      let len : length port.seats ≡ length crew = sym (length-map port.seats emptied) ∙ ap length same ∙ length-map crew (λ (h : Hired). new_seat h.reads.inbox p) in record {
        closed = all.closed p q low_old;
        seats = zipped IsSeatOf crew port.seats len (λ w h s inside.
            let there : w < workers = let l = is.len in omega arith in
            let at : emptied (get_or port.seats w s) ≡ new_seat (get_or crew w h).reads.inbox p =
            sym (get_or-map emptied port.seats w s s (omega arith)) ∙ ap (λ l. get_or l w s) same ∙ get_or-map (λ (x : Hired). new_seat x.reads.inbox p) crew w h s inside in
            let count : (get_or crew w h).reads.ports ≡ n = ap (λ (r : ReceiverSeat). r.ports) ((is.each w h there).hears) in record {
              inbox = ap (λ (x : SenderSeat). x.inbox) at;
              number = (let e = ap (λ (x : SenderSeat). x.number) at in omega arith);
            });
      }

  pub started_end : (now : TakerSeat) → now.outbox ≡ taker.outbox → AllEnded taker.workers now.got → (w : ℕ) (h : Hired) → w < length crew → HasEndOf now (get_or crew w h)
  started_end now same all w h inside =
      let there : w < workers = let l = is.len in omega arith in
      let tells = (is.each w h there).tells in
      let count : taker.workers ≡ workers = ap (λ (t : TakerSeat). t.workers) is.takes in
      let P : ℕ → Type 0 = λ k. has_end (items_of k now.got) ≡ true in record {
        outbox = ap (λ (x : PosterSeat). x.outbox) tells ∙ sym same;
        mark = subst P (sym (ap (λ (x : PosterSeat). x.number) tells)) (all w (omega arith));
      }

-- ---- sends keep the seats

set_keep : (seats : List SenderSeat) (w : ℕ) (s : SenderSeat) (x : Item Event) → slice_get seats w ≡ Some s → map emptied (slice_set seats w (with_sent s x)) ≡ map emptied seats
set_keep [] w s x e = refl
set_keep (t ∷ seats) zero s x e = let same : t ≡ s = cc in ap (λ u. emptied u ∷ map emptied seats) (sym same)
set_keep (t ∷ seats) (suc w) s x e = ap (λ l. emptied t ∷ l) (set_keep seats w s x e)

pub send_keeps : (old : PortSeats) (w : ℕ) (event : Event) (new : PortSeats) → SendsTo old w event new → SameSeats old new
send_keeps old w event new k = ap (λ (p : PortSeats). map emptied p.seats) k.stands ∙ set_keep old.seats w k.seat (value_item k.seat.number event) k.stood

first_keep : (i : ℕ) (event : Event) (seats : List SenderSeat) → map emptied (map (λ s. with_sent s (value_item s.number event)) (take i seats) ++ drop i seats) ≡ map emptied seats
first_keep zero event seats = refl
first_keep (suc i) event [] = refl
first_keep (suc i) event (s ∷ seats) = ap (λ l. emptied s ∷ l) (first_keep i event seats)

pub tick_keeps : (i : ℕ) (event : Event) (old : PortSeats) → SameSeats old (sends_first i event old)
tick_keeps i event old = first_keep i event old.seats

given_back : (old new : PortSeats) (e : Event) (error : SendError) → GivesBack old e new error → SameSeats old new
given_back old new e (send.Closed back) k = ap (λ (p : PortSeats). map emptied p.seats) k.1
given_back old new e (send.Gone back) k = ap (λ (p : PortSeats). map emptied p.seats) k.1

-- whatever a port's calls answer
pub sent_keeps : (r : Result (Unit {0}) SendError) (old new : PortSeats) (w : ℕ) (e : Event) → MatchResult r (λ _. (old.is_open ≡ true) × SendsTo old w e new) (λ error. GivesBack old e new error) → SameSeats old new
sent_keeps (Ok x) old new w e k = send_keeps old w e new k.1
sent_keeps (Err x) old new w e k = given_back old new e x k

ticked_less : (old new : PortSeats) (e : Event) (error : TickError) → TicksFirst old e new error → SameSeats old new
ticked_less old new e tick.Closed k = ap (λ (p : PortSeats). map emptied p.seats) k.0
ticked_less old new e (tick.Gone i) k = ap (λ (p : PortSeats). map emptied p.seats) k.0 ∙ tick_keeps i e old

pub ticked_keeps : (r : Result (Unit {0}) TickError) (old new : PortSeats) (e : Event) → MatchResult r (λ _. (old.is_open ≡ true) × (new ≡ sends_first (length old.seats) e old)) (λ error. TicksFirst old e new error) → SameSeats old new
ticked_keeps (Ok x) old new e k = ap (λ (p : PortSeats). map emptied p.seats) k.1 ∙ tick_keeps (length old.seats) e old
ticked_keeps (Err x) old new e k = ticked_less old new e x k
