-- How a crew is joined.
use Rattle.std.proofs.Common.{◌≡◌, ℕ, ◌+◌, ◌<◌, Bool, true, List, [], ◌∷◌, ◌++◌, length, map, get_or, set, take, drop, reverse, refl, ap, sym, ◌∙◌, subst, arith, length-append, append_assoc, below_more}
use Rattle.std.proofs.lemmas.List.{get_or_at, get_or_default, get_or-map, set-get_or, reverse-append, length-map, length-reverse}
use Rattle.std.proofs.lemmas.Grind.{common_steps}
use Rattle.queues.specs.declared.items.Item.{Item}
use Rattle.queues.specs.Ended.{AllEnded}
use Rattle.queues.specs.Items.{items_of, has_end, StartsWith, TookInOrder}
use Rattle.notifier_model.specs.declared.event.Event.{Event}
use Rattle.notifier_model.specs.declared.event.Out.{Out}
use Rattle.queues.specs.InboxSeats.{SenderSeat}
use Rattle.queues.specs.OutboxSeats.{TakerSeat}
use Rattle.queues.specs.Values.{values, values_by, end_item}
use Rattle.crew.specs.Worked.{Ends}
use Rattle.crew.specs.Worked.{IsWorked}
use Rattle.crew.specs.Ports.{PortSeats}
use Rattle.crew.specs.Started.{Hired}
use Rattle.crew.specs.Joined.{HasEndOf, IsSeatOf, IsPortOf, Reported, Arrived, IsHeard, IsJoined}
use Rattle.crew.specs.AtHome.{AreAtHome, SentHome}
use Rattle.crew.specs.Settled.{AreSeatsOf, HaveCome}
use Rattle.crew.specs.declared.report.WorkerReport.{WorkerReport}
use Rattle.crew.specs.declared.end.Done.{Done}
use Rattle.crew.specs.declared.end.End.{End}
use Rattle.crew.specs.declared.end.End.TheVariants as end
use Rattle.crew.proofs.Folds.{values_end}
use Rattle.crew.proofs.Starting.{element}
use Rattle.crew.proofs.Zipped.{zipped, zip_len, zip_at}

values_back : {T : Type 0} (w : ℕ) (xs : List T) → values (values_by w xs) ≡ xs
values_back w [] = refl
values_back w (x ∷ xs) = ap (λ l. x ∷ l) (values_back w xs)

values_got : {T : Type 0} (w : ℕ) (got posted : List (Item T)) (xs : List T) → items_of w got ≡ posted → posted ≡ values_by w xs ++ end_item w ∷ [] → values (items_of w got) ≡ xs
values_got w got posted xs all is = ap values (all ∙ is) ∙ values_end (values_by w xs) w ∙ values_back w xs

abbrev pub row_of : Done → WorkerReport
row_of d = record { receiver = d.receiver; handled = d.handled; made = d.made; end = d.end }

pub reported : (h : Hired) (taker : TakerSeat) (d : Done) → HasEndOf taker h → IsWorked h.stands h.reads h.posts d → TookInOrder d.poster.number taker.got d.poster.posted → Reported h taker.got (row_of d)
reported h taker d ended k came =
    let P : ℕ → Type 0 = λ n. has_end (items_of n taker.got) ≡ true → items_of n taker.got ≡ d.poster.posted in
    let whole : P h.posts.number = subst P k.same.number came.1 in record {
      inbox = k.same.inbox;
      ports = k.same.ports;
      among = k.among;
      ends = k.ends;
      outs = values_got h.posts.number taker.got d.poster.posted _ (whole ended.mark) k.posted;
      total = k.total;
    }

-- ---- the seats of one port

pub record Settling (rows0 reports : List WorkerReport) (seats left : List SenderSeat) (at : ℕ) : Type 0 where
  pub front : List SenderSeat
  pub whole : seats ≡ front ++ reverse left
  pub count : length front ≡ at
  pub same : reports ≡ rows0
  pub came : HaveCome rows0 seats at

module _ {rows0 reports : List WorkerReport} {seats left : List SenderSeat} {at : ℕ} (was : Settling rows0 reports seats left at) (fits : AreSeatsOf rows0 seats) where
  pub all_settled : length left ≡ 0 → HaveCome rows0 seats (length rows0)
  all_settled none =
      let size : length seats ≡ at = ap length was.whole ∙ length-append was.front (reverse left) ∙ (let a = was.count in let b = length-reverse left in omega arith) in
      subst (HaveCome rows0 seats) (sym size ∙ fits.len) was.came

  module _ (rest : List SenderSeat) (s : SenderSeat) (more : left ≡ rest ++ s ∷ []) where
    cut : seats ≡ was.front ++ s ∷ reverse rest
    cut = was.whole ∙ ap (λ l. was.front ++ l) (ap reverse more ∙ reverse-append rest (s ∷ []))

    here : (d : SenderSeat) → get_or seats at d ≡ s
    here d = ap (λ l. get_or l at d) cut ∙ get_or_at was.front s (reverse rest) d at was.count

    low0 : at < length rows0
    low0 = let a = was.count in let size = ap length cut ∙ length-append was.front (s ∷ reverse rest) in let len = fits.len in omega arith

    pub low : at < length reports
    low = subst (λ (l : List WorkerReport). at < length l) (sym was.same) low0

    row_is : (x : WorkerReport) → x ≡ get_or reports at x → get_or rows0 at x ≡ x
    row_is x is = ap (λ (l : List WorkerReport). get_or l at x) (sym was.same) ∙ sym is

    pub inbox_is : (x : WorkerReport) → x ≡ get_or reports at x → s.inbox ≡ x.receiver.inbox
    inbox_is x is = ap (λ (p : SenderSeat). p.inbox) (sym (here s)) ∙ fits.inboxes at s x low0 ∙ ap (λ (r : WorkerReport). r.receiver.inbox) (row_is x is)

    pub settling_more : (x y : WorkerReport) → x ≡ get_or reports at x → y ≡ x → TookInOrder s.number x.receiver.taken s.sent → Settling rows0 (set reports at y) seats rest (at + 1)
    settling_more x y is kept came = record {
      front = was.front ++ s ∷ [];
      whole = cut ∙ sym (append_assoc was.front (s ∷ []) (reverse rest));
      count = length-append was.front (s ∷ []) ∙ ap (λ n. n + 1) was.count;
      same = ap (λ z. set reports at z) (kept ∙ is) ∙ set-get_or reports at x ∙ was.same;
      came = λ k d r less.
          let P : ℕ → Type 0 = λ j. TookInOrder (get_or seats j d).number (get_or rows0 j r).receiver.taken (get_or seats j d).sent in
          let Q : SenderSeat → WorkerReport → Type 0 = λ p z. TookInOrder p.number z.receiver.taken p.sent in
          let now : P at = subst (λ (p : SenderSeat). Q p (get_or rows0 at r)) (sym (here d)) (subst (λ (z : WorkerReport). Q s z) (sym (row_is x is) ∙ get_or_default rows0 at x r low0) came) in
          below_more P at (λ j j_less. was.came j d r j_less) now k less;
    }

-- ---- what is told

arrived : (stop : Bool) (n handled : ℕ) (e : End) (taken sent came : List (Item Event)) → (AllEnded n taken → came ≡ sent) → StartsWith sent came → Ends stop n taken handled e → Arrived e sent came
arrived stop n handled end.Closed taken sent came all some k = all k.0
arrived stop n handled (end.NoMemory j) taken sent came all some k = all k.0
arrived stop n handled (end.Abandoned full) taken sent came all some k = some

pub heard : (h : Hired) (got : List (Item Out)) (report : WorkerReport) (seat : SenderSeat) → Reported h got report → seat.number < h.reads.ports → TookInOrder seat.number report.receiver.taken seat.sent → IsHeard report seat
heard h got report seat told low came =
    let all : AllEnded h.reads.ports report.receiver.taken → items_of seat.number report.receiver.taken ≡ seat.sent = λ ended. came.1 (ended seat.number low) in
    record { arrived = arrived h.stands.place.stop h.reads.ports report.handled report.end report.receiver.taken seat.sent (items_of seat.number report.receiver.taken) all came.0 told.ends; came = came }

-- an element of a list, and its image among the images
pub image_at : {A B : Type 0} (f : A → B) (xs : List A) (ys : List B) (k : ℕ) (x : A) (y : B) → map f xs ≡ ys → k < length xs → f (get_or xs k x) ≡ get_or ys k y
image_at f xs ys k x y is low = sym (get_or-map f xs k x y low) ∙ ap (λ l. get_or l k y) is

pub images_are : {A B : Type 0} (f : A → B) (xs : List A) (ys : List B) → map f xs ≡ ys → length ys ≡ length xs
images_are f xs ys is = sym (ap length is) ∙ length-map xs f

-- a report for each worker
pub record Reports (crew : List Hired) (got : List (Item Out)) (reports : List WorkerReport) : Type 0 where
  pub len : length reports ≡ length crew
  pub told : (w : ℕ) (h : Hired) (r : WorkerReport) → w < length crew → Reported (get_or crew w h) got (get_or reports w r)

pub rows_are : {A : Type 0} (f : A → Hired) (workers : List A) (crew : List Hired) (got : List (Item Out)) (reports : List WorkerReport) (n m : ℕ) → map f workers ≡ crew → n ≡ length workers → m ≡ n → m ≡ length reports
    → ((k : ℕ) (h : A) (r : WorkerReport) → k < n → Reported (f (get_or workers k h)) got (get_or reports k r)) → Reports crew got reports
rows_are {A} f workers crew got reports n m is size same len told =
    let images = images_are f workers crew is in record {
      len = omega arith;
      told = λ w h r low.
          let inside : w < length workers = omega arith in let x : A = element workers w inside in
          let P : Hired → Type 0 = λ y. Reported y got (get_or reports w r) in subst P (image_at f workers crew w x h is inside) (told w x r (omega arith));
    }

module _ {crew : List Hired} {got : List (Item Out)} {reports : List WorkerReport} (all : Reports crew got reports) where
  pub seats_fit : (port : PortSeats) → IsPortOf crew port → AreSeatsOf reports port.seats
  seats_fit port is = let len = all.len in record {
    len = zip_len IsSeatOf crew port.seats is.seats ∙ sym len;
    inboxes = λ k s r low.
        let inside : k < length crew = omega arith in let h : Hired = element crew k inside in
        (zip_at IsSeatOf crew port.seats is.seats k h s inside).inbox ∙ sym ((all.told k h r inside).inbox);
  }

  pub joined : (ports : List PortSeats) → ((p : ℕ) (q : PortSeats) → p < length ports → IsPortOf crew (get_or ports p q))
      → ((p : ℕ) (q : PortSeats) → p < length ports → HaveCome reports (get_or ports p q).seats (length reports))
      → ((p : ℕ) (q : PortSeats) → p < length ports → SentHome (get_or ports p q).seats) → IsJoined crew ports got reports
  joined ports are came home = let len = all.len in record {
    home = λ p q among. subst (λ (n : ℕ). AreAtHome n (get_or ports p q).seats) (zip_len IsSeatOf crew (get_or ports p q).seats (are p q among).seats) (home p q among);
    reported = zipped (λ (h : Hired) (r : WorkerReport). Reported h got r) crew reports len all.told;
    heard = λ p q among.
        let seats : List SenderSeat = (get_or ports p q).seats in
        let are_seats = (are p q among).seats in
        zipped IsHeard reports seats (zip_len IsSeatOf crew seats are_seats ∙ sym len) (λ w r s low.
        let inside : w < length crew = omega arith in
        let h : Hired = element crew w inside in
        heard (get_or crew w h) got (get_or reports w r) (get_or seats w s) (all.told w h r inside) (zip_at IsSeatOf crew seats are_seats w h s inside).number (came p q among w s r low));
  }

pub written_back : {A : Type 0} (n : ℕ) (ws xs : List A) → length ws ≡ n → take n (ws ++ drop (length ws) xs) ≡ ws
written_back n ws xs e = grind (arith, common_steps)
