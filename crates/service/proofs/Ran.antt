-- A crew that ran as a service to its end.
use Rattle.std.proofs.Common.{◌≡◌, ℕ, List, [], ◌∷◌, refl, sym, subst}
use Rattle.std.specs.Prelude.{IfOk, IfErr, OnErr, Result, Ok, Err}
use Rattle.admission.specs.declared.judging.Admission.{Admission}
use Rattle.queues.specs.declared.items.Item.{Item}
use Rattle.notifier_model.specs.declared.event.Out.{Out}
use Rattle.queues.specs.OutboxSeats.{TakerSeat}
use Rattle.crew.specs.Ports.{PortSeats}
use Rattle.notifier.specs.Standing.{Standing, first_standing}
use Rattle.crew.specs.Started.{Hired, HaveBegun}
use Rattle.crew.proofs.Starting.{begun_as}
use Rattle.crew.specs.Joined.{IsJoined}
use Rattle.crew.specs.declared.report.WorkerReport.{WorkerReport}
use Rattle.feeds.specs.declared.sending.EmitReport.{EmitReport}
use Rattle.feeds.specs.declared.feeding.FeedEnd.{FeedEnd}
use Rattle.transactions.specs.declared.allowance.Allowance.{Allowance}
use Rattle.transactions.specs.Machine.{State}
use Rattle.service.specs.declared.feeding.Task.{Task}
use Rattle.service.specs.declared.begins.Begins.{Begins}
use Rattle.service.specs.declared.running.Feeders.{Feeders}
use Rattle.service.specs.declared.running.ServiceEnd.{ServiceEnd}
use Rattle.service.specs.declared.running.Sources.{Sources}
use Rattle.service.specs.Handing.{AreErrands}
use Rattle.service.specs.Sending.{Act, Outflow, IsSentOut, open_first}
use Rattle.service.specs.Running.{SendsDatagrams, SendsLines, SendsTicks, SendsFor, ThenCloses, Opening, IsFresh, Beginning, beginning, Runs, Leaves, BeginsAnewLaw}
use Rattle.service.specs.Taken.{DeskSeen, seen}
use Rattle.service.proofs.Closed.{taker_new, taker_workers}

pub on_ok : {T E : Type 0} {P Q : T → Type 0} (r : Result T E) → IfOk r P → ((x : T) → P x → Q x) → IfOk r Q
on_ok (Ok x) p f = f x p
on_ok (Err e) p f = p

-- what came of an error that has one cause
module _ {T E P : Type 0} where
  pub no_other : (r : Result T E) (a b : E) → IfErr r (λ e. e ≡ a) → r ≡ Err b → (a ≡ b → ⊥) → P
  no_other (Ok x) a b is e apart = absurd cc
  no_other (Err f) a b is e apart = absurd (apart cc)

pub on_err : {T E P Q : Type 0} (r : Result T E) → OnErr r P → (P → Q) → OnErr r Q
on_err (Ok x) p f = p
on_err (Err e) p f = f p

pub leaves : (begins : Beginning) {workers : ℕ} {crew : List Hired} {ports : List PortSeats} {taker : TakerSeat} (is : HaveBegun begins.stands workers 3 crew ports taker)
    {flow : Outflow} (none : List PortSeats) (got : List (Item Out)) (reports : List WorkerReport) (acts : List Act) (report : EmitReport)
    → none ≡ [] → IsJoined crew none got reports → IsSentOut begins.first taker.workers acts taker.got got flow report
    → Leaves begins workers flow
leaves begins {crew = crew} {ports = ports} {taker = taker} is {flow = flow} none got reports acts report empty joined sent =
    let P : List PortSeats → Type 0 = λ l. IsJoined crew l got reports in
    let Q : List (Item Out) → Type 0 = λ l. IsSentOut begins.first taker.workers acts l got flow report in
    let N : ℕ → Type 0 = λ n. IsSentOut begins.first n acts [] got flow report in record {
      crew = crew;
      ports = ports;
      taker = taker;
      started = is;
      got = got;
      reports = reports;
      joined = subst P empty joined;
      acts = acts;
      counts = report;
      sent = subst N (taker_workers is) (subst Q (taker_new is) sent);
    }

-- what each thread sent, once its errand is known
module _ {sources : Sources} {f : Feeders} (are : AreErrands sources f) (end : FeedEnd) (old new : PortSeats) where
  pub sent_datagrams : ThenCloses (SendsFor f.sip.promise.task.value end) old new → ThenCloses (SendsDatagrams sources.sip.admission end) old new
  sent_datagrams sends = let P : Task → Type 0 = λ t. ThenCloses (SendsFor t end) old new in subst P are.sip sends

  pub sent_lines : (opened : Opening) (workers : ℕ) → IsFresh opened workers (seen sources.desk)
      → ThenCloses (SendsFor f.lines.promise.task.value end) old new → ThenCloses (SendsLines opened workers end) old new
  sent_lines opened workers fresh sends =
      let P : Task → Type 0 = λ t. ThenCloses (SendsFor t end) old new in
      let is = subst P are.lines sends in record {
        fed_to = is.fed_to;
        fed = (seen sources.desk, fresh, is.fed);
        shut = is.shut;
        ends = is.ends;
        seats = is.seats;
      }

  pub sent_ticks : ThenCloses (SendsFor f.time.promise.task.value end) old new → ThenCloses (SendsTicks sources.stopwatch.tick end) old new
  sent_ticks sends = let P : Task → Type 0 = λ t. ThenCloses (SendsFor t end) old new in subst P are.time sends

pub runs_are : (begins : Beginning) {workers : ℕ} {crew : List Hired} {a b c : PortSeats} {taker : TakerSeat}
    (is : HaveBegun begins.stands workers 3 crew (a ∷ b ∷ c ∷ []) taker)
    (opened : Opening) (admission : Admission) (flow : Outflow) (o : ServiceEnd) (a' b' c' : PortSeats) (ports : List PortSeats)
    (got : List (Item Out)) (acts : List Act) (report : EmitReport)
    → ThenCloses (SendsDatagrams admission o.sip) a a' → ThenCloses (SendsLines opened workers o.lines) b b' → ThenCloses (SendsTicks begins.tick o.time) c c'
    → ports ≡ a' ∷ b' ∷ c' ∷ [] → IsJoined crew ports got o.report.workers.items
    → IsSentOut begins.first taker.workers acts taker.got got flow report → Runs begins workers opened admission flow o
runs_are begins {crew = crew} {a = a} {b = b} {c = c} {taker = taker} is opened admission flow o a' b' c' ports got acts report datagrams lines ticks are joined sent =
    let P : List PortSeats → Type 0 = λ l. IsJoined crew l got o.report.workers.items in
    let Q : List (Item Out) → Type 0 = λ l. IsSentOut begins.first taker.workers acts l got flow report in
    let N : ℕ → Type 0 = λ n. IsSentOut begins.first n acts [] got flow report in record {
      crew = crew;
      sip = a;
      lines = b;
      time = c;
      taker = taker;
      started = is;
      sip_closed = a';
      lines_closed = b';
      time_closed = c';
      sends_datagrams = datagrams;
      sends_lines = lines;
      sends_ticks = ticks;
      got = got;
      joined = subst P are joined;
      acts = acts;
      counts = report;
      sent = subst N (taker_workers is) (subst Q (taker_new is) sent);
    }

-- the same, where the number of workers has another name
module _ {stands : ℕ → Standing} {n m : ℕ} (same : m ≡ n) where
  pub started_with : {crew : List Hired} {ports : List PortSeats} {taker : TakerSeat} → HaveBegun stands n 3 crew ports taker → HaveBegun stands m 3 crew ports taker
  started_with {crew = crew} {ports = ports} {taker = taker} is = let P : ℕ → Type 0 = λ k. HaveBegun stands k 3 crew ports taker in subst P (sym same) is

module _ {begins : Beginning} {n m : ℕ} (same : m ≡ n) where
  pub runs_with : {opened : Opening} {admission : Admission} {flow : Outflow} {o : ServiceEnd}
      → Runs begins m opened admission flow o → Runs begins n opened admission flow o
  runs_with {opened = opened} {admission = admission} {flow = flow} {o = o} runs =
      let P : ℕ → Type 0 = λ k. Runs begins k opened admission flow o in subst P same runs

  pub leaves_with : {flow : Outflow} → Leaves begins m flow → Leaves begins n flow
  leaves_with {flow = flow} left = let P : ℕ → Type 0 = λ k. Leaves begins k flow in subst P same left

-- the same, where its beginning and the admission have other names
module _ {begins begins' : Beginning} (same : begins ≡ begins') where
  pub runs_as : {n : ℕ} {opened : Opening} {a b : Admission} {flow : Outflow} {o : ServiceEnd} → a ≡ b
      → Runs begins n opened a flow o → Runs begins' n opened b flow o
  runs_as {n = n} {opened = opened} {a = a} {b = b} {flow = flow} {o = o} admits runs =
      let P : Beginning → Type 0 = λ x. Runs x n opened a flow o in
      let Q : Admission → Type 0 = λ x. Runs begins' n opened x flow o in subst Q admits (subst P same runs)

  pub leaves_as : {n : ℕ} {flow : Outflow} → Leaves begins n flow → Leaves begins' n flow
  leaves_as {n = n} {flow = flow} left = let P : Beginning → Type 0 = λ x. Leaves x n flow in subst P same left

-- where these transactions are open, and this second was told last
abbrev pub begun : (ℕ → Standing) → State → ℕ → Beginning
begun stands first tick = record { stands = stands; first = first; tick = tick }

-- how a service begins whose crew was just started, by what it was given
pub begun_is : (stands : ℕ → Standing) (first : State) (tick : ℕ) (allowance : Allowance) (given : Begins)
    → first ≡ open_first allowance given.unanswered.items → tick ≡ given.tick → begun stands first tick ≡ beginning stands allowance given
begun_is stands first tick allowance given are on = λ i. record { stands = stands; first = are i; tick = on i }

-- the same desk, where the number of workers has another name
pub fresh_with : {opened : Opening} {n m : ℕ} {desk : DeskSeen} → n ≡ m → IsFresh opened n desk → IsFresh opened m desk
fresh_with {opened = opened} {desk = desk} same fresh = let P : ℕ → Type 0 = λ k. IsFresh opened k desk in subst P same fresh

-- ---- a service that begins anew

pub begins_anew : BeginsAnewLaw
begins_anew begins start workers allowance opened admission flow o each none zeroth r =
    let T : ℕ → Type 0 = λ n. ThenCloses (SendsTicks n o.time) r.time r.time_closed in
    let S : State → Type 0 = λ s. IsSentOut s workers r.acts [] r.got flow r.counts in record {
      crew = r.crew;
      sip = r.sip;
      lines = r.lines;
      time = r.time;
      taker = r.taker;
      started = begun_as begins.stands (λ w. first_standing (start w)) workers workers 3 r.crew (r.sip ∷ r.lines ∷ r.time ∷ []) r.taker refl each r.started;
      sip_closed = r.sip_closed;
      lines_closed = r.lines_closed;
      time_closed = r.time_closed;
      sends_datagrams = r.sends_datagrams;
      sends_lines = r.sends_lines;
      sends_ticks = subst T zeroth r.sends_ticks;
      got = r.got;
      joined = r.joined;
      acts = r.acts;
      counts = r.counts;
      sent = subst S none r.sent;
    }
