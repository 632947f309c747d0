-- What the workers of a crew did, once it has ended.
use Rattle.std.proofs.Common.{◌≡◌, ℕ, zero, suc, ◌<◌, Bool, true, false, List, [], ◌∷◌, ◌++◌, length, map, get_or, Vec, refl, ap, sym, ◌∙◌, subst, arith, length-append}
use Rattle.std.proofs.lemmas.List.{get_or_default}
use Rattle.std.specs.declared.alloc.Global.{Global}
use Rattle.queues.specs.Items.{items_of}
use Rattle.queues.specs.Values.{values}
use Rattle.package.specs.Content.{Seen}
use Rattle.notifier_model.specs.declared.place.Setup.{Setup}
use Rattle.notifier_model.specs.declared.event.Event.{Event}
use Rattle.notifier_model.specs.declared.event.Out.{Out}
use Rattle.notifier_model.specs.Home.{at_the_stop, events_for}
use Rattle.notifier_model.specs.Start.{Start}
use Rattle.notifier.specs.Standing.{Standing, first_standing}
use Rattle.queues.specs.InboxSeats.{Inbox, SenderSeat, ReceiverSeat}
use Rattle.queues.specs.OutboxSeats.{TakerSeat, PosterSeat}
use Rattle.crew.specs.Worked.{outs_for}
use Rattle.crew.specs.Kept.{SameSeats}
use Rattle.crew.specs.Ports.{PortSeats, port_of, Closes}
use Rattle.crew.specs.Ready.{start_of}
use Rattle.crew.specs.Started.{Hired, IsStarted}
use Rattle.crew.specs.Joined.{IsSeatOf, IsPortOf, Reported, IsHeard}
use Rattle.crew.specs.One.{all_events}
use Rattle.crew.specs.declared.report.WorkerReport.{WorkerReport}
use Rattle.crew.proofs.GoingOn.{outs_anew}
use Rattle.crew.proofs.Starting.{element, started_as}
use Rattle.crew.proofs.Keeping.{started_open, started_port}
use Rattle.crew.proofs.OnePort.{told_of_one}
use Rattle.crew.proofs.Zipped.{zip_len, zip_at}
use Rattle.server.specs.declared.work.Work.{Work}
use Rattle.server.specs.declared.gathering.GatheredOuts.{GatheredOuts}
use Rattle.server.specs.Page.{events_at}
use Rattle.server.specs.Runs.{starts_of}
use Rattle.server.specs.Working.{AreWorks}
use Rattle.server.specs.Gathering.{IsGathered}
use Rattle.server.specs.Crew.{IsRunning, IsFinished}
use Rattle.feeds.specs.Fed.{Sends}
use Rattle.server.proofs.Sent.{HasSent, new_sent, closed_sent}
use Rattle.server.proofs.Worked.{starts_of-len, starts_of-at, starts_of-numbered}

-- a list of one, without its last
pub popped : {A : Type 0} (old new : List A) (x : A) → length old ≡ 1 → old ≡ new ++ x ∷ [] → (new ≡ []) × (old ≡ x ∷ [])
popped old [] x one is = (refl, is)
popped old (y ∷ ys) x one is = absurd (let len = ap length is ∙ length-append (y ∷ ys) (x ∷ []) in omega (arith, one, len))

-- ---- a crew that was just started

pub running : {P : Type 0} (seen : P → Seen) (setup : Setup) (boxes : List (Vec P Global)) (held : Vec P Global) (crew : List Hired) (ports : List PortSeats) (taker : TakerSeat) (n : ℕ)
    → n ≡ length boxes → IsStarted (λ w. start_of seen setup w (get_or boxes w held).items) n 1 crew ports taker
    → IsRunning (starts_of seen setup boxes) crew ports taker
running {P = P} seen setup boxes held crew ports taker n is started =
    let starts : List Start = starts_of seen setup boxes in
    let any : Start = start_of seen setup 0 [] in
    let len : length starts ≡ n = starts_of-len seen setup boxes ∙ sym is in record {
      numbered = starts_of-numbered seen setup boxes held;
      any = any;
      started = started_as (λ w. start_of seen setup w (get_or boxes w held).items) (λ w. get_or starts w any) n (length starts) 1 crew ports taker (sym len)
          (λ w low. sym (starts_of-at seen setup boxes w any held (omega arith))) started;
    }

only_closed : (ports : List PortSeats) (port' : PortSeats) → length ports ≡ 1 → port'.is_open ≡ false
    → (k : ℕ) (p : PortSeats) → k < length ports → (get_or (port' ∷ []) k p).is_open ≡ false
only_closed ports port' one closed zero p low = closed
only_closed ports port' one closed (suc k) p low = absurd (omega (arith, one))

only_seats : (ports : List PortSeats) (port port' : PortSeats) → ports ≡ port ∷ [] → SameSeats port port'
    → (k : ℕ) (p : PortSeats) → k < length ports → SameSeats (get_or ports k p) (get_or (port' ∷ []) k p)
only_seats ports port port' one same zero p low = subst (λ (l : List PortSeats). SameSeats (get_or l 0 p) port') (sym one) same
only_seats ports port port' one same (suc k) p low = let len = ap length one in absurd (omega (arith, len))

module _ {starts : List Start} {crew : List Hired} {ports : List PortSeats} {taker : TakerSeat} (is : IsRunning starts crew ports taker) where
  pub ports_len : length ports ≡ 1
  ports_len = is.started.dealt.len

  pub workers_len : length crew ≡ length starts
  workers_len = is.started.len

  pub taker_new : taker.got ≡ []
  taker_new = ap (λ (t : TakerSeat). t.got) is.started.takes

  pub taker_workers : taker.workers ≡ length crew
  taker_workers = ap (λ (t : TakerSeat). t.workers) is.started.takes ∙ sym is.started.len

  -- its port is open, and has sent nothing
  port_is : (port : PortSeats) → ports ≡ port ∷ [] → port ≡ port_of (map (λ (h : Hired). h.reads.inbox) crew) 0
  port_is port one = sym (ap (λ (l : List PortSeats). get_or l 0 port) one) ∙ is.started.dealt.each 0 port (omega arith)

  pub port_open : (port : PortSeats) → ports ≡ port ∷ [] → 0 < length crew → port.is_open ≡ true
  port_open port one some =
      sym (ap (λ (l : List PortSeats). (get_or l 0 port).is_open) one) ∙ started_open is.started (let l = workers_len in omega (arith, some)) 0 port (omega arith)

  -- what it sent until it was closed
  pub port_sent : (port sent closed : PortSeats) (es : List Event) → ports ≡ port ∷ [] → Sends port es sent → Closes sent closed → HasSent es closed
  port_sent port sent closed es one sends closes =
      let inboxes : List Inbox = map (λ (h : Hired). h.reads.inbox) crew in
      let P : PortSeats → Type 0 = λ p. Sends p es sent → HasSent es sent in
      closed_sent es sent closed closes (subst P (sym (port_is port one)) (new_sent inboxes es sent) sends)

  pub is_port : (port port' : PortSeats) → ports ≡ port ∷ [] → port'.is_open ≡ false → SameSeats port port' → (p : ℕ) (q : PortSeats) → p < 1 → IsPortOf crew (get_or (port' ∷ []) p q)
  is_port port port' one closed same =
      started_port is.started (port' ∷ []) (record { len = sym (ap length one); closed = only_closed ports port' (ap length one) closed; seats = only_seats ports port port' one same })

  -- ---- once it has ended

  -- the start of the k-th worker
  hired_at : (k : ℕ) (h : Hired) (start : Start) → k < length starts → (get_or crew k h).stands ≡ first_standing (get_or starts k start)
  hired_at k h start low = (is.started.each k h low).begins ∙ ap first_standing (get_or_default starts k is.any start low)

  pub works_are : (port' : PortSeats) (gathered : GatheredOuts) (is_sent : Bool) (es : List Event) (works : List Work)
      → ((p : ℕ) (q : PortSeats) → p < 1 → IsPortOf crew (get_or (port' ∷ []) p q))
      → (is_sent ≡ true → HasSent es port') → IsGathered taker gathered → IsFinished crew (port' ∷ []) gathered is_sent works
      → AreWorks starts (events_at (length starts) es) works
  works_are port' gathered is_sent es works of_crew sent gathers done =
      let n : ℕ = length starts in
      let mine = (of_crew 0 port' (omega arith)).seats in
      let kept : length gathered.works.items ≡ n = gathers.len ∙ taker_workers ∙ workers_len in record {
        len = done.counted.len ∙ kept;
        each = λ k start work low.
            let in_crew : k < length crew = let l = workers_len in omega arith in
            let in_reports : k < length done.reports = let l = zip_len (λ (x : Hired) (y : WorkerReport). Reported x gathered.taker.got y) crew done.reports done.joined.reported in omega arith in
            let in_seats : k < length port'.seats = let l = zip_len IsSeatOf crew port'.seats mine in omega arith in
            let h = element crew k in_crew in
            let r = element done.reports k in_reports in
            let s = element port'.seats k in_seats in
            let hired : Hired = get_or crew k h in
            let report : WorkerReport = get_or done.reports k r in
            let seat : SenderSeat = get_or port'.seats k s in
            let its : Start = get_or starts k start in
            let made = is.started.each k h low in
            let counted = done.counted.each k r work (omega arith) in
            let was = (gathers.kept done.whole).each k work (omega arith) in
            let one : hired.reads.ports ≡ 1 = ap (λ (x : ReceiverSeat). x.ports) made.hears in
            let first : seat.number ≡ 0 = let b = (zip_at IsSeatOf crew port'.seats mine k h s in_crew).number in omega arith in
            let tells = told_of_one hired gathered.taker.got report seat (zip_at (λ (x : Hired) (y : WorkerReport). Reported x gathered.taker.got y) crew done.reports done.joined.reported k h r in_crew) (zip_at IsHeard done.reports port'.seats (done.joined.heard 0 port' (omega arith)) k r s in_reports) one first counted.closed in
            let starts_so : hired.stands ≡ first_standing its = hired_at k h start low in
            let number : its.place.worker ≡ k = is.numbered k start low in
            let size : length port'.seats ≡ n = zip_len IsSeatOf crew port'.seats mine ∙ workers_len in
            let events : all_events hired seat ≡ events_at n es its =
            ap (λ (l : List Event). l ++ at_the_stop hired.stands.place.stop)
            ((sent done.sent).each k s in_seats ∙ ap (λ (m : ℕ). events_for m k es) size ∙ ap (λ (w : ℕ). events_for n w es) (sym number))
            ∙ ap (λ (x : Standing). events_for n its.place.worker es ++ at_the_stop x.place.stop) starts_so in record {
              number = counted.number ∙ was.0 ∙ sym number;
              handled = counted.handled ∙ tells.1 ∙ ap length events;
              outs = ap (λ (v : Vec Out Global). v.items) counted.outs
                  ∙ was.1
                  ∙ ap (λ (w : ℕ). values (items_of w gathered.taker.got)) (sym (ap (λ (x : PosterSeat). x.number) made.tells))
                  ∙ tells.2
                  ∙ ap (λ (x : Standing). outs_for x (all_events hired seat)) starts_so
                  ∙ ap (outs_for (first_standing its)) events
                  ∙ outs_anew its (events_at n es its);
            };
      }
