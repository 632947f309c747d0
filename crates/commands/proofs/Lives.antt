-- What words ask for starts as the laws of a crew ask, so each run tells the lives of its subscriptions.
use Rattle.std.proofs.Common.{◌≡◌, ℕ, Bool, true, false, List, [], ◌∷◌, length, Option, Some, None, refl, sym, ap, subst, ◌∙◌, arith}
use Rattle.std.specs.Prelude.{if◌then◌else◌, bytes_eq}
use Rattle.std.specs.FinMap.{get-empty}
use Rattle.std.specs.Ordering.{nat_cmp}
use Rattle.std.specs.Cmp.Lexicographic.{slice_cmp}
use Rattle.queues.specs.declared.items.Item.{Item}
use Rattle.queues.specs.OutboxSeats.{TakerSeat}
use Rattle.package.specs.declared.change.Change.{Change}
use Rattle.package.specs.Content.{Seen, mail_package, refer_package}
use Rattle.package.specs.Changes.{change_of}
use Rattle.package.specs.Boxes.{content_in, first_box, held_by}
use Rattle.package.proofs.OneChange.{change_name}
use Rattle.refer.specs.Transfers.{new_transfers}
use Rattle.notifier_model.specs.declared.event.Out.{Out}
use Rattle.notifier_model.specs.Limits.{AreLimits}
use Rattle.notifier_model.specs.Start.{Start}
use Rattle.notifier.specs.Standing.{Standing, first_standing}
use Rattle.schedules.specs.Laws.{AreStarts}
use Rattle.crew.specs.Ports.{PortSeats}
use Rattle.crew.specs.Started.{Hired, HaveBegun}
use Rattle.crew.specs.Joined.{IsJoined}
use Rattle.crew.specs.declared.report.WorkerReport.{WorkerReport}
use Rattle.crew.specs.Whole.{IsCrewRun}
use Rattle.feeds.specs.Emitted.{AreGot, Fates}
use Rattle.feeds.specs.Laws.{outs_of}
use Rattle.feeds.proofs.SentOut.{emitted_law}
use Rattle.arguments.specs.Setup.{dealt_names, mailboxes_named, program_limits}
use Rattle.arguments.specs.Told.{told}
use Rattle.service.specs.Running.{Beginning}
use Rattle.service.specs.Sending.{fates}
use Rattle.sip_text.specs.declared.address.Addr.{Addr}
use Rattle.plans.specs.declared.plan.Plan.{Plan}
use Rattle.commands.specs.Serving.{BeginsBy, start_at}
use Rattle.udp_command.specs.UdpCall as udp
use Rattle.commands.specs.Laws.{ServeLaw, StartsOfACallLaw, StartsOfAPlanLaw, TellLives, UdpLaw}
use Rattle.commands.proofs.Started.{count_is}

-- ---- the starts

-- changes leave a package its name
told-name : (changes : List Change) (box : Seen) → (told changes box).name ≡ box.name
told-name [] box = refl
told-name (c ∷ changes) box = told-name changes (change_of box c).1 ∙ change_name box c

-- behind mailboxes no transfer has begun, whether there is a package for these or not
no-transfer : (mail : Seen) (no_refer : Bool) (tag : List ℕ) → mail.name ≡ mail_package
    → content_in (mail ∷ (if no_refer then [] else new_transfers ∷ [])) refer_package tag ≡ None
no-transfer mail no_refer tag named =
    subst (λ (name : List ℕ). held_by tag (if bytes_eq name refer_package then Some mail else first_box refer_package (behind no_refer)) ≡ None) (sym named) (none no_refer)
  where
    behind : Bool → List Seen
    behind without = if without then [] else new_transfers ∷ []

    none : (without : Bool) → content_in (if without then [] else new_transfers ∷ []) refer_package tag ≡ None
    none true = refl
    none false = get-empty (slice_cmp nat_cmp) tag

pub starts_of_a_plan : StartsOfAPlanLaw
starts_of_a_plan words plan local ports is = record {
  few = let most = count_is plan.choices.numbers.workers plan.workers is.workers in let n = most.1 in omega arith;
  each = λ w low. record {
    limits = is.within;
    no_transfer = λ tag. no-transfer (told plan.changes.items (mailboxes_named (dealt_names plan.workers w plan.mailboxes.items))) plan.choices.no_refer tag
        (told-name plan.changes.items (mailboxes_named (dealt_names plan.workers w plan.mailboxes.items)));
  };
  numbers = λ w low. refl;
}

program-limits : AreLimits program_limits
program-limits = record {
  min_time = (omega arith, omega arith);
  max_time = (omega arith, omega arith);
  default_time = (omega arith, omega arith);
  refer_time = (omega arith, omega arith);
  max_cseq = (omega arith, omega arith);
  table = (omega arith, omega arith);
  serials = (omega arith, omega arith);
  kept = (omega arith, omega arith);
  inbox = (omega arith, omega arith);
  outbox = (omega arith, omega arith);
}

pub starts_of_a_call : StartsOfACallLaw
starts_of_a_call words call ports are = record {
  few = let most = are.few_workers in let n = most.1 in omega arith;
  each = λ w low. record {
    limits = program-limits;
    no_transfer = λ tag. no-transfer (mailboxes_named (dealt_names call.workers w call.mailboxes)) false tag refl;
  };
  numbers = λ w low. refl;
}

-- ---- what is told

-- of a crew from its start to its end, whose outs met these fates
tell_lives : (start : ℕ → Start) (workers n : ℕ) (crew : List Hired) (dealt : List PortSeats) (taker : TakerSeat) (ports : List PortSeats)
    (got : List (Item Out)) (reports : List WorkerReport) (log : Fates)
    → AreStarts (record { ports = n; workers = workers; start = start }) → HaveBegun (λ w. first_standing (start w)) workers n crew dealt taker
    → IsJoined crew ports got reports → AreGot workers log [] got → TellLives start crew reports (outs_of log)
tell_lives start workers n crew dealt taker ports got reports log starts begun joined are w serial h r here there small =
    let len : workers ≡ length crew = sym begun.len in
    let run : IsCrewRun start crew got reports = record {
      n = n;
      dealt = dealt;
      ports = ports;
      taker = taker;
      starts = subst (λ (k : ℕ). AreStarts (record { ports = n; workers = k; start = start })) len starts;
      started = subst (λ (k : ℕ). HaveBegun (λ v. first_standing (start v)) k n crew dealt taker) len begun;
      joined = joined;
    } in
    emitted_law start crew got reports w serial h r log run (subst (λ (k : ℕ). AreGot k log [] got) len are) here there small

-- without a journal the desks are new
new-desks : (journal : Option (List ℕ)) (plan : Plan) (local : Addr) (b : Beginning) → journal ≡ None → BeginsBy journal plan local b
    → b.stands ≡ (λ w. first_standing (start_at plan local w))
new-desks None plan local b none is = ap (λ (x : Beginning). x.stands) is
new-desks (Some folder) plan local b none is = absurd (cc)

module _ {W : Type 0} (contents : W → Option (List ℕ)) where
  pub serve_tells : ServeLaw contents
  serve_tells words before after outcome run none =
      let so = run.as_planned in let ran = so.ran.runs in
      tell_lives (start_at run.plan so.local) run.plan.workers 3 ran.crew (ran.sip ∷ ran.lines ∷ ran.time ∷ []) ran.taker
      (ran.sip_closed ∷ ran.lines_closed ∷ ran.time_closed ∷ []) ran.got outcome.report.workers.items (fates ran.acts)
      (starts_of_a_plan words run.plan so.local 3 run.is_plan)
      (subst (λ (stands : ℕ → Standing). HaveBegun stands run.plan.workers 3 ran.crew (ran.sip ∷ ran.lines ∷ ran.time ∷ []) ran.taker)
      (new-desks run.plan.journal run.plan so.local so.begins none so.begins_as) ran.started)
      ran.joined ran.sent.met.outs

  pub udp_tells : UdpLaw contents
  udp_tells words call before after status run are =
      let serves = run.serves in
      tell_lives (udp.start_at call) call.workers 2 serves.crew (serves.sip ∷ serves.control ∷ []) serves.taker
      (serves.sip_closed ∷ serves.control_closed ∷ []) serves.got run.outcome.workers serves.fates
      (starts_of_a_call words call 2 are) serves.started serves.joined serves.emitted.met.outs
