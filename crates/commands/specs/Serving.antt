-- A service that an operator runs, from its words to its end.
use Rattle.std.specs.Prelude.{◌≡◌, ◌≢◌, ◌⊎◌, ◌<◌, ℕ, true, false, List, [], get_or, unwrap_or, Option, Some, None, Vec}
use Rattle.std.specs.declared.alloc.Global.{Global}
use Rattle.package.specs.Content.{Seen}
use Rattle.package.specs.declared.change.Change.{Change}
use Rattle.notifier.specs.Held.{Held, seen_by}
use Rattle.notifier.specs.Standing.{Standing, first_standing}
use Rattle.crew.specs.Desks.{nowhere}
use Rattle.service.specs.declared.begins.Begins.{Begins}
use Rattle.sip_text.specs.declared.address.Addr.{Addr}
use Rattle.transport.specs.Devices.{SinkSeen}
use Rattle.notifier_model.specs.Start.{Start, place_of}
use Rattle.arguments.specs.Setup.{dealt_names}
use Rattle.arguments.specs.Told.{boxes_told}
use Rattle.feeds.specs.Emitted.{WireSeen, writer_seen}
use Rattle.udp_command.specs.UdpEnds.{all_closed, Tells}
use Rattle.service.specs.declared.running.ServiceEnd.{ServiceEnd}
use Rattle.service.specs.declared.running.ServiceWork.{ServiceWork}
use Rattle.service.specs.Listening.{IsDeaf}
use Rattle.service.specs.Running.{Beginning, Opening, Runs, anew, beginning, AreFaults, is_faulty, opening}
use Rattle.transactions.specs.declared.allowance.Allowance.{Allowance}
use Rattle.admission.specs.declared.judging.Admission.{Admission}
use Rattle.arguments.specs.declared.choices.Choices.{Choices}
use Rattle.transport.specs.Ears.{no_misses}
use Rattle.transport.specs.Sockets.{misses}
use Rattle.plans.specs.declared.plan.Plan.{Plan}
use Rattle.commands.specs.declared.sockets.Sockets.{Sockets}
use Rattle.plans.specs.Plans.{IsPlan, most_mailboxes, setup_of}
use Rattle.commands.specs.GoingOn.{IsFromJournal}

-- a socket is here, where port 0 stands for a port of the machine's choice
pub record IsAt (asked local : Addr) : Type 0 where
  pub ip : local.ip ≡ asked.ip
  pub port : asked.port ≢ 0 → local.port ≡ asked.port

-- a worker, with the mailboxes whose keys go to it, each with the counts that the changes say and no other class set, and no transfer
abbrev pub start_at : Plan → Addr → ℕ → Start
start_at plan local worker = record {
  place = place_of (setup_of plan local) worker;
  boxes = boxes_told plan.choices.no_refer plan.changes.items (dealt_names plan.workers worker plan.mailboxes.items);
}

-- both choose the same two addresses
pub record AreAlike (one other : Choices) : Type 0 where
  pub listen : one.listen ≡ other.listen
  pub control : one.control ≡ other.control

-- the sockets that were chosen: each of the two addresses has a wire that receives, which hasn't failed yet, and one that sends; that of
-- SIP has one for refusals, too
pub record AreOpen (choices : Choices) (s : Sockets) : Type 0 where
  pub at : IsAt choices.listen s.sip.local
  pub control : IsAt choices.control s.lines.local
  pub refusals : s.refusals.local ≡ s.sip.local
  pub outgoing : s.outgoing.local ≡ s.sip.local
  pub replies : s.replies.local ≡ s.lines.local
  pub sip_misses : misses s.sip ≡ no_misses
  pub line_misses : misses s.lines ≡ no_misses

-- lines are taken for these mailboxes, of which these changes were told before, and make so many at most, from these networks
abbrev pub opening_of : Plan → Opening
opening_of plan = record { mailboxes = plan.mailboxes.items; changes = plan.changes.items; most = most_mailboxes plan.choices; networks = plan.operators.items }

-- ---- how it begins

-- so many NOTIFYs may wait for their answers, of all and of one subscription
abbrev pub allowance_of : Plan → Allowance
allowance_of plan = record { all = plan.choices.numbers.repeats; per_tag = plan.choices.numbers.per_subscription }

-- it goes on from its journal: its workers begin with desks that stand so
pub record GoesOnFrom (plan : Plan) (local : Addr) (b : Beginning) : Type 0 where
  pub desks : List (Option Standing)
  pub begins : Begins
  pub from_journal : IsFromJournal plan local desks begins
  pub begins_so : b ≡ beginning (λ w. unwrap_or (get_or desks w None) nowhere) (allowance_of plan) begins

-- A service without a journal has new desks, and nothing of its begin is left of a former one. One with a journal begins so too, or goes on from
-- that: no contract tells what its folder holds
abbrev pub BeginsBy : Option (List ℕ) → Plan → Addr → Beginning → Type 0
BeginsBy None plan local b = b ≡ anew (start_at plan local) (allowance_of plan)
BeginsBy (Some folder) plan local b = (b ≡ anew (start_at plan local) (allowance_of plan)) ⊎ GoesOnFrom plan local b

abbrev pub BeginsAs : Plan → Addr → Beginning → Type 0
BeginsAs plan local b = BeginsBy plan.journal plan local b

-- Desks that begin anew: one of each worker, as this plan asks for it. Nothing is left of a former service: no NOTIFY waits for its answer,
-- no second was told, and of mailboxes only what the plan says
pub record BeginsAnew {P : Type 0} (seen : P → Seen) (plan : Plan) (local : Addr) (desks : List (Option (Held P))) (begins : Begins) (changes : Option (Vec Change Global)) : Type 0 where
  pub stands : (w : ℕ) (d : Option (Held P)) → w < plan.workers → seen_by seen (get_or desks w d) ≡ Some (first_standing (start_at plan local w))
  pub none_waits : begins.unanswered.items ≡ []
  pub none_told : begins.tick ≡ 0
  pub unchanged : changes ≡ None

-- with a journal the changes that were told before may be those that stood there
abbrev pub OpensBy : Option (List ℕ) → Plan → Opening → Type 0
OpensBy None plan opened = opened ≡ opening_of plan
OpensBy (Some folder) plan opened =
    (opened.mailboxes ≡ plan.mailboxes.items) × (opened.most ≡ most_mailboxes plan.choices) × (opened.networks ≡ plan.operators.items)

abbrev pub OpensAs : Plan → Opening → Type 0
OpensAs plan opened = OpensBy plan.journal plan opened

-- what the plan asks for, over the sockets that were chosen
pub record IsWork (plan : Plan) (work : ServiceWork) : Type 0 where
  pub setup : work.setup ≡ setup_of plan work.sip.coming.local
  pub opened : OpensAs plan (opening work.desk)
  pub sip : IsAt plan.choices.listen work.sip.coming.local
  pub lines : IsAt plan.choices.control work.desk.coming.local
  pub replies : work.desk.going.local ≡ work.desk.coming.local
  pub refusals : work.sip.going.local ≡ work.sip.coming.local
  pub longest : work.sip.longest ≡ plan.choices.numbers.max_datagram
  pub admission : work.sip.admission ≡ plan.admission
  pub repeats : work.repeats ≡ allowance_of plan
  pub linger : work.linger ≡ plan.choices.numbers.linger
  pub outage : work.outage ≡ plan.choices.numbers.outage
  pub sip_misses : misses work.sip.coming ≡ no_misses
  pub line_misses : misses work.desk.coming ≡ no_misses

-- a writer that was not written to
abbrev pub new_sink : {W : Type 0} → W → SinkSeen W
new_sink writer = record { writer = writer; failures = 0; is_flushed = false }

module _ {W : Type 0} (contents : W → Option (List ℕ)) where
  -- a crew ran as a service to its end, over some wire
  pub record Ran (begins : Beginning) (workers : ℕ) (opened : Opening) (admission : Admission) (before after : SinkSeen W) (outcome : ServiceEnd) : Type 0 where
    pub wire : WireSeen
    pub wire' : WireSeen
    pub runs : Runs begins workers opened admission
        (record { wire = wire; wire' = wire'; writer = writer_seen contents before; writer' = writer_seen contents after }) outcome

  -- a service that is planned so ran to its end, and tells each fault of its sockets and of the clock
  pub record RanAsPlanned (plan : Plan) (before after : SinkSeen W) (outcome : ServiceEnd) : Type 0 where
    pub local : Addr
    pub is_at : IsAt plan.choices.listen local
    pub begins : Beginning
    pub begins_as : BeginsAs plan local begins
    pub opened : Opening
    pub opens_as : OpensAs plan opened
    pub ran : Ran begins plan.workers opened plan.admission before after outcome
    pub faults : AreFaults no_misses no_misses outcome

  -- the words ask for a service, which ran as planned
  pub record Serves (words : List (List ℕ)) (before after : SinkSeen W) (outcome : ServiceEnd) : Type 0 where
    pub plan : Plan
    pub is_plan : IsPlan words plan
    pub as_planned : RanAsPlanned plan before after outcome

  -- that service ended well: neither of its two sockets was deaf, no read of the clock failed, no thread tells of a fault, each worker
  -- came to the end of what was sent to it, and then the lines of the workers were written
  pub record EndedWell (words : List (List ℕ)) (before after : SinkSeen W) (outcome : ServiceEnd) : Type 0 where
    pub between : SinkSeen W
    pub serves : Serves words before between outcome
    pub sip_hears : IsDeaf (misses outcome.sip_desk.coming) → ⊥
    pub lines_hear : IsDeaf (misses outcome.desk.coming) → ⊥
    pub clock_failures : outcome.stopwatch.failures ≡ 0
    pub no_fault : is_faulty outcome ≡ false
    pub closed : all_closed outcome.report.workers.items ≡ true
    pub told : Tells contents outcome.report.workers.items between after

-- Some run of the service that the words ask for ends well, over a writer that is seen as what it tells. It needn't be the run of the call
-- whose contract says this
pub record CanEndWell (words : List (List ℕ)) : Type 0 where
  pub before : SinkSeen (Option (List ℕ))
  pub after : SinkSeen (Option (List ℕ))
  pub outcome : ServiceEnd
  pub well : EndedWell (λ contents. contents) words before after outcome
