-- What the thread that sends does: it sends, writes or fails at each out that the workers post, or holds a NOTIFY back, takes notes of
-- answers to NOTIFYs, sends what waited for them, sends a NOTIFY again whose time has come, or gives it up (RFC 3261 section 17.1.2), and
-- takes the word of a worker that a subscription is gone. Moments are milliseconds.
use Rattle.std.specs.Prelude.{◌≡◌, ◌⊎◌, ◌<◌, ◌≤◌, ◌+◌, ℕ, Bool, true, false, not, List, [], ◌∷◌, ◌++◌, length, map, Option, Some, None, option_map, option_to_list, bytes_eq, if◌then◌else◌}
use Rattle.std.specs.List.{filter, filter_map, AllByRecursion}
use Rattle.std.specs.Option.{option_map_or}
use Rattle.queues.specs.declared.items.Item.{Item}
use Rattle.notifier_model.specs.declared.event.NotifyOut.{NotifyOut}
use Rattle.notifier_model.specs.declared.event.Out.{Out}
use Rattle.notifier_model.specs.declared.event.Note.{Note as KnownNote}
use Rattle.notifier_model.specs.declared.event.Out.TheVariants as out
use Rattle.notifier_model.specs.Sent.{notify_of}
use Rattle.transport.specs.Devices.{rises}
use Rattle.transport.specs.declared.datagram.Datagram.{Datagram}
use Rattle.transport.specs.Wires.{datagram, Grows}
use Rattle.feeds.specs.declared.sending.Fate.{Fate}
use Rattle.feeds.specs.declared.sending.Fate.TheVariants.{Sent}
use Rattle.feeds.specs.declared.sending.Fate.TheVariants as became
use Rattle.feeds.specs.declared.sending.EmitReport.{EmitReport}
use Rattle.feeds.specs.Emitted.{Fates, WireSeen, WriterSeen, wire_seen, writer_seen, MayMeet, AreMet, datagram_sent, sent_datagrams, fails_to_send, is_held}
use Rattle.first_contact.specs.Steps.{tag_in}
use Rattle.service.specs.declared.outs.Exit.{Exit}
use Rattle.service.specs.declared.post.Note.{Note}
use Rattle.transactions.specs.declared.allowance.Allowance.{Allowance}
use Rattle.transactions.specs.declared.open.Open.{Open}
use Rattle.transactions.specs.declared.open.TheConstants.{GONE}
use Rattle.transactions.specs.Timers.{is_over}
use Rattle.transactions.specs.Machine.{State, empty, due}
use Rattle.transactions.specs.Runs.{Call, Keep, Answer, Turn, state_after, repeated, is_end}

-- what it does, one after the other
pub data Act : Type 0 where
  -- at this moment this became of an out
  Put : (now : ℕ) (o : Out) (fate : Fate) → Act
  -- at this moment it took an out and did not send it: it waits for the answer to another NOTIFY, or is dropped
  Held : (now : ℕ) (o : Out) → Act
  -- at this moment this became of one that had waited
  Released : (now : ℕ) (o : Out) (fate : Fate) → Act
  -- it took the note of this answer to a NOTIFY: with this local tag, Call-ID, number in its CSeq, and status
  Noted : (tag call_id : List ℕ) (number status : ℕ) → Act
  -- at this moment it sent this again, or the wire failed at it
  Repeated : (now : ℕ) (sent : Datagram) (fails : Bool) → Act
  -- at this moment it sent this again, or the wire failed at it, and its transaction stays as it was: so the same is due again. It does so
  -- while its clock stands (specs/Moments of the crate outage_clock), which no clause tells from other moments
  Tried : (now : ℕ) (sent : Datagram) (fails : Bool) → Act
  -- at this moment it gave up the NOTIFY that was due
  GaveUp : (now : ℕ) → Act
  -- it took the word of a worker that the subscription with this local tag is gone
  Gone : (tag : List ℕ) → Act

-- the note of an answer is taken
abbrev pub noting : Note → Act
noting n = Noted n.tag n.call_id n.number n.status

-- ---- of the outs

abbrev pub fate_of : Act → Option (Out × Fate)
fate_of (Put now o fate) = Some (o, fate)
fate_of (Held now o) = Some (o, became.Held)
fate_of (Released now o fate) = None
fate_of (Noted tag call_id number status) = None
fate_of (Repeated now sent fails) = None
fate_of (Tried now sent fails) = None
fate_of (GaveUp now) = None
fate_of (Gone tag) = None

-- what became of the outs when they were taken
abbrev pub fates : List Act → Fates
fates acts = filter_map fate_of acts

-- ---- of all, repeats too

abbrev pub sent_by : Act → Option Datagram
sent_by (Put now o fate) = datagram_sent o fate
sent_by (Held now o) = None
sent_by (Released now o fate) = datagram_sent o fate
sent_by (Noted tag call_id number status) = None
sent_by (Repeated now sent fails) = if fails then None else Some sent
sent_by (Tried now sent fails) = if fails then None else Some sent
sent_by (GaveUp now) = None
sent_by (Gone tag) = None

-- the datagrams that were sent, in order
abbrev pub datagrams : List Act → List Datagram
datagrams acts = filter_map sent_by acts

abbrev pub fails_at : Act → Bool
fails_at (Put now o fate) = fails_to_send o fate
fails_at (Held now o) = false
fails_at (Released now o fate) = fails_to_send o fate
fails_at (Noted tag call_id number status) = false
fails_at (Repeated now sent fails) = fails
fails_at (Tried now sent fails) = fails
fails_at (GaveUp now) = false
fails_at (Gone tag) = false

-- what the wire took of a repeat, where it did not fail at it
abbrev pub sent_again : Open → Bool → List Datagram
sent_again t false = datagram t.to t.bytes ∷ []
sent_again t true = []

-- at how many the wire failed
abbrev pub failures : List Act → ℕ
failures acts = length (filter fails_at acts)

-- ---- what is sent again

-- a NOTIFY is kept from its first send on
abbrev pub keeping : ℕ → NotifyOut → Call
keeping now n = Keep now n.tag n.number n.to n.bytes

abbrev pub kept_by : ℕ → Out → Option Call
kept_by now o = option_map (keeping now) (notify_of o)

-- what it is to the open transactions of NOTIFYs. A subscription that is gone ends all of its tag, as a 481 does
abbrev pub call_of : Act → Option Call
call_of (Put now o fate) = kept_by now o
call_of (Held now o) = None
call_of (Released now o fate) = kept_by now o
call_of (Noted tag call_id number status) = Some (Answer tag number status)
call_of (Repeated now sent fails) = Some (Turn now)
call_of (Tried now sent fails) = None
call_of (GaveUp now) = Some (Turn now)
call_of (Gone tag) = Some (Answer tag 0 GONE)

abbrev pub calls : List Act → List Call
calls acts = filter_map call_of acts

-- what is done with an out that is taken at this moment and meets this fate
abbrev pub taking : ℕ → Out → Fate → Act
taking now o became.Sent = Put now o became.Sent
taking now o became.Started = Put now o became.Started
taking now o became.Failed = Put now o became.Failed
taking now o became.Held = Held now o

-- the open transactions after a NOTIFY was put, or another out
abbrev pub kept_after : ℕ → Out → State → State
kept_after now o s = state_after (option_to_list (kept_by now o)) s

-- it was sent or written, or that failed: it waits no longer
abbrev pub WentOut : Out → Fate → Type 0
WentOut o fate = MayMeet o fate × (is_held fate ≡ false)

-- the transactions ask for it. What had waited needs no word of theirs, but it went out
abbrev pub IsAsked : State → Act → Type 0
IsAsked s (Put now o fate) = Unit {0}
IsAsked s (Held now o) = Unit {0}
IsAsked s (Released now o fate) = WentOut o fate
IsAsked s (Noted tag call_id number status) = Unit {0}
IsAsked s (Repeated now sent fails) = (t : Open) × (repeated s now ≡ Some t) × (sent ≡ datagram t.to t.bytes)
IsAsked s (Tried now sent fails) = (t : Open) × (repeated s now ≡ Some t) × (sent ≡ datagram t.to t.bytes)
IsAsked s (GaveUp now) = (t : Open) × (due s now ≡ Some t) × (is_over now t ≡ true)
IsAsked s (Gone tag) = Unit {0}

-- each of them, from these open transactions on
abbrev pub AreAsked : State → List Act → Type 0
AreAsked s [] = Unit {0}
AreAsked s (act ∷ acts) = IsAsked s act × AreAsked (state_after (option_to_list (call_of act)) s) acts

-- ---- what is released of what was held back

abbrev pub held_back : Act → Option Out
held_back (Put now o fate) = None
held_back (Held now o) = Some o
held_back (Released now o fate) = None
held_back (Noted tag call_id number status) = None
held_back (Repeated now sent fails) = None
held_back (Tried now sent fails) = None
held_back (GaveUp now) = None
held_back (Gone tag) = None

-- the NOTIFYs that were held back, in order
abbrev pub held : List Act → List Out
held acts = filter_map held_back acts

abbrev pub let_go : Act → Option Out
let_go (Put now o fate) = None
let_go (Held now o) = None
let_go (Released now o fate) = Some o
let_go (Noted tag call_id number status) = None
let_go (Repeated now sent fails) = None
let_go (Tried now sent fails) = None
let_go (GaveUp now) = None
let_go (Gone tag) = None

-- those that had waited and were released, in order
abbrev pub released : List Act → List Out
released acts = filter_map let_go acts

-- those of the dialog with this local tag
abbrev pub of_dialog : List ℕ → List Out → List Out
of_dialog tag outs = filter (λ o. bytes_eq (tag_in o) tag) outs

-- the first list is the second with some left out
abbrev pub IsPart : List Out → List Out → Type 0
IsPart xs [] = xs ≡ []
IsPart xs (y ∷ ys) = IsPart xs ys ⊎ ((rest : List Out) × (xs ≡ y ∷ rest) × IsPart rest ys)

-- At every moment: what was released of a dialog was held back of it before, each once, and in the order in which it was held back.
-- What was held back and isn't released waits still, or was dropped
abbrev pub EachWasHeld : List Act → Type 0
EachWasHeld acts = (before after : List Act) → acts ≡ before ++ after → (tag : List ℕ)
    → IsPart (of_dialog tag (released before)) (of_dialog tag (held before))

-- ---- none overtakes another

-- the out that leaves by it for the first time, or fails to
abbrev pub leaves : Act → Option Out
leaves (Put now o fate) = Some o
leaves (Released now o fate) = Some o
leaves _ = None

-- the outs that left, each for the first time, or failed to, in order
abbrev pub sent_first : List Act → List Out
sent_first acts = filter_map leaves acts

-- the outs that were taken, in order
abbrev pub taken_outs : List Act → List Out
taken_outs acts = map (λ (x : Out × Fate). x.0) (fates acts)

-- it is a NOTIFY of the dialog with this local tag
abbrev pub notifies : List ℕ → Out → Bool
notifies tag o = option_map_or (λ (n : NotifyOut). bytes_eq n.tag tag) (notify_of o) false

-- the NOTIFYs of the dialog with this local tag
abbrev pub notifys : List ℕ → List Out → List Out
notifys tag outs = filter (notifies tag) outs

-- At every moment: the NOTIFYs of a dialog that left are those that were taken, each once and in order, but for some. These wait still, or were
-- dropped. So none overtakes one that leaves later
abbrev pub NoneOvertakes : List Act → Type 0
NoneOvertakes acts = (before after : List Act) → acts ≡ before ++ after → (tag : List ℕ)
    → IsPart (notifys tag (sent_first before)) (notifys tag (taken_outs before))

-- ---- what waits for its answer at the start

-- outs that went out before the service began, as put at its start
abbrev pub went_out : List Out → List Act
went_out outs = map (λ o. Put 0 o Sent) outs

-- the open transactions at its start, of which there may be so many: those of the NOTIFYs among these outs, which went out before and wait
-- for their answers
abbrev pub open_first : Allowance → List Out → State
open_first allowance outs = state_after (calls (went_out outs)) (empty allowance)

-- ---- all of it

-- the wire has taken what was sent, in this order, and failed at the rest; what was sent again was asked for, and the transactions
-- are these now
pub record Does (acts : List Act) (open_before open_after : State) (wire wire' : WireSeen) : Type 0 where
  pub taken : Grows wire.taken wire'.taken (datagrams acts)
  pub failed : wire'.failures ≡ rises (failures acts) wire.failures
  pub asked : AreAsked open_before acts
  pub open_now : open_after ≡ state_after (calls acts) open_before

-- what a wire and a writer tell before outs leave by them and after
pub record Outflow : Type 0 where
  pub wire : WireSeen
  pub wire' : WireSeen
  pub writer : WriterSeen
  pub writer' : WriterSeen

abbrev pub outflow : {W F : Type 0} → (W → Option (List Datagram)) → (W → ℕ) → (F → Option (List ℕ)) → Exit W F → Exit W F → Outflow
outflow taken failures contents old new = record {
  wire = wire_seen taken failures old.wire;
  wire' = wire_seen taken failures new.wire;
  writer = writer_seen contents old.sink;
  writer' = writer_seen contents new.sink;
}

-- the outs that were got of the workers met these fates; what was released was held back before; no NOTIFY overtook another of its dialog; and
-- the wire has taken what the acts tell, repeats too, where these transactions were open first
pub record IsSentOut (first : State) (workers : ℕ) (acts : List Act) (got got' : List (Item Out)) (flow : Outflow) (report : EmitReport) : Type 0 where
  pub met : AreMet workers (fates acts) got got' flow.writer flow.writer' report
  pub does : Does acts first (state_after (calls acts) first) flow.wire flow.wire'
  pub was_held : EachWasHeld acts
  pub in_order : NoneOvertakes acts

-- ---- what is sent but for repeats, and for what had waited

abbrev pub is_late : Act → Bool
is_late (Put now o fate) = false
is_late (Held now o) = false
is_late (Released now o fate) = true
is_late (Noted tag call_id number status) = false
is_late (Repeated now sent fails) = true
is_late (Tried now sent fails) = true
is_late (GaveUp now) = false
is_late (Gone tag) = false

-- without them just the datagrams of the outs are sent, in order
abbrev pub WithoutRepeatsLaw : Type 0
WithoutRepeatsLaw = (acts : List Act) → datagrams (filter (λ act. not (is_late act)) acts) ≡ sent_datagrams (fates acts)

-- ---- what that says of each repeat

-- it is the note of an answer that ends the NOTIFY with this tag and this number, or the word that its subscription is gone
abbrev pub ends_it : List ℕ → ℕ → Act → Bool
ends_it tag number (Put now o fate) = false
ends_it tag number (Held now o) = false
ends_it tag number (Released now o fate) = false
ends_it tag number (Noted other call_id n status) = is_end tag number (Answer other n status)
ends_it tag number (Repeated now sent fails) = false
ends_it tag number (Tried now sent fails) = false
ends_it tag number (GaveUp now) = false
ends_it tag number (Gone other) = is_end tag number (Answer other 0 GONE)

-- this became of an out at this moment: when it was taken, or after it had waited
abbrev pub met : Bool → ℕ → Out → Fate → Act
met false now o fate = Put now o fate
met true now o fate = Released now o fate

-- it is the datagram of a NOTIFY that was put before, or had waited and was sent then, from 500 milliseconds after that on and before 32 seconds have passed, and
-- no final answer to it was noted since, nor the word that its subscription is gone
pub record IsOfNotify (before : List Act) (now : ℕ) (sent : Datagram) : Type 0 where
  pub earlier : List Act
  pub since : List Act
  pub first : ℕ
  pub tag : List ℕ
  pub number : ℕ
  pub terminated : Bool
  pub note : KnownNote
  pub fate : Fate
  pub had_waited : Bool
  pub split : before ≡ earlier ++ met had_waited first (out.Notify sent.peer number terminated tag note sent.octets) fate ∷ since
  pub unanswered : AllByRecursion (λ act. ends_it tag number act ≡ false) since
  pub waited : first + 500 ≤ now
  pub in_time : now < first + 32000

-- One that waited for its answer at the start is put then. Where none did, `went_out []` is empty, and each was put by the service itself
abbrev pub EachRepeatIsOfANotify : Type 0
EachRepeatIsOfANotify = (allowance : Allowance) (unanswered : List Out) (before after : List Act) (now : ℕ) (sent : Datagram) (fails : Bool)
    → AreAsked (open_first allowance unanswered) (before ++ Repeated now sent fails ∷ after) → IsOfNotify (went_out unanswered ++ before) now sent

-- so is what is tried, whenever that is, and whether the wire fails at it or not
abbrev pub EachTryIsOfANotify : Type 0
EachTryIsOfANotify = (allowance : Allowance) (unanswered : List Out) (before after : List Act) (now : ℕ) (sent : Datagram) (fails : Bool)
    → AreAsked (open_first allowance unanswered) (before ++ Tried now sent fails ∷ after) → IsOfNotify (went_out unanswered ++ before) now sent
