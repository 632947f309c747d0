-- What becomes of the outs that a taker takes.
use Rattle.std.specs.Prelude.{◌≡◌, ℕ, ◌+◌, Bool, true, false, not, List, [], ◌∷◌, ◌++◌, length, map, Option, Some, None}
use Rattle.std.specs.List.{filter, filter_map, flat_map, AllByRecursion}
use Rattle.std.specs.Io.KnownBytes.{Appends}
use Rattle.transport.specs.Devices.{SinkSeen, rises, AppendsFront}
use Rattle.scripts.specs.Page.{start_text}
use Rattle.queues.specs.declared.items.Item.{Item}
use Rattle.queues.specs.Values.{values}
use Rattle.notifier_model.specs.declared.event.Out.{Out}
use Rattle.notifier_model.specs.declared.event.Out.TheVariants as out
use Rattle.transport.specs.declared.datagram.Datagram.{Datagram}
use Rattle.feeds.specs.declared.sending.Fate.{Fate}
use Rattle.feeds.specs.declared.sending.Fate.TheVariants.{Sent, Started, Failed, Held}
use Rattle.feeds.specs.declared.sending.EmitReport.{EmitReport}
use Rattle.transport.specs.Wires.{datagram, Grows}
use Rattle.crew.specs.Whole.{AllBy}

-- ---- one out

-- an answer or a NOTIFY is sent, the start of a transfer is written, and either may fail; a NOTIFY may be held back
abbrev pub MayMeet : Out → Fate → Type 0
MayMeet (out.Answer to octets) Sent = Unit {0}
MayMeet (out.Answer to octets) Started = ⊥
MayMeet (out.Answer to octets) Failed = Unit {0}
MayMeet (out.Answer to octets) Held = ⊥
MayMeet (out.Notify to number terminated tag note octets) Sent = Unit {0}
MayMeet (out.Notify to number terminated tag note octets) Started = ⊥
MayMeet (out.Notify to number terminated tag note octets) Failed = Unit {0}
MayMeet (out.Notify to number terminated tag note octets) Held = Unit {0}
MayMeet (out.Start tag refer_to) Sent = ⊥
MayMeet (out.Start tag refer_to) Started = Unit {0}
MayMeet (out.Start tag refer_to) Failed = Unit {0}
MayMeet (out.Start tag refer_to) Held = ⊥

-- the datagram that is sent
abbrev pub datagram_of : Out → Option Datagram
datagram_of (out.Answer to octets) = Some (datagram to octets)
datagram_of (out.Notify to number terminated tag note octets) = Some (datagram to octets)
datagram_of (out.Start tag refer_to) = None

-- the line that is written
abbrev pub line_of : Out → List ℕ
line_of (out.Answer to octets) = []
line_of (out.Notify to number terminated tag note octets) = []
line_of (out.Start tag refer_to) = start_text tag refer_to

abbrev pub is_start : Out → Bool
is_start (out.Answer to octets) = false
is_start (out.Notify to number terminated tag note octets) = false
is_start (out.Start tag refer_to) = true

-- what the writer took: nothing of an answer or a NOTIFY, the line of a transfer, or a front of that where it failed
abbrev pub Writes : Option (List ℕ) → Option (List ℕ) → Out → Fate → Type 0
Writes old new (out.Answer to octets) fate = new ≡ old
Writes old new (out.Notify to number terminated tag note octets) fate = new ≡ old
Writes old new (out.Start tag refer_to) Sent = ⊥
Writes old new (out.Start tag refer_to) Started = Appends old new (start_text tag refer_to)
Writes old new (out.Start tag refer_to) Failed = AppendsFront old new (start_text tag refer_to)
Writes old new (out.Start tag refer_to) Held = ⊥

-- what the writer took of each out, one after the other
abbrev pub WritesAll : Option (List ℕ) → List (Out × Fate) → Option (List ℕ) → Type 0
WritesAll old [] new = new ≡ old
WritesAll old (x ∷ log) new = (next : Option (List ℕ)) × Writes old next x.0 x.1 × WritesAll next log new

-- counted by what became of it
abbrev pub counted : EmitReport → Fate → EmitReport
counted r Sent = record r { sent = r.sent + 1 }
counted r Started = record r { starts = r.starts + 1 }
counted r Failed = record r { failed = r.failed + 1 }
counted r Held = record r { held = r.held + 1 }

-- ---- all of them

-- the outs, and what became of each
abbrev pub Fates : Type 0
Fates = List (Out × Fate)

abbrev pub datagram_sent : Out → Fate → Option Datagram
datagram_sent o Sent = datagram_of o
datagram_sent o Started = None
datagram_sent o Failed = None
datagram_sent o Held = None

-- the datagrams that were sent, in order
abbrev pub sent_datagrams : Fates → List Datagram
sent_datagrams log = filter_map (λ (x : Out × Fate). datagram_sent x.0 x.1) log

abbrev pub lines : Fates → List ℕ
lines log = flat_map (λ (x : Out × Fate). line_of x.0) log

abbrev pub is_sent : Fate → Bool
is_sent Sent = true
is_sent Started = false
is_sent Failed = false
is_sent Held = false

abbrev pub is_started : Fate → Bool
is_started Sent = false
is_started Started = true
is_started Failed = false
is_started Held = false

abbrev pub is_failed : Fate → Bool
is_failed Sent = false
is_failed Started = false
is_failed Failed = true
is_failed Held = false

abbrev pub is_held : Fate → Bool
is_held Sent = false
is_held Started = false
is_held Failed = false
is_held Held = true

-- did the wire fail at it?
abbrev pub fails_to_send : Out → Fate → Bool
fails_to_send o Sent = false
fails_to_send o Started = false
fails_to_send o Failed = not (is_start o)
fails_to_send o Held = false

-- did the writer?
abbrev pub fails_to_start : Out → Fate → Bool
fails_to_start o Sent = false
fails_to_start o Started = false
fails_to_start o Failed = is_start o
fails_to_start o Held = false

abbrev pub count : (Out → Fate → Bool) → Fates → ℕ
count is log = length (filter (λ (x : Out × Fate). is x.0 x.1) log)

abbrev pub AllMeet : Fates → Type 0
AllMeet log = AllByRecursion (λ (x : Out × Fate). MayMeet x.0 x.1) log

-- these outs are the ones that were got after those before, all of these workers
abbrev pub AreGot : ℕ → Fates → List (Item Out) → List (Item Out) → Type 0
AreGot workers log old new =
    (more : List (Item Out)) × (new ≡ old ++ more) × (values more ≡ map (λ (x : Out × Fate). x.0) log) × AllBy workers more

-- each out is counted once, by what became of it
pub record IsCounted (log : Fates) (report : EmitReport) : Type 0 where
  pub total : report.sent + report.starts + report.failed + report.held ≡ length log
  pub sent : report.sent ≡ count (λ o fate. is_sent fate) log
  pub starts : report.starts ≡ count (λ o fate. is_started fate) log
  pub failed : report.failed ≡ count (λ o fate. is_failed fate) log
  pub held : report.held ≡ count (λ o fate. is_held fate) log

-- ---- what was got, sent and written

-- a wire, as far as it tells: what it has taken, and how often it failed
pub record WireSeen : Type 0 where
  pub taken : Option (List Datagram)
  pub failures : ℕ

-- a writer, the same way
pub record WriterSeen : Type 0 where
  pub contents : Option (List ℕ)
  pub failures : ℕ

abbrev pub wire_seen : {W : Type 0} → (W → Option (List Datagram)) → (W → ℕ) → W → WireSeen
wire_seen taken failures wire = record { taken = taken wire; failures = failures wire }

abbrev pub writer_seen : {W : Type 0} → (W → Option (List ℕ)) → SinkSeen W → WriterSeen
writer_seen contents sink = record { contents = contents sink.writer; failures = sink.failures }

-- the outs that were got of the workers met these fates. The writer failed at each transfer that isn't written; it took of each out, in
-- order, what that is, and so, where it never failed, the lines of all
pub record AreMet (workers : ℕ) (log : Fates) (got got' : List (Item Out)) (writer writer' : WriterSeen) (report : EmitReport) : Type 0 where
  pub outs : AreGot workers log got got'
  pub meet : AllMeet log
  pub counts : IsCounted log report
  pub writer_failures : writer'.failures ≡ rises (count fails_to_start log) writer.failures
  pub wrote : WritesAll writer.contents log writer'.contents
  pub written : count fails_to_start log ≡ 0 → Appends writer.contents writer'.contents (lines log)

-- they did, none was held back, and the wire took, in order, just the datagrams that were sent, and failed at the others
pub record IsEmitted (workers : ℕ) (log : Fates) (got got' : List (Item Out)) (wire wire' : WireSeen) (writer writer' : WriterSeen) (report : EmitReport) : Type 0 where
  pub met : AreMet workers log got got' writer writer' report
  pub none_held : count (λ o fate. is_held fate) log ≡ 0
  pub taken : Grows wire.taken wire'.taken (sent_datagrams log)
  pub wire_failures : wire'.failures ≡ rises (count fails_to_send log) wire.failures
