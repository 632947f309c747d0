-- In what order a worker took a subscription's own events, where one port sent all of them.
use Rattle.std.specs.Prelude.{ℕ, ◌≡◌, ◌⊎◌, true, List, [], ◌∷◌, ◌++◌}
use Rattle.sip_read.specs.declared.message.Request.{Request}
use Rattle.queues.specs.declared.items.Item.{Item}
use Rattle.queues.specs.declared.items.Entry.TheVariants.{Value}
use Rattle.queues.specs.Values.{values}
use Rattle.notifier_model.specs.declared.event.Event.{Event}
use Rattle.notifier_model.specs.Start.{Start}
use Rattle.queues.specs.InboxSeats.{SenderSeat}
use Rattle.crew.specs.Joined.{IsHeard}
use Rattle.crew.specs.declared.report.WorkerReport.{WorkerReport}
use Rattle.life.specs.Notices.{newest_first}
use Rattle.life.specs.Own.{is_own, own}

-- the first list is what is left of the second, in its order, where some of its elements are left out
abbrev pub IsPart : List Event → List Event → Type 0
IsPart [] all = Unit {0}
IsPart (e ∷ es) [] = ⊥
IsPart (e ∷ es) (d ∷ all) = ((e ≡ d) × IsPart es all) ⊎ IsPart (e ∷ es) all

-- of these items, each that is one of the subscription's own events is from this port
abbrev pub IsOnlySender : ℕ → Start → ℕ → Request → List (Item Event) → Type 0
IsOnlySender port start serial x taken = (before later : List (Item Event)) (item : Item Event) (e : Event) →
    taken ≡ before ++ item ∷ later → item.entry ≡ Value e → is_own start serial x (newest_first (values before)) e ≡ true →
    item.from ≡ port

-- Where one port sent all of them, they are, in order, some of what that port sent: whatever other ports there are. The planned
-- stop of a setup, which no port sends, is none of them.
abbrev pub OneSenderLaw : Type 0
OneSenderLaw = (report : WorkerReport) (seat : SenderSeat) (start : Start) (serial : ℕ) (x : Request) →
    IsHeard report seat → IsOnlySender seat.number start serial x report.receiver.taken →
    IsPart (own start serial x (newest_first (values report.receiver.taken))) (newest_first (values seat.sent))
