-- The law of isolation asked of any notifier, whether it keeps it or not.
use Rattle.std.specs.Prelude.{ℕ, ◌+◌, ◌≡◌, ◌<◌, ◌^◌, List, [], ◌∷◌}
use Rattle.sip_read.specs.declared.message.Request.{Request}
use Rattle.notifier_model.specs.declared.event.Event.{Event}
use Rattle.notifier_model.specs.Start.{Start, tag_of}
use Rattle.notifier_model.specs.Out.{Send, Answers, Notifies, Starts, Notification, notifications}
use Rattle.notifier_model.specs.Run.{made}
use Rattle.life.specs.Notices.{newest_first}
use Rattle.life.specs.Laws.{IsStart}
use Rattle.life.specs.IsolationLaws.{HasSameOwn}

-- a notifier, as all that it sends at these events from this start
abbrev pub Notifier : Type 0
Notifier = Start → List Event → List Send

-- what it tells the watcher of the subscription with this serial
abbrev pub told_by : Notifier → Start → ℕ → List Event → List Notification
told_by notifier start serial es = notifications (tag_of start.place serial) (notifier start es)

-- In any two runs in which a subscription's own events are the same but for its tag, the notifier tells it the same.
abbrev pub IsIsolated : Notifier → Type 0
IsIsolated notifier = (start other : Start) (serial serial' : ℕ) (x : Request) (es es' : List Event) →
    IsStart start → IsStart other → serial < 2 ^ 64 → serial' < 2 ^ 64 →
    HasSameOwn start other serial serial' x (newest_first es) (newest_first es') →
    told_by notifier start serial es ≡ told_by notifier other serial' es'

-- ---- one counter for all subscriptions

-- the same outs, but each NOTIFY has the next number, whichever subscription it is of
unfoldable pub numbered_from : ℕ → List Send → List Send
numbered_from n [] = []
numbered_from n (Answers to bytes ∷ outs) = Answers to bytes ∷ numbered_from n outs
numbered_from n (Starts tag refer_to ∷ outs) = Starts tag refer_to ∷ numbered_from n outs
numbered_from n (Notifies to mailbox text ∷ outs) = Notifies to mailbox (record text { number = n }) ∷ numbered_from (n + 1) outs

-- a notifier that has one counter, where RFC 3261 section 12.2.1.1 asks for one in each dialog
abbrev pub counting : Notifier
counting start es = numbered_from 1 (made start es)

-- ---- who keeps the law

-- The notifier of this project does, as `Desk::handle` steps it.
abbrev pub IsolatedLaw : Type 0
IsolatedLaw = IsIsolated made

-- One with one counter doesn't: a watcher sees by the numbers how many NOTIFYs went to others.
abbrev pub OneCounterLaw : Type 0
OneCounterLaw = IsIsolated counting → ⊥
