-- What homes are for.
use Rattle.std.specs.Prelude.{◌≡◌, ℕ, ◌<◌, ◌≤◌, ◌^◌, true, List, Some, None}
use Rattle.sip_text.specs.declared.address.Addr.{Addr}
use Rattle.sip_read.specs.declared.message.Request.{Request}
use Rattle.package.specs.Values.{MailChange}
use Rattle.notifier_model.specs.declared.place.Place.{Place}
use Rattle.notifier_model.specs.declared.event.Event.{Event}
use Rattle.notifier_model.specs.declared.event.Event.TheVariants.{Request as Comes, Mail}
use Rattle.notifier_model.specs.Start.{tag_of}
use Rattle.notifier_model.specs.Requests.{is_subscribe, user_part}
use Rattle.notifier_model.specs.Home.{home, tag_in, events_for}

-- what names a subscription by its local tag goes to the worker that gave the tag
abbrev pub NamedLaw : Type 0
NamedLaw = (place : Place) (serial n : ℕ) (e : Event) → place.worker < n → n ≤ 2 ^ 64
    → tag_in e ≡ Some (tag_of place serial) → home e n ≡ place.worker

-- a change of a mailbox goes where those went who subscribe to it
abbrev pub MailboxLaw : Type 0
MailboxLaw = (source : Addr) (r : Request) (m : MailChange) (n : ℕ) → is_subscribe r ≡ true → r.head.to.tag ≡ None
    → user_part r.uri ≡ m.mailbox → home (Comes source r) n ≡ home (Mail m) n

-- a home is that of a worker
abbrev pub BelowLaw : Type 0
BelowLaw = (e : Event) (n : ℕ) → 0 < n → home e n < n

-- one worker gets all events
abbrev pub OneLaw : Type 0
OneLaw = (es : List Event) → events_for 1 0 es ≡ es
