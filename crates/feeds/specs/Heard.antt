-- What a datagram says.
--
-- On a SIP wire a datagram is a message (RFC 3261 section 7): a request from its source, or a response. On a control wire it
-- is a line of a script that tells what happened, or CLOSE. Any other can't be read, and neither can one for which there is
-- no memory, which no definition can tell: it is unread, too.
use Rattle.std.specs.Prelude.{◌≡◌, ℕ, List, Ok, Err, Option, Some, None}
use Rattle.sip_text.specs.declared.address.Addr.{Addr}
use Rattle.sip_read.specs.declared.message.Message.{Message}
use Rattle.sip_read.specs.declared.message.Message.TheVariants as message
use Rattle.sip_read.specs.declared.error.ReadError.{ReadError}
use Rattle.sip_read.specs.Message.{IsReading}
use Rattle.scripts.specs.declared.script.Control.{Control}
use Rattle.scripts.specs.declared.script.Control.TheVariants as control
use Rattle.scripts.specs.declared.error.ScriptError.{ScriptError}
use Rattle.scripts.specs.declared.error.ScriptError.TheVariants as error
use Rattle.scripts.specs.Script.{IsControlLine}
use Rattle.notifier_model.specs.declared.event.Event.{Event}
use Rattle.notifier_model.specs.declared.event.Event.TheVariants as event
use Rattle.notifier_model.specs.Told.{told_event}
use Rattle.transport.specs.declared.datagram.Datagram.{Datagram}
use Rattle.feeds.specs.declared.hearing.Heard.{Heard}
use Rattle.feeds.specs.declared.hearing.Heard.TheVariants as heard
use Rattle.feeds.specs.declared.hearing.Language.{Language}
use Rattle.feeds.specs.declared.hearing.Language.TheVariants as language

-- ---- SIP

-- the event that a message from this source is
abbrev pub event_of : Addr → Message → Event
event_of source (message.Request r) = event.Request source r
event_of source (message.Response r) = event.Reply r

abbrev pub SipSays : Addr → List ℕ → Heard → Type 0
SipSays source octets (heard.Event e) = (m : Message) × IsReading octets (Ok m) × (e ≡ event_of source m)
SipSays source octets heard.Unread = (e : ReadError) × IsReading octets (Err e)
SipSays source octets heard.Close = ⊥

-- ---- control lines

-- the event that a line is; CLOSE is none
abbrev pub event_in : Control → Option Event
event_in (control.Change c) = told_event c
event_in (control.Tick n) = Some (event.Tick n)
event_in control.Close = None

-- why a line is not read: it is none, or memory ran out, which a CLOSE doesn't need
abbrev pub IsNoLine : List ℕ → ScriptError → Type 0
IsNoLine octets error.BadScript = (c : Control) → ¬ (IsControlLine octets c)
IsNoLine octets error.NoMemory = ¬ (IsControlLine octets control.Close)
IsNoLine octets error.Device = ⊥

abbrev pub ControlSays : List ℕ → Heard → Type 0
ControlSays octets (heard.Event e) = (c : Control) × IsControlLine octets c × (event_in c ≡ Some e)
ControlSays octets heard.Unread = (e : ScriptError) × IsNoLine octets e
ControlSays octets heard.Close = IsControlLine octets control.Close

-- ---- either

abbrev pub Says : Language → Datagram → Heard → Type 0
Says language.Sip d h = SipSays d.peer d.octets h
Says language.Control d h = ControlSays d.octets h
