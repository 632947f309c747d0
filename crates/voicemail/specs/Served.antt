-- What is told of a notice by control lines, and what is answered.
--
--   NOTIFY   ->  SHOW <mailbox>                     what was it told?
--                MAIL <mailbox> <class> ..          each class whose counts that doesn't show, in order, until one isn't taken
--            <-  200, or 404 where a line is answered `unknown mailbox`, or 503 where it isn't taken for another cause
--
-- A NOTIFY tells all that a mailbox holds: a class that its body doesn't name has no messages. One that comes again, also behind a newer one, is
-- answered by the same bytes, and nobody is asked (RFC 3261 section 17.2.2).
use Rattle.std.specs.Prelude.{◌≡◌, ◌⊎◌, ◌≤◌, length, ℕ, Bool, true, false, List, [], ◌∷◌, ◌++◌, take, Option, Some, None, unwrap_or, codes, bytes_eq, if◌then◌else◌, Result, Ok, Err}
use Rattle.sip_text.specs.declared.address.Addr.{Addr}
use Rattle.admission.specs.declared.network.Network.{Network}
use Rattle.admission.specs.Verdicts.{is_one_of}
use Rattle.package.specs.declared.counts.Class.{Class}
use Rattle.package.specs.declared.counts.Class.TheVariants as class
use Rattle.package.specs.declared.counts.Counts.{Counts}
use Rattle.package.specs.declared.counts.MailCounts.{MailCounts}
use Rattle.package.specs.Changes.{counts_of}
use Rattle.memchr.specs.Find.{OccursAt}
use Rattle.circular_buffer.specs.Buffer.{Buffer}
use Rattle.notifier_model.specs.declared.row.Kept.{Kept}
use Rattle.notifier_model.specs.Answers.{kept_answer}
use Rattle.notifier_model.specs.Requests.{key_of_request}
use Rattle.sip_read.specs.declared.message.Request.{Request}
use Rattle.sip_read.specs.declared.message.Message.{Message}
use Rattle.sip_read.specs.declared.message.Message.TheVariants as message
use Rattle.sip_read.specs.declared.error.ReadError.{ReadError}
use Rattle.sip_read.specs.Message.{IsReading}
use Rattle.sip_write.specs.declared.status.Status.{Status}
use Rattle.sip_write.specs.declared.status.Status.TheVariants as status
use Rattle.sip_write.specs.Answer.{AnswerText, answer_text, bare}
use Rattle.transport.specs.declared.datagram.Datagram.{Datagram}
use Rattle.transport.specs.Wires.{datagram, Grows}
use Rattle.transport.specs.Devices.{one_more}
use Rattle.control_lines.specs.declared.answer.ControlAnswer.TheVariants as control
use Rattle.control_lines.specs.declared.asking.TellOutcome.{TellOutcome}
use Rattle.control_lines.specs.declared.asking.TellOutcome.TheVariants as outcome
use Rattle.control_lines.specs.Asking.{SpeakerSeen, Turn, ComesOf}
use Rattle.control_lines.specs.Lines.{answer_text as control_text}
use Rattle.control_lines.specs.Pages.{counts_line}
use Rattle.voicemail.specs.declared.desk.TheConstants.{TAG}
use Rattle.voicemail.specs.Kept.{with_answer}
use Rattle.voicemail.specs.Notices as notices
use Rattle.voicemail.specs.Notices.{Asked, Notice, OfNothing, OfRefusal, OfNotice}

-- ---- lines

-- the line that asks what a mailbox was last told
abbrev pub show_line : List ℕ → List ℕ
show_line mailbox = codes "SHOW " ++ mailbox

abbrev pub no_messages : Counts
no_messages = record { new_count = 0; old_count = 0; urgent_new = 0; urgent_old = 0 }

-- a class that isn't named has no messages
abbrev pub counts_told : Notice → Class → Counts
counts_told n which = unwrap_or (counts_of which n.counts) no_messages

-- the MAIL line by which a class of a notice is told
abbrev pub class_line : Notice → Class → List ℕ
class_line n which = counts_line n.mailbox which (counts_told n which)

abbrev pub classes : List Class
classes = class.Voice ∷ class.Fax ∷ class.Pager ∷ class.Multimedia ∷ class.Text ∷ []

-- ---- what is told

-- a page has this line
abbrev pub Shows : List ℕ → List ℕ → Type 0
Shows page line = (place : ℕ) × OccursAt page line place

-- what came of a line, whose answer stands at the beginning of the room
abbrev pub status_of : TellOutcome → List ℕ → Status
status_of (outcome.Done n) room = status.Ok
status_of (outcome.Refused n) room =
    if bytes_eq (take n room) (control_text control.UnknownMailbox) then status.NotFound else status.ServiceUnavailable
status_of outcome.Silent room = status.ServiceUnavailable
status_of outcome.Fault room = status.ServiceUnavailable

-- an answer stands in the room
abbrev pub MayStand : TellOutcome → List ℕ → Type 0
MayStand (outcome.Done n) room = n ≤ length room
MayStand (outcome.Refused n) room = n ≤ length room
MayStand outcome.Silent room = Unit {0}
MayStand outcome.Fault room = Unit {0}

-- what a speaker tells of what it asked
abbrev pub speaker : {S : Type 0} → (S → ℕ) → (S → Option (List Turn)) → S → SpeakerSeen
speaker asked turns s = record { asked = asked s; turns = turns s }

-- the line was asked, and this came of it
abbrev pub IsAsked : List ℕ → SpeakerSeen → SpeakerSeen → Status → Type 0
IsAsked line old new s = (o : TellOutcome) × (room : List ℕ) × (s ≡ status_of o room) × ComesOf line o old new room

-- nothing was asked, since memory is wanting
abbrev pub IsWanting : SpeakerSeen → SpeakerSeen → Status → Type 0
IsWanting old new s = (s ≡ status.ServiceUnavailable) × (new ≡ old)

-- a class is told by its line, unless the page shows that
abbrev pub IsTold : Notice → List ℕ → Class → SpeakerSeen → SpeakerSeen → Status → Type 0
IsTold n page which old new s =
    ((s ≡ status.Ok) × Shows page (class_line n which) × (new ≡ old))
    ⊎ (IsAsked (class_line n which) old new s ⊎ IsWanting old new s)

-- all went well
abbrev pub is_done : Status → Bool
is_done status.Ok = true
is_done other = false

-- these classes are told, in order, until one isn't taken
abbrev pub AreTold : Notice → List ℕ → List Class → SpeakerSeen → SpeakerSeen → Status → Type 0
AreTold n page [] old new s = (s ≡ status.Ok) × (new ≡ old)
AreTold n page (c ∷ cs) old new s =
    (mid : SpeakerSeen) × (t : Status) × IsTold n page c old mid t
    × (((is_done t ≡ true) × AreTold n page cs mid new s) ⊎ ((is_done t ≡ false) × (s ≡ t) × (new ≡ mid)))

-- what was told of the mailbox stands in the room: the classes are told that it doesn't show. Without an answer nothing more is told
abbrev pub GoesOn : Notice → TellOutcome → List ℕ → SpeakerSeen → SpeakerSeen → Status → Type 0
GoesOn n (outcome.Done k) room old new s = AreTold n (take k room) classes old new s
GoesOn n (outcome.Refused k) room old new s = AreTold n (take k room) classes old new s
GoesOn n outcome.Silent room old new s = IsWanting old new s
GoesOn n outcome.Fault room old new s = IsWanting old new s

-- the notice was told, as far as it is taken
abbrev pub Tells : Notice → SpeakerSeen → SpeakerSeen → Status → Type 0
Tells n old new s =
    ((mid : SpeakerSeen) × (o : TellOutcome) × (room : List ℕ) × ComesOf (show_line n.mailbox) o old mid room × GoesOn n o room mid new s)
    ⊎ IsWanting old new s

-- ---- what is answered

-- methods (RFC 3261 section 21.4.6) and packages (RFC 6665 section 8.3.2)
abbrev pub allow_of : Status → Option (List (List ℕ))
allow_of status.MethodNotAllowed = Some (codes "NOTIFY" ∷ [])
allow_of other = None

abbrev pub allow_events_of : Status → Option (List (List ℕ))
allow_events_of status.BadEvent = Some (codes "message-summary" ∷ [])
allow_events_of other = None

-- the answer to a request from there
abbrev pub answer : Request → Addr → Status → List ℕ
answer r source s = answer_text (record (bare r.head source (Some TAG.now) s) { allow = allow_of s; allow_events = allow_events_of s })

-- what a wire took, and how many of its calls failed
pub record WireSeen : Type 0 where
  pub taken : Option (List Datagram)
  pub failures : ℕ

abbrev pub wire : {W : Type 0} → (W → Option (List Datagram)) → (W → ℕ) → W → WireSeen
wire taken failures w = record { taken = taken w; failures = failures w }

-- nothing was sent
abbrev pub IsQuiet : WireSeen → WireSeen → Type 0
IsQuiet old new = Grows old.taken new.taken [] × (new.failures ≡ old.failures)

-- the wire has taken these bytes, or counted that it couldn't send them: who asks asks again
abbrev pub IsSent : Addr → List ℕ → WireSeen → WireSeen → Type 0
IsSent to bytes old new =
    (Grows old.taken new.taken (datagram to bytes ∷ []) × (new.failures ≡ old.failures))
    ⊎ (Grows old.taken new.taken [] × (new.failures ≡ one_more old.failures))

-- the answer was sent, or there was no memory for it: who asks asks again
abbrev pub IsAnswered : Request → Addr → Status → WireSeen → WireSeen → Type 0
IsAnswered r source s old new = IsSent source (answer r source s) old new ⊎ IsQuiet old new

-- ---- one request

-- what a desk asked, what its wire took, and the answers that it keeps
pub record DeskSeen : Type 0 where
  pub speaker : SpeakerSeen
  pub wire : WireSeen
  pub kept : Buffer Kept

abbrev pub desk : {S W : Type 0} → (S → ℕ) → (S → Option (List Turn)) → (W → Option (List Datagram)) → (W → ℕ) → S → W → Buffer Kept → DeskSeen
desk asked turns taken failures s w kept = record { speaker = speaker asked turns s; wire = wire taken failures w; kept = kept }

-- nothing was told, answered or kept
abbrev pub Stays : DeskSeen → DeskSeen → Type 0
Stays old new = (new.speaker ≡ old.speaker) × IsQuiet old.wire new.wire × (new.kept ≡ old.kept)

-- the answer to a request from there is kept, unless memory is wanting
abbrev pub IsKept : Request → Addr → Status → Buffer Kept → Buffer Kept → Type 0
IsKept r source s kept kept' = (kept' ≡ with_answer kept (key_of_request r) (answer r source s)) ⊎ (kept' ≡ kept)

-- what a request asks for was done and answered. Was the service told of it? What isn't asked of the service is answered the same each time, so
-- that isn't kept
abbrev pub Does : Asked → Request → Addr → DeskSeen → DeskSeen → Bool → Type 0
Does OfNothing r source old new is_told = Stays old new × (is_told ≡ true)
Does (OfRefusal s) r source old new is_told =
    (new.speaker ≡ old.speaker) × IsAnswered r source s old.wire new.wire × (new.kept ≡ old.kept) × (is_told ≡ false)
Does (OfNotice n) r source old new is_told =
    (s : Status) × Tells n old.speaker new.speaker s × IsAnswered r source s old.wire new.wire × IsKept r source s old.kept new.kept
    × (is_told ≡ is_done s)

-- the kept answer was sent once more, and nobody was asked
abbrev pub Repeats : List ℕ → Addr → DeskSeen → DeskSeen → Bool → Type 0
Repeats bytes source old new is_told =
    (new.speaker ≡ old.speaker) × IsSent source bytes old.wire new.wire × (new.kept ≡ old.kept) × (is_told ≡ true)

-- a request whose transaction has a kept answer is a retransmission (RFC 3261 section 17.2.2). Any other one is new
abbrev pub Serves : Option (List ℕ) → Request → Addr → DeskSeen → DeskSeen → Bool → Type 0
Serves (Some bytes) r source old new is_told = Repeats bytes source old new is_told
Serves None r source old new is_told = Does (notices.meaning r) r source old new is_told

abbrev pub IsServed : Request → Addr → DeskSeen → DeskSeen → Bool → Type 0
IsServed r source old new is_told = Serves (kept_answer old.kept.items (key_of_request r)) r source old new is_told

-- the bytes are no request, or there was no memory to read them
abbrev pub IsNoRequest : Result Message ReadError → Type 0
IsNoRequest (Ok (message.Request r)) = ⊥
IsNoRequest (Ok (message.Response r)) = Unit {0}
IsNoRequest (Err e) = Unit {0}

-- a datagram that came from there was taken: what comes from none of these networks isn't read, what is no request is dropped, and what a
-- request asks for is done
abbrev pub IsTaken : List Network → Addr → List ℕ → DeskSeen → DeskSeen → Bool → Type 0
IsTaken networks source octets old new is_told =
    ((is_one_of networks source.ip ≡ false) × Stays old new × (is_told ≡ false))
    ⊎ (((m : Result Message ReadError) × IsReading octets m × IsNoRequest m × Stays old new × (is_told ≡ false))
    ⊎ ((is_one_of networks source.ip ≡ true) × (r : Request) × IsReading octets (Ok (message.Request r))
    × IsServed r source old new is_told))
