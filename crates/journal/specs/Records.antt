-- Records: how each is written, and which bytes hold which.
--
--   header = "h" text number bytes address address text
--                                     ; version, workers, seed, where it listened, where phones reached it, start of the machine
--   book   = "b" number told desk      ; worker, what it had been told, what its desk kept
--   told   = number number list list  ; how many events, and changes of mailboxes; of each mailbox and class, and of each transfer, the last
--   event  = "e" number event         ; worker, what it handled
--   line   = "l" number number mail   ; worker, which line, what it changed
--   clock  = "c" number number        ; second of the notifier, seconds of the wall clock
use Rattle.std.specs.Prelude.{◌≡◌, ℕ, Bool, true, List, [], ◌∷◌, ◌++◌, length, ◌==◌, if◌then◌else◌, Option, Some, None, codes}
use Rattle.std.specs.List.{flat_map}
use Rattle.std.specs.Str.{byte}
use Rattle.sip_text.specs.declared.address.Addr.{Addr}
use Rattle.sip_text.specs.Addresses.{IsAddr}
use Rattle.sip_text.specs.Reading.{◌>>=◌}
use Rattle.package.specs.Values.{MailChange, Progress}
use Rattle.notifier_model.specs.declared.event.Event.{Event}
use Rattle.notifier_model.specs.declared.saved.Saved.{Saved}
use Rattle.snapshots.specs.Forms.{number_text, number_at, IsNumber, count_at, IsCount, bytes_text, bytes_at, AreBytes, text_at, IsText, address_text, address_at, both_at, made_at, case_at, list_text, list_at, AreAll}
use Rattle.snapshots.specs.Books.{IsSaved, saved_at, book_text, behind}
use Rattle.snapshots.specs.Changes.{mail_text, mail_at, IsMail, progress_text, progress_at, IsStep}
use Rattle.snapshots.specs.Events.{event_text, event_at, EventFits, IsEvent, is_sound}
use Rattle.journal.specs.declared.header.Header.{Header}
use Rattle.journal.specs.declared.record.Told.{Told}
use Rattle.journal.specs.declared.record.Book.{Book}
use Rattle.journal.specs.declared.record.Line.{Line}
use Rattle.journal.specs.declared.record.Clock.{Clock}
use Rattle.journal.specs.declared.record.Record.{Record}
use Rattle.journal.specs.declared.record.Record.TheVariants.{Header as First, Book as Had, Handled, Line as Answered, Clock as Shown}
use Rattle.journal.specs.Frames.{frame, IsPayload, IsTornOf, HoldsOf}

-- ---- what a file begins with

abbrev pub header_text : Header → List ℕ
header_text h =
    bytes_text h.version ++ (number_text h.workers ++ (bytes_text h.seed
    ++ (address_text h.listen ++ (address_text h.contact ++ bytes_text h.boot))))

abbrev pub HeaderParts : Type 0
HeaderParts = List ℕ × (ℕ × (List ℕ × (Addr × (Addr × List ℕ))))

-- a seed has 32 bytes
unfoldable pub seed_of : List ℕ → Option (List ℕ)
seed_of w = if length w == 32 then Some w else None

unfoldable pub header_of : HeaderParts → Option Header
header_of p = do
  seed ← seed_of p.1.1.0
  Some (record { version = p.0; workers = p.1.0; seed = seed; listen = p.1.1.1.0; contact = p.1.1.1.1.0; boot = p.1.1.1.1.1 })

unfoldable pub header_at : List ℕ → Option (Header × List ℕ)
header_at t = made_at header_of (both_at text_at (both_at count_at (both_at bytes_at (both_at address_at (both_at address_at text_at))))) t

pub record IsHeader (h : Header) : Type 0 where
  pub version : IsText h.version
  pub workers : IsCount h.workers
  pub seed : length h.seed ≡ 32
  pub listen : IsAddr h.listen
  pub contact : IsAddr h.contact
  pub boot : IsText h.boot

-- ---- what a worker had at a moment

abbrev pub told_text : Told → List ℕ
told_text t = number_text t.events ++ (number_text t.mails ++ (list_text mail_text t.mail ++ list_text progress_text t.progress))

abbrev pub ToldParts : Type 0
ToldParts = ℕ × (ℕ × (List MailChange × List Progress))

abbrev pub told_of : ToldParts → Option Told
told_of p = Some (record { events = p.0; mails = p.1.0; mail = p.1.1.0; progress = p.1.1.1 })

unfoldable pub told_at : List ℕ → Option (Told × List ℕ)
told_at t = made_at told_of (both_at number_at (both_at number_at (both_at (list_at mail_at) (list_at progress_at)))) t

pub record IsTold (t : Told) : Type 0 where
  pub events : IsNumber t.events
  pub mails : IsNumber t.mails
  pub mail : AreAll IsMail t.mail
  pub progress : AreAll IsStep t.progress

-- what a desk kept, with its first line
unfoldable pub desk_at : List ℕ → Option (Saved × List ℕ)
desk_at t = do
  rest ← behind t
  saved_at rest

abbrev pub had_text : Book → List ℕ
had_text b = number_text b.worker ++ (told_text b.told ++ book_text b.saved)

abbrev pub BookParts : Type 0
BookParts = ℕ × (Told × Saved)

abbrev pub had_of : BookParts → Option Book
had_of p = Some (record { worker = p.0; told = p.1.0; saved = p.1.1 })

unfoldable pub had_at : List ℕ → Option (Book × List ℕ)
had_at t = made_at had_of (both_at count_at (both_at told_at desk_at)) t

pub record IsHad (b : Book) : Type 0 where
  pub worker : IsCount b.worker
  pub told : IsTold b.told
  pub saved : IsSaved b.saved

-- ---- a control line, and clocks

abbrev pub line_text : Line → List ℕ
line_text l = number_text l.worker ++ (number_text l.number ++ mail_text l.change)

abbrev pub LineParts : Type 0
LineParts = ℕ × (ℕ × MailChange)

abbrev pub line_of : LineParts → Option Line
line_of p = Some (record { worker = p.0; number = p.1.0; change = p.1.1 })

unfoldable pub line_at : List ℕ → Option (Line × List ℕ)
line_at t = made_at line_of (both_at count_at (both_at number_at mail_at)) t

pub record IsLine (l : Line) : Type 0 where
  pub worker : IsCount l.worker
  pub number : IsNumber l.number
  pub change : IsMail l.change

abbrev pub clock_text : Clock → List ℕ
clock_text c = number_text c.tick ++ number_text c.wall

abbrev pub clock_of : ℕ × ℕ → Option Clock
clock_of p = Some (record { tick = p.0; wall = p.1 })

unfoldable pub clock_at : List ℕ → Option (Clock × List ℕ)
clock_at t = made_at clock_of (both_at number_at number_at) t

abbrev pub IsClock : Clock → Type 0
IsClock c = IsNumber c.tick × IsNumber c.wall

-- ---- a record

abbrev pub handled_text : ℕ → Event → List ℕ
handled_text worker event = codes "e" ++ (number_text worker ++ event_text event)

-- a book, of a desk that wrote these bytes
abbrev pub had_bytes : ℕ → Told → List ℕ → List ℕ
had_bytes worker told desk = codes "b" ++ (number_text worker ++ (told_text told ++ desk))

abbrev pub book_record : ℕ → Told → Saved → Record
book_record worker told saved = Had (record { worker = worker; told = told; saved = saved })

abbrev pub record_text : Record → List ℕ
record_text (First header) = codes "h" ++ header_text header
record_text (Had book) = codes "b" ++ had_text book
record_text (Handled worker event) = handled_text worker event
record_text (Answered line) = codes "l" ++ line_text line
record_text (Shown clock) = codes "c" ++ clock_text clock

unfoldable pub first_at : List ℕ → Option (Record × List ℕ)
first_at t = case_at (λ h. First h) header_at t

unfoldable pub book_at : List ℕ → Option (Record × List ℕ)
book_at t = case_at (λ b. Had b) had_at t

unfoldable pub handled_at : List ℕ → Option (Record × List ℕ)
handled_at t = case_at (λ p. Handled p.0 p.1) (both_at count_at event_at) t

unfoldable pub answered_at : List ℕ → Option (Record × List ℕ)
answered_at t = case_at (λ l. Answered l) line_at t

unfoldable pub shown_at : List ℕ → Option (Record × List ℕ)
shown_at t = case_at (λ c. Shown c) clock_at t

-- a record at the front, and what follows
unfoldable pub record_at : List ℕ → Option (Record × List ℕ)
record_at [] = None
record_at (x ∷ xs) =
    if x == byte "h" then first_at xs
    else if x == byte "b" then book_at xs
    else if x == byte "e" then handled_at xs
    else if x == byte "l" then answered_at xs
    else if x == byte "c" then shown_at xs
    else None

-- nothing may follow
abbrev pub alone : Record × List ℕ → Option Record
alone p = if length p.1 == 0 then Some p.0 else None

-- the record that a payload is
unfoldable pub whole_at : List ℕ → Option Record
whole_at t = do
  r ← record_at t
  alone r

-- ---- which records are written and read again

-- what the types of its parts tell of it
abbrev pub RecordFits : Record → Type 0
RecordFits (First header) = IsHeader header
RecordFits (Had book) = IsHad book
RecordFits (Handled worker event) = IsCount worker × EventFits event
RecordFits (Answered line) = IsLine line
RecordFits (Shown clock) = IsClock clock

abbrev pub record_is_sound : Record → Bool
record_is_sound (First header) = true
record_is_sound (Had book) = true
record_is_sound (Handled worker event) = is_sound event
record_is_sound (Answered line) = true
record_is_sound (Shown clock) = true

pub record IsWhole (r : Record) : Type 0 where
  pub fits : RecordFits r
  pub sound : record_is_sound r ≡ true

abbrev pub written : Record → List ℕ
written r = frame (record_text r)

pub record IsRecord (r : Record) : Type 0 where
  pub whole : IsWhole r
  pub short : IsPayload (record_text r)

-- ---- which records bytes hold

-- no whole record stands at the front
abbrev pub IsTorn : List ℕ → Type 0
IsTorn = IsTornOf written IsRecord

-- the bytes are these records, one behind the other, and behind them no whole one stands
abbrev pub Holds : List ℕ → List Record → Type 0
Holds = HoldsOf written IsRecord

-- what a reader found: the records, and how many bytes they have
pub record AreRead (bytes : List ℕ) (records : List Record) (whole : ℕ) : Type 0 where
  pub holds : Holds bytes records
  pub counted : whole ≡ length (flat_map written records)

-- what was written, record by record
abbrev pub file : List Record → List ℕ
file records = flat_map written records
