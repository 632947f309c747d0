-- The members of each record's JSON object, in order.
--
--   what                    further members
--   listening               address, control, workers, mailboxes
--   control_reachable       control
--   small_buffer            option, octets, asked
--   journal                 folder, course
--   answered                address, method, user, code
--   unanswered              address, method, mailbox, tag
--   barred                  address, user
--   outage_began            most
--   outage_ended            seconds
--   outage_too_long         seconds
--   stood_still             seconds
--   counted                 counter, more
--   not_done                counter, more, cause
--   receive_failed          address, cause
--   given_up                more, address, mailbox, tag
--   refused                 more, address, code, mailbox, tag
--   worker_out_of_memory    worker
--   ended                   counters
--   not_running             status, text
use Rattle.std.specs.Prelude.{ℕ, List, [], ◌∷◌, ◌++◌, codes, decimal, Option, Some, None}
use Rattle.std.specs.List.{flat_map}
use Rattle.json.specs.Token.{Token, begin_object, end_object, key, string}
use Rattle.json.specs.Token as token
use Rattle.sip_text.specs.declared.address.Addr.{Addr}
use Rattle.sip_text.specs.Addresses.{addr_text}
use Rattle.log_lines.specs.declared.beginning.Course.{Course}
use Rattle.log_lines.specs.declared.beginning.Course.TheVariants as course
use Rattle.log_lines.specs.declared.beginning.Beginning.{Beginning}
use Rattle.log_lines.specs.declared.beginning.Beginning.TheVariants as beginning
use Rattle.log_lines.specs.declared.request.Request.{Request}
use Rattle.log_lines.specs.declared.request.Request.TheVariants as request
use Rattle.log_lines.specs.declared.not_taken.Dialog.{Dialog}
use Rattle.log_lines.specs.declared.not_taken.NotTaken.{NotTaken}
use Rattle.log_lines.specs.declared.outage.Outage.{Outage}
use Rattle.log_lines.specs.declared.outage.Outage.TheVariants as outage
use Rattle.log_lines.specs.declared.trouble.Trouble.{Trouble}
use Rattle.log_lines.specs.declared.trouble.Trouble.TheVariants as trouble
use Rattle.log_lines.specs.declared.ending.Count.{Count}
use Rattle.log_lines.specs.declared.ending.Ending.{Ending}
use Rattle.log_lines.specs.declared.ending.Ending.TheVariants as ending
use Rattle.log_lines.specs.declared.record.Record.{Record}
use Rattle.log_lines.specs.declared.record.Record.TheVariants as record_
use Rattle.shown_text.specs.Shown as shown

-- ---- members

-- a word of the service's own
abbrev pub word : List ℕ → List ℕ → List Token
word name value = key name ∷ string value ∷ []

-- a text that a stranger may have written
abbrev pub text : List ℕ → List ℕ → List Token
text name value = word name (shown.words value)

-- such a text as one word
abbrev pub one_word : List ℕ → List ℕ → List Token
one_word name value = word name (shown.word value)

-- a text of the operator's or the system's
abbrev pub passage : List ℕ → List ℕ → List Token
passage name value = word name (shown.passage value)

abbrev pub place : List ℕ → Addr → List Token
place name value = word name (addr_text value)

abbrev pub number : List ℕ → ℕ → List Token
number name value = key name ∷ token.number (decimal value) ∷ []

-- what was counted, each by its name
abbrev pub each : List Count → List Token
each = flat_map (λ (c : Count). number c.name.now c.count)

abbrev pub counts : List ℕ → List Count → List Token
counts name all = key name ∷ begin_object ∷ (each all ++ end_object ∷ [])

-- ---- as a service begins

abbrev pub course_word : Course → List ℕ
course_word course.GoesOn = codes "goes_on"
course_word course.GoesOnRenewed = codes "goes_on_renewed"
course_word course.GoesOnWithoutLast = codes "goes_on_without_last"
course_word course.EndsSubscriptions = codes "ends_subscriptions"
course_word course.Unreadable = codes "unreadable"
course_word course.Unfit = codes "unfit"
course_word course.Unwritable = codes "unwritable"

abbrev pub beginning_what : Beginning → List ℕ
beginning_what (beginning.Listening address control workers mailboxes) = codes "listening"
beginning_what (beginning.ControlReachable control) = codes "control_reachable"
beginning_what (beginning.SmallBuffer option octets asked) = codes "small_buffer"
beginning_what (beginning.Journal folder course) = codes "journal"

abbrev pub beginning_members : Beginning → List Token
beginning_members (beginning.Listening address control workers mailboxes) =
    place (codes "address") address ++ (place (codes "control") control
    ++ (number (codes "workers") workers ++ number (codes "mailboxes") mailboxes))
beginning_members (beginning.ControlReachable control) = place (codes "control") control
beginning_members (beginning.SmallBuffer option octets asked) =
    word (codes "option") option.now ++ (number (codes "octets") octets ++ number (codes "asked") asked)
beginning_members (beginning.Journal folder course) =
    passage (codes "folder") folder.now ++ word (codes "course") (course_word course)

-- ---- single requests

abbrev pub request_what : Request → List ℕ
request_what (request.Answered address method user code) = codes "answered"
request_what (request.Unanswered address mailbox tag) = codes "unanswered"
request_what (request.Barred address user) = codes "barred"

abbrev pub request_members : Request → List Token
request_members (request.Answered address method user code) =
    place (codes "address") address ++ (text (codes "method") method.now
    ++ (text (codes "user") user.now ++ number (codes "code") code))
request_members (request.Unanswered address mailbox tag) =
    place (codes "address") address ++ (word (codes "method") (codes "NOTIFY")
    ++ (text (codes "mailbox") mailbox.now ++ text (codes "tag") tag.now))
request_members (request.Barred address user) = place (codes "address") address ++ one_word (codes "user") user.now

-- ---- time that isn't counted

abbrev pub outage_what : Outage → List ℕ
outage_what (outage.Began most) = codes "outage_began"
outage_what (outage.Ended seconds) = codes "outage_ended"
outage_what (outage.TooLong seconds) = codes "outage_too_long"
outage_what (outage.StoodStill seconds) = codes "stood_still"

abbrev pub outage_members : Outage → List Token
outage_members (outage.Began most) = number (codes "most") most
outage_members (outage.Ended seconds) = number (codes "seconds") seconds
outage_members (outage.TooLong seconds) = number (codes "seconds") seconds
outage_members (outage.StoodStill seconds) = number (codes "seconds") seconds

-- ---- what goes wrong

-- NOTIFYs that nobody answered, or that phones refused
abbrev pub not_taken_what : Option ℕ → List ℕ
not_taken_what None = codes "given_up"
not_taken_what (Some code) = codes "refused"

abbrev pub code_member : Option ℕ → List Token
code_member None = []
code_member (Some code) = number (codes "code") code

abbrev pub dialog_members : Option Dialog → List Token
dialog_members None = []
dialog_members (Some d) = text (codes "mailbox") d.mailbox.now ++ text (codes "tag") d.tag.now

abbrev pub not_taken_members : NotTaken → List Token
not_taken_members n =
    number (codes "more") n.more ++ (place (codes "address") n.address ++ (code_member n.code ++ dialog_members n.dialog))

abbrev pub trouble_what : Trouble → List ℕ
trouble_what (trouble.Outage o) = outage_what o
trouble_what (trouble.Counted more counter text) = codes "counted"
trouble_what (trouble.Failed more counter text) = codes "not_done"
trouble_what (trouble.FailedSince more counter text cause) = codes "not_done"
trouble_what (trouble.ReceiveFailed address cause) = codes "receive_failed"
trouble_what (trouble.NotTaken n) = not_taken_what n.code

abbrev pub trouble_members : Trouble → List Token
trouble_members (trouble.Outage o) = outage_members o
trouble_members (trouble.Counted more counter what) = word (codes "counter") counter.now ++ number (codes "more") more
trouble_members (trouble.Failed more counter what) = word (codes "counter") counter.now ++ number (codes "more") more
trouble_members (trouble.FailedSince more counter what cause) =
    word (codes "counter") counter.now ++ (number (codes "more") more ++ passage (codes "cause") cause.now)
trouble_members (trouble.ReceiveFailed address cause) = place (codes "address") address ++ passage (codes "cause") cause.now
trouble_members (trouble.NotTaken n) = not_taken_members n

-- ---- as a service ends

abbrev pub ending_what : Ending → List ℕ
ending_what (ending.OutOfMemory worker) = codes "worker_out_of_memory"
ending_what (ending.Ended text counters) = codes "ended"
ending_what (ending.Refused status text) = codes "not_running"

abbrev pub ending_members : Ending → List Token
ending_members (ending.OutOfMemory worker) = number (codes "worker") worker
ending_members (ending.Ended line counters) = counts (codes "counters") counters.now
ending_members (ending.Refused status why) = number (codes "status") status ++ passage (codes "text") why.now

-- ---- all of them

abbrev pub what : Record → List ℕ
what (record_.Beginning b) = beginning_what b
what (record_.Request r) = request_what r
what (record_.Trouble t) = trouble_what t
what (record_.Ending e) = ending_what e

-- a journal that isn't gone on from is a warning
abbrev course_level : Course → Option (List ℕ)
course_level course.GoesOn = None
course_level course.GoesOnRenewed = None
course_level course.GoesOnWithoutLast = None
course_level course.EndsSubscriptions = Some (codes "warning")
course_level course.Unreadable = Some (codes "warning")
course_level course.Unfit = Some (codes "warning")
course_level course.Unwritable = Some (codes "warning")

-- how bad it is, where it is
abbrev pub level : Record → Option (List ℕ)
level (record_.Beginning (beginning.Listening address control workers mailboxes)) = None
level (record_.Beginning (beginning.ControlReachable control)) = Some (codes "warning")
level (record_.Beginning (beginning.SmallBuffer option octets asked)) = Some (codes "warning")
level (record_.Beginning (beginning.Journal folder course)) = course_level course
level (record_.Request r) = None
level (record_.Trouble (trouble.Outage o)) = Some (codes "warning")
level (record_.Trouble (trouble.Counted more counter text)) = None
level (record_.Trouble (trouble.Failed more counter text)) = Some (codes "warning")
level (record_.Trouble (trouble.FailedSince more counter text cause)) = Some (codes "warning")
level (record_.Trouble (trouble.ReceiveFailed address cause)) = Some (codes "warning")
level (record_.Trouble (trouble.NotTaken n)) = None
level (record_.Ending (ending.OutOfMemory worker)) = Some (codes "error")
level (record_.Ending (ending.Ended text counters)) = None
level (record_.Ending (ending.Refused status text)) = Some (codes "error")

abbrev pub members : Record → List Token
members (record_.Beginning b) = beginning_members b
members (record_.Request r) = request_members r
members (record_.Trouble t) = trouble_members t
members (record_.Ending e) = ending_members e

-- a member of this name, where there is a word for it
abbrev pub if_known : List ℕ → Option (List ℕ) → List Token
if_known name None = []
if_known name (Some value) = word name value

-- what each line has
abbrev pub head : Option (List ℕ) → Record → List Token
head time r = if_known (codes "time") time ++ (word (codes "what") (what r) ++ if_known (codes "level") (level r))

-- the object of a record, at this time of day
abbrev pub object : Option (List ℕ) → Record → List Token
object time r = begin_object ∷ (head time r ++ (members r ++ end_object ∷ []))
