-- The plain form of each line, behind `notifyd: `. Texts of strangers are shown as `words` or one `word`, those of the operator or the system as
-- a `passage`.
use Rattle.std.specs.Prelude.{ℕ, List, [], ◌++◌, codes, decimal, Option, Some, None}
use Rattle.shown_text.specs.Shown.{words, word, passage}
use Rattle.sip_text.specs.Addresses.{addr_text}
use Rattle.log_lines.specs.declared.beginning.Course.{Course}
use Rattle.log_lines.specs.declared.beginning.Course.TheVariants as course
use Rattle.log_lines.specs.declared.beginning.Beginning.{Beginning}
use Rattle.log_lines.specs.declared.beginning.Beginning.TheVariants as beginning
use Rattle.log_lines.specs.declared.request.Request.{Request}
use Rattle.log_lines.specs.declared.request.Request.TheVariants as request
use Rattle.log_lines.specs.declared.not_taken.Dialog.{Dialog}
use Rattle.log_lines.specs.declared.not_taken.NotTaken.{NotTaken}
use Rattle.log_lines.specs.declared.outage.Outage.{Outage}
use Rattle.log_lines.specs.declared.outage.Outage.TheVariants as outage
use Rattle.log_lines.specs.declared.trouble.Trouble.{Trouble}
use Rattle.log_lines.specs.declared.trouble.Trouble.TheVariants as trouble
use Rattle.log_lines.specs.declared.ending.Ending.{Ending}
use Rattle.log_lines.specs.declared.ending.Ending.TheVariants as ending
use Rattle.log_lines.specs.declared.record.Record.{Record}
use Rattle.log_lines.specs.declared.record.Record.TheVariants as record_

abbrev pub course_text : Course → List ℕ
course_text course.GoesOn = codes "goes on from it"
course_text course.GoesOnRenewed = codes "goes on from it, with other options"
course_text course.GoesOnWithoutLast = codes "goes on from it, but for what was written last"
course_text course.EndsSubscriptions = codes "its subscriptions end: another seed, contact or number of workers"
course_text course.Unreadable = codes "can't be read, and is put aside"
course_text course.Unfit = codes "can't be gone on from, and is put aside"
course_text course.Unwritable = codes "can't be written, so nothing is kept"

abbrev pub plain_beginning : Beginning → List ℕ
plain_beginning (beginning.Listening address control workers mailboxes) =
    codes "listening at " ++ (addr_text address ++ (codes ", control at " ++ (addr_text control
    ++ (codes ", " ++ (decimal workers ++ (codes " workers, " ++ (decimal mailboxes ++ codes " mailboxes")))))))
plain_beginning (beginning.ControlReachable control) =
    codes "warning: other machines may reach the control address " ++ addr_text control
plain_beginning (beginning.SmallBuffer option octets asked) =
    codes "the system gives the socket of " ++ (option.now ++ (codes " room for " ++ (decimal octets
    ++ (codes " octets, not for " ++ decimal asked))))
plain_beginning (beginning.Journal folder course) = codes "journal " ++ (passage folder.now ++ (codes ": " ++ course_text course))

abbrev pub plain_request : Request → List ℕ
plain_request (request.Answered address method user code) =
    addr_text address ++ (codes " " ++ (words method.now ++ (codes " " ++ (words user.now ++ (codes " " ++ decimal code)))))
plain_request (request.Unanswered address mailbox tag) =
    addr_text address ++ (codes " NOTIFY " ++ (words mailbox.now ++ (codes ";tag=" ++ (words tag.now ++ codes " unanswered"))))
plain_request (request.Barred address user) = codes "barred user=" ++ (word user.now ++ (codes " source=" ++ addr_text address))

-- in which way NOTIFYs were not taken
abbrev pub not_taken_so : Option ℕ → List ℕ
not_taken_so None = codes "nobody answered"
not_taken_so (Some code) = codes "phones refused"

abbrev pub plain_dialog : Dialog → List ℕ
plain_dialog d = words d.mailbox.now ++ (codes ";tag=" ++ words d.tag.now)

abbrev pub plain_code : Option ℕ → List ℕ
plain_code None = []
plain_code (Some code) = codes " with " ++ decimal code

-- from which subscription the last of them was, where that is told
abbrev pub plain_last : Option Dialog → List ℕ
plain_last None = codes " more NOTIFYs, the last of them at "
plain_last (Some d) = codes " NOTIFYs, the last of them from " ++ (plain_dialog d ++ codes " at ")

abbrev pub plain_not_taken : NotTaken → List ℕ
plain_not_taken n =
    not_taken_so n.code ++ (codes " " ++ (decimal n.more ++ (plain_last n.dialog ++ (addr_text n.address ++ plain_code n.code))))

abbrev pub plain_outage : Outage → List ℕ
plain_outage (outage.Began most) =
    codes "every send fails: time isn't counted until one succeeds, for " ++ (decimal most ++ codes " seconds at most")
plain_outage (outage.Ended seconds) = codes "sends succeed again: " ++ (decimal seconds ++ codes " seconds were not counted")
plain_outage (outage.TooLong seconds) =
    codes "every send still fails: time counts again, " ++ (decimal seconds ++ codes " seconds were not counted")
plain_outage (outage.StoodStill seconds) = codes "the process stood still: " ++ (decimal seconds ++ codes " seconds are not counted")

abbrev pub plain_trouble : Trouble → List ℕ
plain_trouble (trouble.Outage o) = plain_outage o
plain_trouble (trouble.Counted more counter text) = decimal more ++ (codes " " ++ text.now)
plain_trouble (trouble.Failed more counter text) = decimal more ++ (codes " " ++ text.now)
plain_trouble (trouble.FailedSince more counter text cause) =
    decimal more ++ (codes " " ++ (text.now ++ (codes ", the last since: " ++ passage cause.now)))
plain_trouble (trouble.ReceiveFailed address cause) =
    codes "a receive at " ++ (addr_text address ++ (codes " failed: " ++ passage cause.now))
plain_trouble (trouble.NotTaken n) = plain_not_taken n

abbrev pub plain_ending : Ending → List ℕ
plain_ending (ending.OutOfMemory worker) = codes "worker " ++ (decimal worker ++ codes " ran out of memory, and so the service closed")
plain_ending (ending.Ended text counters) = codes "ended: " ++ text.now
plain_ending (ending.Refused status text) = passage text.now

abbrev pub plain : Record → List ℕ
plain (record_.Beginning b) = plain_beginning b
plain (record_.Request r) = plain_request r
plain (record_.Trouble t) = plain_trouble t
plain (record_.Ending e) = plain_ending e
