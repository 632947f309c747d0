-- What a service does with control lines, and what it answers.
use Rattle.std.specs.Prelude.{◌≡◌, ◌+◌, ◌&&◌, ◌||◌, ◌==◌, not, ℕ, Bool, true, false, List, [], ◌∷◌, ◌++◌, length, map, ◌⊎◌, Option, Some, None, is_some, nat_le, nat_lt, String, string_bytes, if◌then◌else◌}
use Rattle.std.specs.Int.NonZero.{non_zero_u32_get}
use Rattle.std.specs.List.{filter, filter_map, fold, list_any, list_all, AllByRecursion}
use Rattle.std.specs.Str.{byte}
use Rattle.std.specs.Option.{option_map_or}
use Rattle.std.specs.declared.alloc.Global.{Global}
use Rattle.sip_text.specs.declared.address.Addr.{Addr}
use Rattle.sip_text.specs.Reading.{begins}
use Rattle.admission.specs.declared.network.Network.{Network}
use Rattle.admission.specs.Networks.{contains}
use Rattle.admission.specs.Verdicts.{has_none as names_none, is_one_of}
use Rattle.package.specs.declared.change.Change.{Change}
use Rattle.package.specs.declared.change.Change.TheVariants as change
use Rattle.notifier_model.specs.declared.event.Event.{Event}
use Rattle.notifier_model.specs.declared.event.Event.TheVariants as happened
use Rattle.notifier_model.specs.Told.{told_event}
use Rattle.crew.specs.Ports.{PortSeats}
use Rattle.transport.specs.Devices.{one_more, rises}
use Rattle.transport.specs.declared.datagram.Datagram.{Datagram}
use Rattle.transport.specs.Wires.{datagram, Grows}
use Rattle.feeds.specs.declared.feeding.FeedEnd.{FeedEnd}
use Rattle.feeds.specs.declared.feeding.FeedEnd.TheVariants as ends
use Rattle.feeds.specs.Fed.{Sends, Misses}
use Rattle.control_lines.specs.declared.answer.ControlAnswer.{ControlAnswer}
use Rattle.control_lines.specs.declared.answer.ControlAnswer.TheVariants as answer
use Rattle.control_lines.specs.declared.line.Asked.TheVariants as asked
use Rattle.control_lines.specs.declared.question.Question.{Question}
use Rattle.control_lines.specs.declared.question.Question.TheVariants as question
use Rattle.control_lines.specs.declared.token.Token.{Token}
use Rattle.control_lines.specs.Kept.{kept_answer, with_answer}
use Rattle.control_lines.specs.Lines.{Asks, is_answer, answer_text}
use Rattle.control_lines.specs.Tokens.{token, line}
use Rattle.control_lines.specs.Told.{Row, place, told, with_name, AreUntold}
use Rattle.watchers.specs.declared.inquiry.Inquiry.{Inquiry}
use Rattle.service.specs.Told.{IsRefusal, IsReport, IsShown, IsInquiry, IsWatched, dumped}
use Rattle.service.specs.declared.lines.Handled.{Handled}
use Rattle.service.specs.declared.operators.Operators.{Operators}
use Rattle.service.specs.declared.operators.TheConstants.{LONGEST_NAME}
use Rattle.service.specs.declared.lines.Handled.TheVariants as did
use Rattle.service.specs.declared.lines.ControlDesk.{ControlDesk}
use Rattle.service.specs.declared.lines.KeptAnswers.{KeptAnswers}

-- whose lines are heard: the addresses of the service's own sockets, and the networks that are named
pub record Hearing : Type 0 where
  pub own : List Addr
  pub networks : List Network

abbrev pub operators_in : Operators → Hearing
operators_in o = record { own = o.own; networks = o.networks.items }

-- what a desk knows: how many workers the service has, whose lines are heard, how many mailboxes there are at most where MAIL lines make
-- some, what its mailboxes were last told, and the answers to the last lines with a token
pub record DeskSeen : Type 0 where
  pub workers : ℕ
  pub hearing : Hearing
  pub most : ℕ
  pub rows : List Row
  pub kept : KeptAnswers

abbrev pub seen : {W : Type 0} → ControlDesk W → DeskSeen
seen d = record { workers = non_zero_u32_get d.workers; hearing = operators_in d.operators; most = d.most; rows = d.told; kept = d.kept }

-- ---- whose lines are heard

-- this machine: 127.0.0.0/8 (RFC 1122 section 3.2.1.3)
abbrev pub loopback : Network
loopback = record { ip = 127 ∷ 0 ∷ 0 ∷ 0 ∷ []; length = 8 }

-- this address alone
abbrev pub alone : List ℕ → Network
alone ip = record { ip = ip; length = 32 }

-- where a socket sends from that is bound to this address: 0.0.0.0 reaches this machine from 127.0.0.0/8
abbrev pub network_at : List ℕ → Network
network_at ip = if contains (alone (0 ∷ 0 ∷ 0 ∷ 0 ∷ [])) ip then loopback else alone ip

-- a socket that is bound to this address sent it
abbrev pub is_from : Addr → Addr → Bool
is_from bound source = (bound.port == source.port) && contains (network_at bound.ip) source.ip

-- it came from a socket of the service itself
abbrev pub is_own : List Addr → Addr → Bool
is_own own source = list_any (λ bound. is_from bound source) own

-- those of this machine are named always, and all are where none is
abbrev pub is_named : List Network → List ℕ → Bool
is_named networks ip = names_none networks || (contains loopback ip || is_one_of networks ip)

-- a line is heard that the service didn't send itself, from this machine or one of the networks, or from anywhere where none is named
abbrev pub is_heard : Hearing → Addr → Bool
is_heard h source = not (is_own h.own source) && is_named h.networks source.ip

abbrev pub is_near : DeskSeen → Addr → Bool
is_near desk source = is_heard desk.hearing source

-- ---- what the mailboxes were told before any line came

-- what is told of them by this change, if it tells of one
abbrev pub told_of : Change → List Row → List Row
told_of (change.Mail m) rows = told m rows
told_of other rows = rows

-- these changes, in order
abbrev pub told_each : List Row → List Change → List Row
told_each rows changes = fold (λ (told_so_far : List Row) c. told_of c told_so_far) rows changes

-- the mailboxes with these names were told of these changes, in order, and of nothing else
abbrev pub WereTold : List (List ℕ) → List Change → List Row → Type 0
WereTold names changes rows =
    (untold : List Row) × AreUntold names untold × (rows ≡ told_each untold changes)

-- ---- what a line means, behind its token, to a service that was told so of its mailboxes

-- the service has the mailbox that a change is of, if it is of one
abbrev pub is_known : List Row → Change → Bool
is_known rows (change.Mail m) = is_some (place m.mailbox rows)
is_known rows other = true

-- no `@` and no `:`, which end the user of an address (RFC 3261 section 19.1.1)
abbrev pub is_user : List ℕ → Bool
is_user name = list_all (λ b. not (b == byte "@") && not (b == byte ":")) name

-- a line may make a mailbox of this name: a file of mailboxes may hold it, where a `-` begins an option, and answers about it fit a datagram
abbrev pub may_be_named : List ℕ → Bool
may_be_named name = nat_le (length name) LONGEST_NAME && (is_user name && not (begins (byte "-") name))

-- where MAIL lines make mailboxes until there are so many, this one makes that which it is of, should the service not have it
abbrev pub makes : ℕ → List Row → Change → Bool
makes most rows (change.Mail m) = nat_lt (length rows) most && may_be_named m.mailbox
makes most rows other = false

-- the service has the mailbox that a change is of, or makes it
abbrev pub is_taken_in : ℕ → List Row → Change → Bool
is_taken_in most rows c = is_known rows c || makes most rows c

-- the mailboxes, with that which a change is of: behind the others, where it is a further one
abbrev pub made : Change → List Row → List Row
made (change.Mail m) rows = with_name m.mailbox rows
made other rows = rows

-- it tells that this happened: a mailbox changed that the service has or makes, or a transfer went on
abbrev pub Tells : ℕ → List Row → List ℕ → Event → Type 0
Tells most rows octets e = (c : Change) × Asks octets (asked.Change c) × (is_taken_in most rows c ≡ true) × (told_event c ≡ Some e)

-- it tells of a mailbox that the service would make
abbrev pub MayMake : ℕ → List Row → List ℕ → Type 0
MayMake most rows octets =
    (c : Change) × Asks octets (asked.Change c) × (is_known rows c ≡ false) × (makes most rows c ≡ true)

-- the question names a mailbox that the service doesn't have
abbrev pub NamesNone : List Row → Question → Type 0
NamesNone rows question.Status = ⊥
NamesNone rows (question.Show name) = place name rows ≡ None
NamesNone rows (question.Dump None) = ⊥
NamesNone rows (question.Dump (Some name)) = place name rows ≡ None
NamesNone rows (question.Watchers None from) = ⊥
NamesNone rows (question.Watchers (Some name) from) = place name rows ≡ None

-- it asks of a mailbox that the service doesn't have, or tells of one that it doesn't make either
abbrev pub IsUnknown : ℕ → List Row → List ℕ → Type 0
IsUnknown most rows octets =
    ((c : Change) × Asks octets (asked.Change c) × (is_taken_in most rows c ≡ false))
    ⊎ ((q : Question) × Asks octets (asked.Question q) × NamesNone rows q)

-- the question asks for the mailboxes from this place on
abbrev pub BeginsAt : List Row → ℕ → Question → Type 0
BeginsAt rows n question.Status = ⊥
BeginsAt rows n (question.Show name) = ⊥
BeginsAt rows n (question.Dump None) = n ≡ 0
BeginsAt rows n (question.Dump (Some name)) = (before : ℕ) × (place name rows ≡ Some before) × (n ≡ before + 1)
BeginsAt rows n (question.Watchers mailbox from) = ⊥

-- the question asks for those that watch the mailbox at this place, or any, from this place in the list of rows on
abbrev pub AsksForWatchers : List Row → Option ℕ → ℕ → Question → Type 0
AsksForWatchers rows None from q = q ≡ question.Watchers None from
AsksForWatchers rows (Some n) from q = (name : List ℕ) × (q ≡ question.Watchers (Some name) from) × (place name rows ≡ Some n)

-- the question asks for this
abbrev pub IsFound : List Row → Question → Handled → Type 0
IsFound rows q (did.Answered answer.UnknownMailbox) = NamesNone rows q
IsFound rows q did.Counters = q ≡ question.Status
IsFound rows q (did.Shown n) = (name : List ℕ) × (q ≡ question.Show name) × (place name rows ≡ Some n)
IsFound rows q (did.Dumped n) = BeginsAt rows n q
IsFound rows q (did.Watched m n) = AsksForWatchers rows m n q
IsFound rows q other = ⊥

-- ---- what is done with it

-- what is told of the mailboxes where this happened
abbrev pub told_by : Event → List Row → List Row
told_by (happened.Mail m) rows = told m (with_name m.mailbox rows)
told_by other rows = rows

-- what is told of them by an event, if there is one
abbrev pub rows_after : Option Event → List Row → List Row
rows_after None rows = rows
rows_after (Some e) rows = told_by e rows

-- nothing was sent, and no mailbox was told anything
abbrev pub Stays : List Row → List Row → PortSeats → PortSeats → Type 0
Stays rows rows' old new = (rows' ≡ rows) × (new ≡ old)

-- the event was sent and is answered so, or its worker is gone
abbrev pub IsSent : PortSeats → Event → PortSeats → Handled → Type 0
IsSent old e new (did.Answered answer.Done) = Sends old (e ∷ []) new
IsSent old e new did.Gone = Misses old e new
IsSent old e new other = ⊥

-- why a change isn't taken in: its mailbox is unknown and not made, or it can't be made now
abbrev pub IsNotTakenIn : ℕ → List Row → Change → ControlAnswer → Type 0
IsNotTakenIn most rows c answer.UnknownMailbox = is_taken_in most rows c ≡ false
IsNotTakenIn most rows c answer.NoMemory = (is_known rows c ≡ false) × (makes most rows c ≡ true)
IsNotTakenIn most rows c other = ⊥

-- the same of a change that is taken in, and its mailbox was told of it. One that is no event is no line
abbrev pub IsChanged : ℕ → Change → List Row → List Row → PortSeats → PortSeats → Handled → Type 0
IsChanged most c rows rows' old new (did.Answered answer.Done) =
    (e : Event) × (told_event c ≡ Some e) × (is_taken_in most rows c ≡ true) × (rows' ≡ told_of c (made c rows)) × Sends old (e ∷ []) new
IsChanged most c rows rows' old new (did.Answered answer.UnknownMailbox) = IsNotTakenIn most rows c answer.UnknownMailbox × Stays rows rows' old new
IsChanged most c rows rows' old new (did.Answered answer.NoMemory) = IsNotTakenIn most rows c answer.NoMemory × Stays rows rows' old new
IsChanged most c rows rows' old new (did.Answered answer.BadLine) = (told_event c ≡ None) × Stays rows rows' old new
IsChanged most c rows rows' old new did.Gone =
    (e : Event) × (told_event c ≡ Some e) × (is_taken_in most rows c ≡ true) × (rows' ≡ told_of c (made c rows)) × Misses old e new
IsChanged most c rows rows' old new other = ⊥

-- what may be done with a RELOAD: it is the one by which this run began, its files are still being read, it is refused, or they are good
abbrev pub IsReload : Handled → Type 0
IsReload (did.Repeated a) = a ≡ answer.Done
IsReload did.Unanswered = Unit {0}
IsReload did.Refused = Unit {0}
IsReload did.Ending = Unit {0}
IsReload other = ⊥

-- what a line means that was not answered before, behind its token: the event that it tells, if it tells one, and what is done
abbrev pub Means : ℕ → List Row → List ℕ → Option Event → Handled → Type 0
Means most rows octets event (did.Answered answer.Done) = (e : Event) × (event ≡ Some e) × Tells most rows octets e
Means most rows octets event (did.Answered answer.BadLine) = (event ≡ None) × Asks octets asked.Bad
Means most rows octets event (did.Answered answer.UnknownMailbox) = (event ≡ None) × IsUnknown most rows octets
Means most rows octets event (did.Answered answer.Closed) = ⊥
Means most rows octets event (did.Answered answer.NoMemory) = (event ≡ None) × (Asks octets asked.NoMemory ⊎ MayMake most rows octets)
Means most rows octets event (did.Answered answer.Busy) = ⊥
Means most rows octets event (did.Repeated a) = (event ≡ None) × (a ≡ answer.Done) × Asks octets asked.Reload
Means most rows octets event did.Unanswered = (event ≡ None) × (Asks octets asked.Nothing ⊎ Asks octets asked.Reload)
Means most rows octets event did.Foreign = ⊥
Means most rows octets event did.Counters = (event ≡ None) × Asks octets (asked.Question question.Status)
Means most rows octets event (did.Shown n) =
    (event ≡ None) × (name : List ℕ) × Asks octets (asked.Question (question.Show name)) × (place name rows ≡ Some n)
Means most rows octets event (did.Dumped n) = (event ≡ None) × (q : Question) × Asks octets (asked.Question q) × BeginsAt rows n q
Means most rows octets event (did.Watched m n) = (event ≡ None) × (q : Question) × Asks octets (asked.Question q) × AsksForWatchers rows m n q
Means most rows octets event did.Refused = (event ≡ None) × Asks octets asked.Reload
Means most rows octets event did.Closing = (event ≡ None) × Asks octets asked.Close
Means most rows octets event did.Ending = (event ≡ None) × Asks octets asked.Reload
Means most rows octets event did.Gone = (e : Event) × (event ≡ Some e) × Tells most rows octets e

-- the port has sent the event, or its worker is gone; without an event nothing was sent
abbrev pub Reaches : Option Event → Handled → PortSeats → PortSeats → Type 0
Reaches None d old new = new ≡ old
Reaches (Some e) did.Gone old new = Misses old e new
Reaches (Some e) other old new = Sends old (e ∷ []) new

-- what was done with the line is what it means; its mailbox was told of its event, and the port too
abbrev pub IsDone : ℕ → List ℕ → List Row → List Row → PortSeats → PortSeats → Handled → Type 0
IsDone most octets rows rows' old new d =
    (event : Option Event) × Means most rows octets event d × (rows' ≡ rows_after event rows) × Reaches event d old new

-- the answer to a line with this token is kept, or counted as lost. A line without a token has none to keep
abbrev pub kept_or_lost : Bool → Option Token → ControlAnswer → KeptAnswers → KeptAnswers
kept_or_lost is_kept None a kept = kept
kept_or_lost true (Some t) a kept = record kept { lines = with_answer kept.lines (Some t) a }
kept_or_lost false (Some t) a kept = record kept { lost = one_more kept.lost }

-- the answers that are kept once this was done with a line with this token. What asks the service something, closes it or isn't heard leaves
-- them as they are
abbrev pub kept_with : Bool → Option Token → Handled → KeptAnswers → KeptAnswers
kept_with is_kept t (did.Answered a) kept = kept_or_lost is_kept t a kept
kept_with is_kept t other kept = kept

-- its token was answered so before, and nothing was done with it
abbrev pub IsAgain : List ℕ → DeskSeen → DeskSeen → PortSeats → PortSeats → Handled → Type 0
IsAgain octets desk desk' old new d =
    (a : ControlAnswer) × (d ≡ did.Repeated a) × (kept_answer desk.kept.lines.items (token octets) ≡ Some a) × (desk' ≡ desk) × (new ≡ old)

-- it has no token, or one that has no answer yet
abbrev pub IsNews : List ℕ → DeskSeen → DeskSeen → PortSeats → PortSeats → Handled → Type 0
IsNews octets desk desk' old new d =
    (kept_answer desk.kept.lines.items (token octets) ≡ None)
    × (is_kept : Bool) × (rows' : List Row)
    × (desk' ≡ record { workers = desk.workers; hearing = desk.hearing; most = desk.most; rows = rows'; kept = kept_with is_kept (token octets) d desk.kept })
    × IsDone desk.most (line octets) desk.rows rows' old new d

-- it came from elsewhere than lines are heard from, and nothing was done with it
abbrev pub IsPassed : Addr → DeskSeen → DeskSeen → PortSeats → PortSeats → Handled → Type 0
IsPassed source desk desk' old new d = (is_near desk source ≡ false) × (d ≡ did.Foreign) × (desk' ≡ desk) × (new ≡ old)

abbrev pub IsTaken : Addr → List ℕ → DeskSeen → DeskSeen → PortSeats → PortSeats → Handled → Type 0
IsTaken source octets desk desk' old new d =
    IsPassed source desk desk' old new d
    ⊎ ((is_near desk source ≡ true) × (IsAgain octets desk desk' old new d ⊎ IsNews octets desk desk' old new d))

-- how the taking of lines ends after this, if it does
abbrev pub end_after : Handled → Option FeedEnd
end_after did.Closing = Some ends.Done
end_after did.Ending = Some ends.Done
end_after did.Gone = Some ends.Gone
end_after other = None

-- ---- its answer

-- a text, or this answer where there is none
abbrev pub text_or : Option (String Global) → ControlAnswer → List ℕ
text_or text otherwise = option_map_or string_bytes text (answer_text otherwise)

abbrev pub IsReply : DeskSeen → Handled → List ℕ → Type 0
IsReply desk (did.Answered a) octets = octets ≡ answer_text a
IsReply desk (did.Repeated a) octets = octets ≡ answer_text a
IsReply desk did.Unanswered octets = ⊥
IsReply desk did.Foreign octets = ⊥
IsReply desk did.Counters octets = IsReport octets ⊎ (octets ≡ answer_text answer.NoMemory)
IsReply desk (did.Shown n) octets = IsShown desk.rows desk.workers n octets ⊎ (octets ≡ answer_text answer.NoMemory)
IsReply desk (did.Dumped n) octets = (octets ≡ dumped desk.rows n) ⊎ (octets ≡ answer_text answer.NoMemory)
IsReply desk (did.Watched m n) octets =
    ((q : Inquiry) × IsInquiry desk.rows m n q × IsWatched q octets) ⊎ (octets ≡ answer_text answer.Busy)
IsReply desk did.Refused octets = IsRefusal octets ⊎ (octets ≡ answer_text answer.NoMemory)
IsReply desk did.Closing octets = octets ≡ answer_text answer.Done
IsReply desk did.Ending octets = ⊥
IsReply desk did.Gone octets = octets ≡ answer_text answer.Closed

-- an answer that was sent, or none: the line gets none, or the wire failed at it
abbrev pub MayReply : DeskSeen → Handled → Option (List ℕ) → Type 0
MayReply desk d None = Unit {0}
MayReply desk d (Some octets) = IsReply desk d octets

-- an answer itself gets none, nor does a line from elsewhere. A RELOAD with good files gets its answer by the next run
abbrev pub gets_answer : Handled → Bool
gets_answer did.Unanswered = false
gets_answer did.Foreign = false
gets_answer did.Ending = false
gets_answer other = true

-- a count of failures, after one more or none
abbrev pub failures_then : Bool → ℕ → ℕ
failures_then false n = n
failures_then true n = one_more n

-- a wire that has taken this answer, or none, and failed once where one was due
abbrev pub Replies : Bool → Addr → Option (List ℕ) → Option (List Datagram) → Option (List Datagram) → ℕ → ℕ → Type 0
Replies due to None old new failures failures' = Grows old new [] × (failures' ≡ failures_then due failures)
Replies due to (Some octets) old new failures failures' = Grows old new (datagram to octets ∷ []) × (failures' ≡ failures)

-- the wire took these bytes as an answer, or failed at it once
abbrev pub Offers : Addr → List ℕ → Option (List Datagram) → Option (List Datagram) → ℕ → ℕ → Type 0
Offers to octets old new failures failures' =
    Replies true to (Some octets) old new failures failures' ⊎ Replies true to None old new failures failures'

-- what was done was answered so, once, or the wire failed at it, or it gets no answer
abbrev pub IsAnswered : DeskSeen → Handled → Addr → Option (List Datagram) → Option (List Datagram) → ℕ → ℕ → Type 0
IsAnswered desk d to old new failures failures' =
    (sent : Option (List ℕ)) × MayReply desk d sent × Replies (gets_answer d) to sent old new failures failures'

-- ---- all lines

-- a line that came, the event that it tells, what was done, whether the answer to its token was kept, and the answer that was sent
pub record Line : Type 0 where
  pub came : Datagram
  pub event : Option Event
  pub done : Handled
  pub is_kept : Bool
  pub reply : Option (List ℕ)

-- it came from elsewhere than lines are heard from, and tells nothing
abbrev pub IsForeign : DeskSeen → Addr → Option Event → Handled → Type 0
IsForeign desk source event d = (is_near desk source ≡ false) × (event ≡ None) × (d ≡ did.Foreign)

-- its token was answered so before, or it has none or one that was not, and means what was done
abbrev pub IsMeant : DeskSeen → List ℕ → Option Event → Handled → Type 0
IsMeant desk octets event d =
    ((a : ControlAnswer) × (event ≡ None) × (d ≡ did.Repeated a) × (kept_answer desk.kept.lines.items (token octets) ≡ Some a))
    ⊎ ((kept_answer desk.kept.lines.items (token octets) ≡ None) × Means desk.most desk.rows (line octets) event d)

-- ---- what the desk knows

abbrev pub desk_after : Line → DeskSeen → DeskSeen
desk_after l desk = record {
  workers = desk.workers;
  hearing = desk.hearing;
  most = desk.most;
  rows = rows_after l.event desk.rows;
  kept = kept_with l.is_kept (token l.came.octets) l.done desk.kept;
}

-- after these lines, in order
abbrev pub desk_then : List Line → DeskSeen → DeskSeen
desk_then [] desk = desk
desk_then (l ∷ log) desk = desk_then log (desk_after l desk)

-- to a desk that knows this it is foreign, or it is heard and means what was done; and it is answered by what the desk knows then
pub record IsLine (desk : DeskSeen) (l : Line) : Type 0 where
  pub meant : IsForeign desk l.came.peer l.event l.done ⊎ ((is_near desk l.came.peer ≡ true) × IsMeant desk l.came.octets l.event l.done)
  pub answered : MayReply (desk_after l desk) l.done l.reply

-- each of these lines is done and answered by what the lines before it told
abbrev pub AreLines : DeskSeen → List Line → Type 0
AreLines desk [] = Unit {0}
AreLines desk (l ∷ log) = IsLine desk l × AreLines (desk_after l desk) log

abbrev pub datagrams_of : List Line → List Datagram
datagrams_of log = map (λ (l : Line). l.came) log

-- the events that the lines tell, in order
abbrev pub events : List Line → List Event
events log = filter_map (λ (l : Line). l.event) log

abbrev pub reply_to : Addr → Option (List ℕ) → Option Datagram
reply_to to None = None
reply_to to (Some octets) = Some (datagram to octets)

-- the answers, each to who sent the line
abbrev pub replies : List Line → List Datagram
replies log = filter_map (λ (l : Line). reply_to l.came.peer l.reply) log

abbrev pub is_none : Option (List ℕ) → Bool
is_none None = true
is_none (Some octets) = false

-- the line has no answer, and one was due
abbrev pub has_none : Line → Bool
has_none l = gets_answer l.done && is_none l.reply

-- how many lines the wire failed to answer
abbrev pub unanswered : List Line → ℕ
unanswered log = length (filter has_none log)

-- the event of the last line was missed, and those before it were sent
pub record MissesLine (log : List Line) (old new : PortSeats) : Type 0 where
  pub before : List Line
  pub last : Line
  pub event : Event
  pub mid : PortSeats
  pub whole : log ≡ before ++ last ∷ []
  pub is : last.event ≡ Some event
  pub sent : Sends old (events before) mid
  pub missed : Misses mid event new

-- the port has sent the events of the lines, in order, and nothing else; where a worker is gone it missed the last
abbrev pub SendsEvents : List Line → PortSeats → PortSeats → FeedEnd → Type 0
SendsEvents log old new ends.Done = Sends old (events log) new
SendsEvents log old new ends.Fault = Sends old (events log) new
SendsEvents log old new ends.Gone = MissesLine log old new

-- ---- until when lines are taken

-- after each of these more lines are taken
abbrev pub AllGoOn : List Line → Type 0
AllGoOn log = AllByRecursion (λ (l : Line). end_after l.done ≡ None) log

-- after the last of them none are, since this was done with it
pub record EndsWith (done : Handled) (log : List Line) : Type 0 where
  pub before : List Line
  pub last : Line
  pub whole : log ≡ before ++ last ∷ []
  pub on : AllGoOn before
  pub is : last.done ≡ done

-- a CLOSE, a RELOAD with good files or a worker that is gone ends it at once, and so does a service that closes for another cause, or a fault
abbrev pub EndsTaking : List Line → FeedEnd → Type 0
EndsTaking log ends.Done = EndsWith did.Closing log ⊎ (EndsWith did.Ending log ⊎ AllGoOn log)
EndsTaking log ends.Fault = AllGoOn log
EndsTaking log ends.Gone = EndsWith did.Gone log

-- each of these lines was done as it asks by a desk that knew this at first, until one ended it, and the port has sent their events
pub record AreTaken (desk : DeskSeen) (log : List Line) (old new : PortSeats) (end : FeedEnd) : Type 0 where
  pub each : AreLines desk log
  pub stops : EndsTaking log end
  pub sends : SendsEvents log old new end

-- the wire took the answers, each to who asked, and failed at the others
pub record AreAnswered (log : List Line) (old new : Option (List Datagram)) (failures failures' : ℕ) : Type 0 where
  pub taken : Grows old new (replies log)
  pub counted : failures' ≡ rises (unanswered log) failures

-- ---- lines that come while the service closes

abbrev pub has_octets : List ℕ → Bool
has_octets [] = false
has_octets (octet ∷ octets) = true

-- these bytes get an answer: they are some, and no answer themselves
abbrev pub is_due : List ℕ → Bool
is_due octets = has_octets octets && not (is_answer octets)

-- and come from where lines are heard
abbrev pub is_line : Hearing → Datagram → Bool
is_line hearing d = is_heard hearing d.peer && is_due d.octets

-- it was answered `closed`, or the wire failed at it
abbrev pub IsTurnedAway : Line → Type 0
IsTurnedAway l = (l.done ≡ did.Answered answer.Closed) × ((l.reply ≡ Some (answer_text answer.Closed)) ⊎ (l.reply ≡ None))

-- what came until all was sent out, or until nothing could come any more: each from where lines are heard that isn't empty and no answer
-- itself was answered `closed`, or the other wire failed at it, and nothing else was sent
pub record AreTurnedAway (hearing : Hearing) (given given' taken taken' : Option (List Datagram)) (failures failures' : ℕ) : Type 0 where
  pub came : List Datagram
  pub gave : Grows given given' came
  pub log : List Line
  pub lines : datagrams_of log ≡ filter (is_line hearing) came
  pub each : AllByRecursion IsTurnedAway log
  pub answered : AreAnswered log taken taken' failures failures'

-- ---- what that says of lines from elsewhere, and of those that the service sent itself

-- it tells nothing, and gets no answer
abbrev pub IsSilent : Line → Type 0
IsSilent l = (l.event ≡ None) × (l.reply ≡ None)

abbrev pub EachForeignIsSilent : Type 0
EachForeignIsSilent =
    (desk : DeskSeen) (log : List Line) (old new : PortSeats) (end : FeedEnd)
    → AreTaken desk log old new end → AllByRecursion (λ (l : Line). is_named desk.hearing.networks l.came.peer.ip ≡ false → IsSilent l) log

abbrev pub EachOwnIsSilent : Type 0
EachOwnIsSilent =
    (desk : DeskSeen) (log : List Line) (old new : PortSeats) (end : FeedEnd)
    → AreTaken desk log old new end → AllByRecursion (λ (l : Line). is_own desk.hearing.own l.came.peer ≡ true → IsSilent l) log
