-- Whom the requests were sent to whose answers weren't sent yet.
use Rattle.std.specs.Prelude.{◌≡◌, ℕ, Bool, true, false, ◌++◌, List, [], ◌∷◌, length, drop, remove, position, find, nat_lt, slice_get, Option, Some, None, is_some, option_map, bytes_eq, string_bytes, if◌then◌else◌}
use Rattle.sip_read.specs.declared.message.Request.{Request}
use Rattle.notifier_model.specs.declared.event.Event.{Event}
use Rattle.notifier_model.specs.declared.event.Event.TheVariants as event
use Rattle.notifier_model.specs.declared.event.Out.{Out}
use Rattle.notifier_model.specs.declared.event.Out.TheVariants as out
use Rattle.service.specs.declared.asked.Answered.{Answered}

abbrev pub is_notify : Out → Bool
is_notify (out.Answer to octets) = false
is_notify (out.Notify to number terminated tag note octets) = true
is_notify (out.Start tag refer_to) = false

-- what a NOTIFY tells of, or else this
abbrev pub told_or : List ℕ → Option Out → List ℕ
told_or uri (Some (out.Notify to number terminated tag note octets)) = note.resource
told_or uri other = uri

-- Whom a request was sent to by which a worker made these outs: its Request-URI. That of one in a dialog names no mailbox: so what the first
-- NOTIFY with its answer tells of, if there is one
abbrev pub whom : Request → List Out → List ℕ
whom r outs = if is_some r.head.to.tag then told_or r.uri (find is_notify outs) else r.uri

-- an answer whose request was sent to this one
abbrev pub IsAnswered : List ℕ → List ℕ → Answered → Type 0
IsAnswered answer whom a = (a.answer.items ≡ answer) × (string_bytes a.whom ≡ whom)

abbrev pub is_answer : List ℕ → Answered → Bool
is_answer answer a = bytes_eq a.answer.items answer

-- with room for one more: 4096 are known at most, and the oldest one is forgotten
abbrev pub with_room : List Answered → List Answered
with_room answers = if nat_lt (length answers) 4096 then answers else drop 1 answers

-- one more is known, behind the others
abbrev pub IsAdded : List ℕ → List ℕ → List Answered → List Answered → Type 0
IsAdded answer whom old new = (a : Answered) × IsAnswered answer whom a × (new ≡ with_room old ++ a ∷ [])

-- the place of the first one that is this answer
abbrev pub first_same : List ℕ → List Answered → Option ℕ
first_same answer answers = position (is_answer answer) answers

-- whom the one there was sent to
abbrev pub whom_there : List Answered → Option ℕ → Option (List ℕ)
whom_there answers None = None
whom_there answers (Some k) = option_map (λ (a : Answered). string_bytes a.whom) (slice_get answers k)

abbrev pub without : List Answered → Option ℕ → List Answered
without answers None = answers
without answers (Some k) = remove answers k

-- an out by which a request was answered that was sent to this one
abbrev pub IsNoted : List ℕ → Out → List Answered → List Answered → Type 0
IsNoted whom (out.Answer to octets) old new = IsAdded octets whom old new
IsNoted whom (out.Notify to number terminated tag note octets) old new = new ≡ old
IsNoted whom (out.Start tag refer_to) old new = new ≡ old

abbrev pub AreNoted : List ℕ → List Out → List Answered → List Answered → Type 0
AreNoted whom [] old new = new ≡ old
AreNoted whom (o ∷ outs) old new = (next : List Answered) × IsNoted whom o old next × AreNoted whom outs next new

-- an event that a worker handled, which made these outs
abbrev pub IsFollowed : Event → List Out → List Answered → List Answered → Type 0
IsFollowed (event.Request source r) outs old new = AreNoted (whom r outs) outs old new
IsFollowed other outs old new = new ≡ old
