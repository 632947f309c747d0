-- Who made which dialog, of those that users made who showed a password. A dialog is known by its local tag, a user by a number.
use Rattle.std.specs.Prelude.{◌≡◌, ◌⊎◌, ◌+◌, ◌-◌, ◌^◌, ℕ, min, Bool, true, false, not, ◌&&◌, ◌==◌, nat_lt, List, [], ◌∷◌, remove, position, Option, Some, None, is_some, option_map, unwrap_or, MatchBool, slice_get, String, string_bytes, bytes_eq, if◌then◌else◌}
use Rattle.std.specs.List.{list_any}
use Rattle.std.specs.declared.alloc.Global.{Global}
use Rattle.indexmap.specs.IndexMap.{IndexMap, get_by_text}
use Rattle.sip_read.specs.declared.message.Request.{Request}
use Rattle.notifier_model.specs.declared.event.Event.{Event}
use Rattle.notifier_model.specs.declared.event.Event.TheVariants as event
use Rattle.notifier_model.specs.declared.event.Out.{Out}
use Rattle.notifier_model.specs.declared.event.Out.TheVariants as out
use Rattle.service.specs.declared.owners.Owner.{Owner}
use Rattle.service.specs.declared.owners.Passed.{Passed}

-- ---- requests outside a dialog that were let through

-- what is kept of one that this user sent
abbrev pub passed_by : Request → ℕ → Passed
passed_by r user = record { method = r.method; uri = r.uri; call_id = r.head.call_id; user = user }

-- it may be this request
abbrev pub is_like : Request → Passed → Bool
is_like r p = bytes_eq p.call_id r.head.call_id && (bytes_eq p.uri r.uri && bytes_eq p.method r.method)

-- the place of the first one that is like it
abbrev pub first_like : Request → List Passed → Option ℕ
first_like r passed = position (is_like r) passed

abbrev pub user_there : List Passed → Option ℕ → Option ℕ
user_there passed None = None
user_there passed (Some k) = option_map (λ (p : Passed). p.user) (slice_get passed k)

abbrev pub without : List Passed → Option ℕ → List Passed
without passed None = passed
without passed (Some k) = remove passed k

-- who sent a request: the user of the first one that is like it, if it is outside a dialog
abbrev pub request_user : Request → List Passed → Option ℕ
request_user r passed = if is_some r.head.to.tag then None else user_there passed (first_like r passed)

-- the others: that one is taken
abbrev pub passed_after : Request → List Passed → List Passed
passed_after r passed = if is_some r.head.to.tag then passed else without passed (first_like r passed)

-- ---- outs

abbrev pub is_last : Out → Bool
is_last (out.Answer to octets) = false
is_last (out.Notify to number terminated tag note octets) = terminated
is_last (out.Start tag refer_to) = false

-- the first NOTIFY of the dialog with this tag
abbrev pub begins : List ℕ → Out → Bool
begins t (out.Answer to octets) = false
begins t (out.Notify to number terminated tag note octets) = not terminated && (number == 1 && bytes_eq tag t)
begins t (out.Start tag refer_to) = false

-- the last one
abbrev pub ends : List ℕ → Out → Bool
ends t (out.Answer to octets) = false
ends t (out.Notify to number terminated tag note octets) = terminated && bytes_eq tag t
ends t (out.Start tag refer_to) = false

-- what a worker that handled this event may have done: made a dialog, refreshed or ended one
abbrev pub concerns_dialogs : Event → List Out → Bool
concerns_dialogs (event.Request source r) outs = true
concerns_dialogs (event.Tick second) outs = true
concerns_dialogs other outs = list_any is_last outs

-- ---- a dialog, which one user made or nobody

-- the second until which one lives that is granted so many: for ever where no second is known yet
abbrev pub until : Option ℕ → ℕ → ℕ
until None seconds = 2 ^ 64 - 1
until (Some second) seconds = min (min (second + seconds) (2 ^ 64 - 1) + 60) (2 ^ 64 - 1)

abbrev pub renewed : ℕ → Owner → Owner
renewed until o = record o { until = until }

-- it lives no more at this second
abbrev pub is_over : Option ℕ → Owner → Bool
is_over None o = false
is_over (Some second) o = nat_lt o.until second

-- the dialog at this place lives no more
abbrev pub IsOverAt : {S : Type 0} → Option ℕ → IndexMap (String Global) Owner S → ℕ → Type 0
IsOverAt second dialogs place =
    (e : String Global × Owner) × (slice_get dialogs.entries place ≡ Some e) × (get_by_text dialogs (string_bytes e.0) ≡ Some e.1)
    × (is_over second e.1 ≡ true)

-- it stays as it was, or it is forgotten since it lives no more
abbrev pub IsSwept : Option ℕ → Option Owner → Option Owner → Type 0
IsSwept second None now = now ≡ None
IsSwept second (Some o) now = (now ≡ Some o) ⊎ ((now ≡ None) × (is_over second o ≡ true))

abbrev pub IsUserOf : Option Owner → Owner → Type 0
IsUserOf None o = ⊥
IsUserOf (Some was) o = o.user ≡ was.user

-- who made a dialog whose NOTIFY with this number tells that it is granted so many seconds: by its first one the sender, if that is known
abbrev pub granted : Option ℕ → Option ℕ → ℕ → ℕ → Option Owner → Option Owner
granted second None number seconds was = option_map (renewed (until second seconds)) was
granted second (Some user) number seconds was =
    if number == 1 then Some (record { user = user; until = until second seconds }) else option_map (renewed (until second seconds)) was

-- what an out of a worker that handled a request of this sender makes of the dialog with this tag
abbrev pub IsNoted : List ℕ → Option ℕ → Option ℕ → Out → Option Owner → Option Owner → Type 0
IsNoted t second user (out.Answer to octets) was now = now ≡ was
IsNoted t second user (out.Notify to number true tag note octets) was now = now ≡ was
IsNoted t second user (out.Notify to number false tag note octets) was now =
    MatchBool (bytes_eq tag t) (now ≡ granted second user number (unwrap_or note.left 0) was) (IsSwept second was now)
IsNoted t second user (out.Start tag refer_to) was now = now ≡ was

-- what several outs make of it, one after the other
abbrev pub AreNoted : List ℕ → Option ℕ → Option ℕ → List Out → Option Owner → Option Owner → Type 0
AreNoted t second user [] was now = now ≡ was
AreNoted t second user (o ∷ outs) was now = (next : Option Owner) × IsNoted t second user o was next × AreNoted t second user outs next now

-- what the last NOTIFYs among these make of it
abbrev pub ended : List ℕ → List Out → Option Owner → Option Owner
ended t outs was = if list_any (ends t) outs then None else was

-- who is known to have made the dialog with this tag made it before, or sent the request by which a worker made its first NOTIFY
abbrev pub IsOwned : List ℕ → Option ℕ → List Out → Option Owner → Option Owner → Type 0
IsOwned t user outs was None = Unit {0}
IsOwned t user outs was (Some o) = IsUserOf was o ⊎ ((user ≡ Some o.user) × (list_any (begins t) outs ≡ true))

-- ---- an event that a worker handled

-- a worker that handled a request of this sender made these outs: dialogs are made and refreshed, and then those end whose last NOTIFYs are there
abbrev pub IsFollowedBy : List ℕ → Option ℕ → Option ℕ → List Out → Option Owner → Option Owner → Type 0
IsFollowedBy t second user outs was now = (mid : Option Owner) × AreNoted t second user outs was mid × (now ≡ ended t outs mid)

-- the same of any event: by a request alone dialogs are made and refreshed
abbrev pub IsFollowed : List ℕ → Option ℕ → List Passed → Event → List Out → Option Owner → Option Owner → Type 0
IsFollowed t second passed (event.Request source r) outs was now = IsFollowedBy t second (request_user r passed) outs was now
IsFollowed t second passed other outs was now = now ≡ ended t outs was

-- who sent it, where that is known
abbrev pub event_user : Event → List Passed → Option ℕ
event_user (event.Request source r) passed = request_user r passed
event_user other passed = None

abbrev pub passed_then : Event → List Passed → List Passed
passed_then (event.Request source r) passed = passed_after r passed
passed_then other passed = passed

abbrev pub second_then : Event → Option ℕ → Option ℕ
second_then (event.Tick now) second = Some now
second_then other second = second
