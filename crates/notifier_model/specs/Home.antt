-- Homes: which of n workers an event goes to.
--
-- A tag decides that names one of them: `w`, the worker's number in decimal, `-`, and anything, as the local tags that the
-- worker gives (`specs/Tag`). Any other event goes by the hash of its key, modulo n: so a mailbox and those who subscribe to
-- it come to one worker. A Tick goes to all, and so does a Shut.
use Rattle.std.specs.Prelude.{ℕ, zero, suc, ◌+◌, ◌*◌, ◌%◌, ◌^◌, Bool, true, false, ◌&&◌, ◌||◌, ◌==◌, nat_eq, is_none, if◌then◌else◌, List, [], ◌∷◌, ◌++◌, filter, Option, Some, None, unwrap_or, codes, decimal}
use Rattle.std.specs.List.{starts_with}
use Rattle.sip_read.specs.declared.message.Request.{Request}
use Rattle.notifier_model.specs.declared.event.Event.{Event}
use Rattle.notifier_model.specs.declared.event.Event.TheVariants.{Request as Comes, Reply, Mail, Progress, Tick, Shut}
use Rattle.notifier_model.specs.Requests.{is_subscribe, user_part}

-- ---- the hash of a key

-- for each byte 31 times as much and the byte, modulo 2^32
abbrev pub hash_from : ℕ → List ℕ → ℕ
hash_from h [] = h
hash_from h (byte ∷ bytes) = hash_from ((h * 31 + byte) % 2 ^ 32) bytes

abbrev pub key_hash : List ℕ → ℕ
key_hash key = hash_from 0 key

-- a SUBSCRIBE outside a dialog goes where its mailbox is, any other request by its Call-ID
abbrev pub request_key : Request → List ℕ
request_key r = if is_subscribe r && is_none r.head.to.tag then user_part r.uri else r.head.call_id

-- what an event goes by where no tag names a worker
abbrev pub key_of : Event → List ℕ
key_of (Comes source r) = request_key r
key_of (Reply r) = r.head.call_id
key_of (Mail m) = m.mailbox
key_of (Progress p) = p.tag
key_of (Tick t) = []
key_of Shut = []

-- ---- the worker that a tag names

-- the tag in which an event may name a worker
abbrev pub tag_in : Event → Option (List ℕ)
tag_in (Comes source r) = r.head.to.tag
tag_in (Reply r) = r.head.from.tag
tag_in (Mail m) = None
tag_in (Progress p) = Some p.tag
tag_in (Tick t) = None
tag_in Shut = None

-- the tag begins with `w<worker>-`
abbrev pub names : ℕ → List ℕ → Bool
names worker tag = starts_with nat_eq tag (codes "w" ++ (decimal worker ++ codes "-"))

-- it goes on with `<serial>-`
abbrev pub names_serial : ℕ → ℕ → List ℕ → Bool
names_serial worker serial tag = starts_with nat_eq tag (codes "w" ++ (decimal worker ++ (codes "-" ++ (decimal serial ++ codes "-"))))

-- the worker below n that the tag names
unfoldable pub worker_named : ℕ → List ℕ → Option ℕ
worker_named zero tag = None
worker_named (suc n) tag = if names n tag then Some n else worker_named n tag

abbrev pub worker_in : ℕ → Option (List ℕ) → Option ℕ
worker_in n None = None
worker_in n (Some tag) = worker_named n tag

-- ---- homes

-- the worker that its tag names, or else the one of its key
unfoldable pub home : Event → ℕ → ℕ
home e n = unwrap_or (worker_in n (tag_in e)) (key_hash (key_of e) % n)

-- events that have no home, but go to every worker
abbrev pub is_for_all : Event → Bool
is_for_all (Comes source r) = false
is_for_all (Reply r) = false
is_for_all (Mail m) = false
is_for_all (Progress p) = false
is_for_all (Tick t) = true
is_for_all Shut = true

-- does the event go to this worker of n?
abbrev pub comes_to : ℕ → ℕ → Event → Bool
comes_to n worker e = is_for_all e || home e n == worker

-- those of these events that do, in order
unfoldable pub events_for : ℕ → ℕ → List Event → List Event
events_for n worker es = filter (comes_to n worker) es

-- where a stop is planned, a Shut ends the events of each worker
abbrev pub at_the_stop : Bool → List Event
at_the_stop stop = if stop then Shut ∷ [] else []
