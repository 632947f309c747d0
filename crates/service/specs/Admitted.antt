-- What comes of the SIP datagrams that are not too long: each is judged, and its source is heard, refused or passed over. Moments are
-- milliseconds since the service began.
use Rattle.std.specs.Prelude.{◌≡◌, ◌≤◌, ◌⊎◌, ℕ, ◌/◌, Bool, true, false, List, [], ◌∷◌, length, map, Option, Some, None, option_map, is_some, ◌&&◌, if◌then◌else◌}
use Rattle.std.specs.List.{filter, filter_map, AllByRecursion}
use Rattle.sip_text.specs.declared.address.Addr.{Addr}
use Rattle.sip_read.specs.declared.message.Request.{Request}
use Rattle.sip_read.specs.declared.message.Response.{Response}
use Rattle.notifier_model.specs.declared.event.Event.{Event}
use Rattle.notifier_model.specs.declared.event.Event.TheVariants as event
use Rattle.crew.specs.Ports.{PortSeats}
use Rattle.transport.specs.Devices.{one_more, rises}
use Rattle.transport.specs.declared.datagram.Datagram.{Datagram}
use Rattle.transport.specs.Wires.{datagram, Grows}
use Rattle.feeds.specs.declared.feeding.FeedEnd.{FeedEnd}
use Rattle.feeds.specs.declared.hearing.Heard.{Heard}
use Rattle.feeds.specs.declared.hearing.Heard.TheVariants as heard
use Rattle.feeds.specs.Heard.{SipSays}
use Rattle.feeds.specs.declared.feeding.Told.{Told}
use Rattle.feeds.specs.Fed.{Log, IsPassedOn, datagrams}
use Rattle.admission.specs.declared.authentication.Authentication.{Authentication}
use Rattle.admission.specs.declared.judging.Admission.{Admission}
use Rattle.admission.specs.declared.judging.Arrival.{Arrival}
use Rattle.admission.specs.declared.judging.Reading.{Reading}
use Rattle.admission.specs.declared.judging.Reading.TheVariants as reading
use Rattle.admission.specs.declared.judging.Verdict.{Verdict}
use Rattle.admission.specs.declared.judging.Verdict.TheVariants as verdict
use Rattle.admission.specs.Inquiries.{IsAdmitted}
use Rattle.admission.specs.Verdicts.{IsOpen, hears, is_asked, Judges, judged, IsHalfway}
use Rattle.service.specs.Served.{is_gone as worker_gone, AreServed}

-- a datagram, what it says, when it was judged, and the verdict: none where memory was wanting. Did the wire fail at the refusal of it?
pub record Case : Type 0 where
  pub came : Datagram
  pub says : Heard
  pub moment : ℕ
  pub verdict : Option Verdict
  pub fails : Bool

-- ---- what is judged

abbrev pub IsRequest : Request → Reading → Type 0
IsRequest r (reading.Request q) = q.now ≡ r
IsRequest r reading.Response = ⊥
IsRequest r reading.Unread = ⊥

abbrev pub IsEvent : Event → Reading → Type 0
IsEvent (event.Request source r) x = IsRequest r x
IsEvent (event.Reply r) x = x ≡ reading.Response
IsEvent (event.Mail m) x = x ≡ reading.Unread
IsEvent (event.Progress p) x = x ≡ reading.Unread
IsEvent (event.Tick n) x = x ≡ reading.Unread
IsEvent event.Shut x = x ≡ reading.Unread

-- this is what was read: a request, a response, or nothing, as of a datagram whose source isn't heard
abbrev pub IsRead : Heard → Reading → Type 0
IsRead (heard.Event e) x = IsEvent e x
IsRead heard.Unread x = x ≡ reading.Unread
IsRead heard.Close x = x ≡ reading.Unread

-- the admission is told of this datagram
pub record IsArrival (c : Case) (x : Arrival) : Type 0 where
  pub octets : x.octets.now ≡ c.came.octets
  pub source : x.source ≡ c.came.peer
  pub moment : x.moment ≡ c.moment
  pub reads : IsRead c.says x.reading

-- ---- the verdict

-- memory may be wanting where something is asked of a datagram that is no answer, and whose source is heard
abbrev pub MayWant : Admission → Arrival → Type 0
MayWant a x = (IsOpen a → ⊥) × (hears a x.source.ip ≡ true) × (x.reading ≡ reading.Response → ⊥)

-- it is the definition's, and only tokens change. None is found where memory is wanting
abbrev pub Meets : Admission → Arrival → Option Verdict → Admission → Type 0
Meets a x (Some v) b = Judges a x v × (b ≡ judged a x v)
Meets a x None b = MayWant a x × IsHalfway a x b

pub record IsJudged (a : Admission) (earlier : ℕ) (c : Case) (b : Admission) : Type 0 where
  pub speaks : SipSays c.came.peer c.came.octets c.says
  pub later : earlier ≤ c.moment
  pub arrival : Arrival
  pub told : IsArrival c arrival
  pub meets : Meets a arrival c.verdict b

-- each is judged by the admission as those before it left it, at moments that don't fall
abbrev pub AreJudged : Admission → ℕ → List Case → Admission → Type 0
AreJudged a earlier [] b = b ≡ a
AreJudged a earlier (c ∷ cases) b = (next : Admission) × IsJudged a earlier c next × AreJudged next c.moment cases b

abbrev pub arrived : List Case → List Datagram
arrived cases = map (λ (c : Case). c.came) cases

-- ---- who is heard

abbrev pub allows : Verdict → Bool
allows verdict.Allowed = true
allows verdict.Foreign = false
allows verdict.Limited = false
allows (verdict.Large octets) = false
allows (verdict.Barred user octets) = false
allows (verdict.Challenge cause octets) = false
allows (verdict.Guess user octets) = false
allows (verdict.Forbidden octets) = false
allows (verdict.Crowded octets) = false

abbrev pub is_allowed : Option Verdict → Bool
is_allowed None = false
is_allowed (Some v) = allows v

abbrev pub said : Case → Option (Datagram × Heard)
said c = if is_allowed c.verdict then Some (c.came, c.says) else None

-- what is sent on
abbrev pub admitted : List Case → Log
admitted cases = filter_map said cases

-- the port was fed with what those say that are allowed, and with nothing else
pub record AreHeard (a : Admission) (cases : List Case) (b : Admission) (old new : PortSeats) (end : FeedEnd) : Type 0 where
  pub judged : AreJudged a 0 cases b
  pub served : AreServed (admitted cases) old new end

-- the port was sent what is allowed, and nothing else. Is the worker of it gone?
abbrev pub PassesOn : Bool → Heard → PortSeats → PortSeats → Bool → Type 0
PassesOn true says old new is_gone = (t : Told) × IsPassedOn says old new t × (is_gone ≡ worker_gone t)
PassesOn false says old new is_gone = (new ≡ old) × (is_gone ≡ false)

-- ---- who is refused

-- a wire has taken this for who is refused, or failed at it once. Where there is nothing to send it has taken nothing, and didn't fail
abbrev pub Refuses : Addr → Option (List ℕ) → Option (List Datagram) → Option (List Datagram) → ℕ → ℕ → Type 0
Refuses to None old new failures failures' = Grows old new [] × (failures' ≡ failures)
Refuses to (Some octets) old new failures failures' =
    (Grows old new (datagram to octets ∷ []) × (failures' ≡ failures)) ⊎ (Grows old new [] × (failures' ≡ one_more failures))

abbrev pub refusal : Verdict → Option (List ℕ)
refusal verdict.Allowed = None
refusal verdict.Foreign = None
refusal verdict.Limited = None
refusal (verdict.Large octets) = Some octets
refusal (verdict.Barred user octets) = Some octets
refusal (verdict.Challenge cause octets) = Some octets
refusal (verdict.Guess user octets) = Some octets
refusal (verdict.Forbidden octets) = Some octets
refusal (verdict.Crowded octets) = Some octets

-- the 401, the 403, the 413 or the 503 that the verdict is
abbrev pub refusal_in : Option Verdict → Option (List ℕ)
refusal_in None = None
refusal_in (Some v) = refusal v

-- a datagram of this source was read and judged at this moment, its source refused if it may be told, and the port sent what it says where it
-- is allowed
pub record IsTaken (source : Addr) (octets : List ℕ) (moment : ℕ) (a b : Admission) (old new : PortSeats)
    (taken taken' : Option (List Datagram)) (failures failures' : ℕ) (is_gone : Bool) : Type 0 where
  pub says : Heard
  pub verdict : Option Verdict
  pub arrival : Arrival
  pub speaks : SipSays source octets says
  pub of_octets : arrival.octets.now ≡ octets
  pub of_source : arrival.source ≡ source
  pub of_moment : arrival.moment ≡ moment
  pub reads : IsRead says arrival.reading
  pub meets : Meets a arrival verdict b
  pub refuses : Refuses source (refusal_in verdict) taken taken' failures failures'
  pub passes : PassesOn (is_allowed verdict) says old new is_gone

abbrev pub reply : Case → Option Datagram
reply c = option_map (datagram c.came.peer) (refusal_in c.verdict)

abbrev pub sent : Case → Option Datagram
sent c = if c.fails then None else reply c

-- the refusals that were sent, each to the source of what it refuses
abbrev pub refusals : List Case → List Datagram
refusals cases = filter_map sent cases

abbrev pub fails : Case → Bool
fails c = c.fails && is_some (reply c)

-- how many were not
abbrev pub unsent : List Case → ℕ
unsent cases = length (filter fails cases)

-- the wire has taken the refusals, in order, and nothing else, and failed at the others
pub record AreRefused (cases : List Case) (taken taken' : Option (List Datagram)) (failures failures' : ℕ) : Type 0 where
  pub took : Grows taken taken' (refusals cases)
  pub counted : failures' ≡ rises (unsent cases) failures

-- ---- what that says

-- a SUBSCRIBE or a REFER answered a challenge, which the definition accepts for its source, at a moment of the service, and for the owner of
-- its dialog, as far as that is known
abbrev pub IsVouched : Authentication → Datagram × Heard → Type 0
IsVouched k x =
    (source : Addr) (r : Request) → x.1 ≡ heard.Event (event.Request source r) → is_asked r ≡ true
    → (moment : ℕ) × (owner : Option ℕ)
    × IsAdmitted k (record { request = r; octets = x.0.octets; source = source; now = moment / 1000; owner = owner })

-- where a service has passwords each SUBSCRIBE and each REFER that its port was sent did
abbrev pub EachIsVouched : Type 0
EachIsVouched =
    (a b : Admission) (k : Authentication) (cases : List Case) (old new : PortSeats) (end : FeedEnd)
    → a.authentication ≡ Some k → AreHeard a cases b old new end → AllByRecursion (IsVouched k) (admitted cases)

-- an answer whose source is heard
abbrev pub IsSentOn : Admission → Case → Type 0
IsSentOn a c = (r : Response) → c.says ≡ heard.Event (event.Reply r) → hears a c.came.peer.ip ≡ true → is_allowed c.verdict ≡ true

-- each such is sent on
abbrev pub EachAnswerIsSentOn : Type 0
EachAnswerIsSentOn =
    (a b : Admission) (cases : List Case) (old new : PortSeats) (end : FeedEnd) → AreHeard a cases b old new end
    → AllByRecursion (IsSentOn a) cases

-- where it asks nothing all datagrams are sent on, and none is refused
abbrev pub OpenHearsAll : Type 0
OpenHearsAll =
    (a b : Admission) (cases : List Case) (old new : PortSeats) (end : FeedEnd) → IsOpen a → AreHeard a cases b old new end
    → (datagrams (admitted cases) ≡ arrived cases) × (refusals cases ≡ []) × (unsent cases ≡ 0)
