-- What comes of a datagram.
use Rattle.std.specs.Prelude.{◌≡◌, ◌⊎◌, ℕ, ◌/◌, Bool, true, false, not, ◌||◌, ◌&&◌, ◌==◌, nat_le, length, is_none, if◌then◌else◌, List, [], Option, Some, None, bytes_eq, codes}
use Rattle.std.specs.List.{list_any, list_all}
use Rattle.sip_read.specs.declared.message.Request.{Request}
use Rattle.admission.specs.declared.table.Rates.{Rates}
use Rattle.admission.specs.Table as rates
use Rattle.notifier_model.specs.Requests.{is_ack}
use Rattle.digest.specs.declared.credentials.Credentials.{Credentials}
use Rattle.admission.specs.declared.guesses.Guesses.{Guesses}
use Rattle.admission.specs.Guesses.{minute_clock, bars, guessed, half_guessed}
use Rattle.admission.specs.declared.shown.Shown.{Shown}
use Rattle.admission.specs.declared.shown.Shown.TheVariants as shown
use Rattle.admission.specs.Authorization.{Shows}
use Rattle.admission.specs.Texts.{is_over}
use Rattle.admission.specs.declared.authentication.Authentication.{Authentication}
use Rattle.admission.specs.declared.authentication.ChallengeCause.{ChallengeCause}
use Rattle.admission.specs.declared.authentication.ChallengeCause.TheVariants as cause
use Rattle.admission.specs.declared.authentication.Finding.TheVariants as finding
use Rattle.admission.specs.declared.judging.Admission.{Admission}
use Rattle.admission.specs.declared.judging.Arrival.{Arrival}
use Rattle.admission.specs.declared.judging.Reading.{Reading}
use Rattle.admission.specs.declared.judging.Reading.TheVariants as reading
use Rattle.admission.specs.declared.judging.Verdict.{Verdict}
use Rattle.admission.specs.declared.judging.Verdict.TheVariants as verdict
use Rattle.admission.specs.declared.network.Network.{Network}
use Rattle.admission.specs.Challenge.{forbidden_text, large_text, unavailable_text}
use Rattle.admission.specs.declared.judging.TheConstants.{CROWD_TAG, LARGE_TAG}
use Rattle.admission.specs.Inquiries.{Inquiry, IsFound, IsAdmitted, IsForbidden, challenge}
use Rattle.admission.specs.Networks.{number, contains}

-- it asks nothing: of no network, of no bucket and of nobody's password, no request is too large, and no source may have too many subscriptions
pub record IsOpen (a : Admission) : Type 0 where
  pub anywhere : a.networks.items ≡ []
  pub any_rate : a.rates ≡ None
  pub anyone : a.authentication ≡ None
  pub any_size : a.max_texts ≡ None
  pub unlimited : a.per_source ≡ None

-- ---- where it comes from

abbrev pub is_one_of : List Network → List ℕ → Bool
is_one_of networks ip = list_any (λ n. contains n ip) networks

abbrev pub has_none : List Network → Bool
has_none networks = length networks == 0

-- it comes from one of the networks, or there is none
abbrev pub hears : Admission → List ℕ → Bool
hears a ip = has_none a.networks.items || is_one_of a.networks.items ip

-- ---- how much comes from there

-- nothing but ends of lines (RFC 3261 section 7.5, RFC 5626 section 3.5.1)
abbrev pub is_keep_alive : List ℕ → Bool
is_keep_alive octets = list_all (λ octet. (octet == 13) || (octet == 10)) octets

-- each request is counted, in a dialog too, and what can't be read but keep-alives
abbrev pub is_counted : Reading → List ℕ → Bool
is_counted (reading.Request r) octets = true
is_counted reading.Response octets = false
is_counted reading.Unread octets = not (is_keep_alive octets)

-- the buckets that it is counted in
abbrev pub counting : Admission → Arrival → Option Rates
counting a x = if is_counted x.reading x.octets.now then a.rates else None

abbrev pub lets_one : Option Rates → Arrival → Bool
lets_one None x = true
lets_one (Some r) x = rates.is_let r (number x.source.ip) x.moment

-- its source has a token for it, or it needs none
abbrev pub lets : Admission → Arrival → Bool
lets a x = lets_one (counting a x) x

abbrev pub with_rates : Admission → Option Rates → Arrival → Admission
with_rates a None x = a
with_rates a (Some r) x = record a { rates = Some (rates.after r (number x.source.ip) x.moment) }

-- its token is taken
abbrev pub behind : Admission → Arrival → Admission
behind a x = with_rates a (counting a x) x

-- ---- who asks

abbrev pub is_asked : Request → Bool
is_asked r = bytes_eq r.method (codes "SUBSCRIBE") || bytes_eq r.method (codes "REFER")

-- the request that is asked who it is from, if it is one: a SUBSCRIBE or a REFER, in a dialog too
abbrev pub asked : Reading → Option Request
asked (reading.Request r) = if is_asked r.now then Some r.now else None
asked reading.Response = None
asked reading.Unread = None

abbrev pub inquiry : Arrival → Request → Inquiry
inquiry x r = record { request = r; octets = x.octets.now; source = x.source; now = x.moment / 1000; owner = x.owner }

-- this inquiry is made of it, by this authentication
abbrev pub IsAsked : Admission → Arrival → Authentication → Request → Type 0
IsAsked a x k r = (a.authentication ≡ Some k) × (asked x.reading ≡ Some r)

-- ---- how much is kept of it

-- the request that is answered, if it is one: any but an ACK (RFC 3261 section 17)
abbrev pub answered : Reading → Option Request
answered (reading.Request r) = if is_ack r.now then None else Some r.now
answered reading.Response = None
answered reading.Unread = None

-- the request of which more is kept than may be, if it is one
abbrev pub oversized : Option ℕ → Option Request → Option Request
oversized most None = None
oversized most (Some r) = if is_over most r then Some r else None

abbrev pub too_large : Admission → Arrival → Option Request
too_large a x = oversized a.max_texts (answered x.reading)

-- these octets say so
abbrev pub IsLarge : Admission → Arrival → List ℕ → Type 0
IsLarge a x octets = (r : Request) × (too_large a x ≡ Some r) × (octets ≡ large_text x.source r LARGE_TAG.now)

-- ---- whose password isn't looked at

abbrev pub bars_user : Option Guesses → Arrival → List ℕ → Bool
bars_user None x user = false
bars_user (Some g) x user = bars g (number x.source.ip) user (minute_clock x.moment)

-- the password of this user isn't looked at there
abbrev pub is_barred : Admission → Arrival → List ℕ → Bool
is_barred a x user = bars_user a.guesses x user

-- the user whom credentials name
abbrev pub username : Shown → Option (List ℕ)
username (shown.Credentials c) = Some c.username
username shown.Absent = None
username shown.Malformed = None

abbrev pub barred_user : Admission → Arrival → Option (List ℕ) → Option (List ℕ)
barred_user a x None = None
barred_user a x (Some user) = if is_barred a x user then Some user else None

-- it shows credentials of a user who is barred there, and these octets say so
pub record IsBarred (a : Admission) (x : Arrival) (user octets : List ℕ) : Type 0 where
  pub authentication : Authentication
  pub request : Request
  pub asked : IsAsked a x authentication request
  pub credentials : Credentials
  pub shows : Shows authentication.guard.passwords.realm x.octets.now credentials
  pub name : user ≡ credentials.username
  pub barred : is_barred a x user ≡ true
  pub says : octets ≡ forbidden_text x.source request authentication.tag

-- nothing is asked, or it shows no credentials of a user who is barred there
abbrev pub IsUnbarred : Admission → Arrival → Type 0
IsUnbarred a x =
    (k : Authentication) (r : Request) (c : Credentials) → IsAsked a x k r → Shows k.guard.passwords.realm x.octets.now c
    → is_barred a x c.username ≡ false

-- ---- whether they may

-- nothing is asked, or who asks is admitted
abbrev pub IsFree : Admission → Arrival → Type 0
IsFree a x = (k : Authentication) (r : Request) → IsAsked a x k r → IsAdmitted k (inquiry x r)

-- who asks isn't known, and these octets say so
pub record IsChallenged (a : Admission) (x : Arrival) (c : ChallengeCause) (octets : List ℕ) : Type 0 where
  pub authentication : Authentication
  pub request : Request
  pub asked : IsAsked a x authentication request
  pub found : IsFound authentication.guard (inquiry x request) (finding.Nobody c)
  pub says : octets ≡ challenge authentication (inquiry x request) c

-- it shows a wrong password of this user, and these octets say so
pub record IsWrong (a : Admission) (x : Arrival) (user octets : List ℕ) : Type 0 where
  pub authentication : Authentication
  pub request : Request
  pub asked : IsAsked a x authentication request
  pub found : IsFound authentication.guard (inquiry x request) (finding.Guess user)
  pub says : octets ≡ challenge authentication (inquiry x request) cause.Wrong

-- who asks is known and may not have it, and these octets say so
pub record IsRefused (a : Admission) (x : Arrival) (octets : List ℕ) : Type 0 where
  pub authentication : Authentication
  pub request : Request
  pub asked : IsAsked a x authentication request
  pub forbidden : IsForbidden authentication (inquiry x request)
  pub says : octets ≡ forbidden_text x.source request authentication.tag

-- ---- how many subscriptions its source has

-- the request that asks for a new one, if it is one: a SUBSCRIBE or a REFER outside a dialog
abbrev pub newcomer : Reading → Option Request
newcomer (reading.Request r) = if is_asked r.now && is_none r.now.head.to.tag then Some r.now else None
newcomer reading.Response = None
newcomer reading.Unread = None

abbrev pub is_most : Option ℕ → ℕ → Bool
is_most None live = false
is_most (Some most) live = nat_le most live

-- a source with so many may have no more
abbrev pub is_full : Admission → ℕ → Bool
is_full a live = is_most a.per_source live

-- its source may have no more, and it asks for one more
abbrev pub one_more : Admission → Arrival → Option Request
one_more a x = if is_full a x.live then newcomer x.reading else None

-- these octets say so
abbrev pub IsCrowded : Admission → Arrival → List ℕ → Type 0
IsCrowded a x octets = (r : Request) × (one_more a x ≡ Some r) × (octets ≡ unavailable_text x.source r CROWD_TAG.now)

abbrev pub IsSeated : Admission → Arrival → Verdict → Type 0
IsSeated a x verdict.Allowed = one_more a x ≡ None
IsSeated a x (verdict.Crowded octets) = IsCrowded a x octets
IsSeated a x other = ⊥

-- where a source is heard, has a token and sends nothing too large: the verdict
abbrev pub IsConcluded : Admission → Arrival → Verdict → Type 0
IsConcluded a x verdict.Allowed = IsUnbarred a x × IsFree a x × (one_more a x ≡ None)
IsConcluded a x (verdict.Crowded octets) = IsUnbarred a x × IsFree a x × IsCrowded a x octets
IsConcluded a x (verdict.Challenge c octets) = IsUnbarred a x × IsChallenged a x c octets
IsConcluded a x (verdict.Guess user octets) = IsUnbarred a x × IsWrong a x user octets
IsConcluded a x (verdict.Forbidden octets) = IsUnbarred a x × IsRefused a x octets
IsConcluded a x (verdict.Barred user octets) = IsBarred a x user octets
IsConcluded a x verdict.Foreign = ⊥
IsConcluded a x verdict.Limited = ⊥
IsConcluded a x (verdict.Large octets) = ⊥

-- where a source is heard and has a token: the verdict
abbrev pub IsWeighed : Admission → Arrival → Verdict → Type 0
IsWeighed a x v =
    ((octets : List ℕ) × (v ≡ verdict.Large octets) × IsLarge a x octets) ⊎ ((too_large a x ≡ None) × IsConcluded a x v)

-- ---- all of it

-- its source is heard, and has a token for it, and no more is kept of it than may be
pub record IsHeard (a : Admission) (x : Arrival) : Type 0 where
  pub near : hears a x.source.ip ≡ true
  pub seldom : lets a x ≡ true
  pub small : too_large a x ≡ None

-- the verdict: the first of these that is so
abbrev pub Judges : Admission → Arrival → Verdict → Type 0
Judges a x verdict.Foreign = hears a x.source.ip ≡ false
Judges a x verdict.Limited = (hears a x.source.ip ≡ true) × (lets a x ≡ false)
Judges a x (verdict.Large octets) = (hears a x.source.ip ≡ true) × (lets a x ≡ true) × IsLarge a x octets
Judges a x (verdict.Barred user octets) = IsHeard a x × IsBarred a x user octets
Judges a x verdict.Allowed = IsHeard a x × IsUnbarred a x × IsFree a x × (one_more a x ≡ None)
Judges a x (verdict.Crowded octets) = IsHeard a x × IsUnbarred a x × IsFree a x × IsCrowded a x octets
Judges a x (verdict.Challenge c octets) = IsHeard a x × IsUnbarred a x × IsChallenged a x c octets
Judges a x (verdict.Guess user octets) = IsHeard a x × IsUnbarred a x × IsWrong a x user octets
Judges a x (verdict.Forbidden octets) = IsHeard a x × IsUnbarred a x × IsRefused a x octets

-- it is to be heard
abbrev pub IsAllowed : Admission → Arrival → Type 0
IsAllowed a x = IsHeard a x × IsUnbarred a x × IsFree a x × (one_more a x ≡ None)

-- a token of its rate is taken only of a source that is heard
abbrev pub after : Admission → Arrival → Admission
after a x = if hears a x.source.ip then behind a x else a

-- ---- what a wrong password takes

abbrev pub with_guess : Option Guesses → Arrival → List ℕ → Option Guesses
with_guess None x user = None
with_guess (Some g) x user = Some (guessed g (number x.source.ip) user (minute_clock x.moment))

-- a token of its source and of the user's name, behind a wrong password alone
abbrev pub noted : Admission → Arrival → Verdict → Admission
noted a x (verdict.Guess user octets) = record a { guesses = with_guess a.guesses x user }
noted a x verdict.Allowed = a
noted a x verdict.Foreign = a
noted a x verdict.Limited = a
noted a x (verdict.Large octets) = a
noted a x (verdict.Barred user octets) = a
noted a x (verdict.Challenge c octets) = a
noted a x (verdict.Forbidden octets) = a
noted a x (verdict.Crowded octets) = a

abbrev pub is_guess : Verdict → Bool
is_guess (verdict.Guess user octets) = true
is_guess verdict.Allowed = false
is_guess verdict.Foreign = false
is_guess verdict.Limited = false
is_guess (verdict.Large octets) = false
is_guess (verdict.Barred user octets) = false
is_guess (verdict.Challenge c octets) = false
is_guess (verdict.Forbidden octets) = false
is_guess (verdict.Crowded octets) = false

-- what a datagram with this verdict leaves
abbrev pub judged : Admission → Arrival → Verdict → Admission
judged a x v = noted (after a x) x v

abbrev pub with_half : Option Guesses → Arrival → Option Guesses
with_half None x = None
with_half (Some g) x = Some (half_guessed g (number x.source.ip) (minute_clock x.moment))

-- only the source's was taken
abbrev pub half_noted : Admission → Arrival → Admission
half_noted a x = record a { guesses = with_half a.guesses x }

-- what one leaves for which memory was wanting: as before, or without the token of its rate, or without that and its source's for a wrong password
abbrev pub IsHalfway : Admission → Arrival → Admission → Type 0
IsHalfway a x b = (b ≡ a) ⊎ ((b ≡ after a x) ⊎ (b ≡ half_noted (after a x) x))
