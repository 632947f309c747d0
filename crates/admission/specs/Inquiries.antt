-- Requests that are asked who they are from (RFC 3261 section 22).
use Rattle.std.specs.Prelude.{◌≡◌, ℕ, Bool, true, false, ◌||◌, ◌==◌, List, length, ◌⊎◌, Option, Some, None, bytes_eq, codes}
use Rattle.sip_text.specs.declared.address.Addr.{Addr}
use Rattle.sip_read.specs.declared.message.Request.{Request}
use Rattle.notifier_model.specs.Requests.{user_part}
use Rattle.digest.specs.declared.credentials.Credentials.{Credentials}
use Rattle.digest.specs.declared.guard.Guard.{Guard}
use Rattle.digest.specs.declared.guard.Verdict.{Verdict}
use Rattle.digest.specs.declared.guard.Verdict.TheVariants as verdict
use Rattle.digest.specs.Posed.{challenges}
use Rattle.digest.specs.Verdicts as digest
use Rattle.digest.specs.Verdicts.{IsAccepted, Judges}
use Rattle.digest.specs.Watching.{MayWatch}
use Rattle.admission.specs.declared.authentication.Authentication.{Authentication}
use Rattle.admission.specs.declared.authentication.ChallengeCause.{ChallengeCause}
use Rattle.admission.specs.declared.authentication.ChallengeCause.TheVariants as cause
use Rattle.admission.specs.declared.authentication.Conclusion.{Conclusion}
use Rattle.admission.specs.declared.authentication.Conclusion.TheVariants as conclusion
use Rattle.admission.specs.declared.authentication.Finding.{Finding}
use Rattle.admission.specs.declared.authentication.Finding.TheVariants as finding
use Rattle.admission.specs.declared.authentication.Inquiry.{Inquiry as Borrowed}
use Rattle.admission.specs.Authorization.{authorization, Shows, IsMalformed}
use Rattle.admission.specs.Challenge.{forbidden_text, challenge_text}
use Rattle.admission.specs.Guesses.{name_number}

-- a request, the datagram that it was read from, where that came from, when, in seconds, and who made the dialog that it is in, as a number,
-- where that is known
pub record Inquiry : Type 0 where
  pub request : Request
  pub octets : List ℕ
  pub source : Addr
  pub now : ℕ
  pub owner : Option ℕ

abbrev pub inquiry_seen : Borrowed → Inquiry
inquiry_seen i = record { request = i.request.now; octets = i.octets.now; source = i.source; now = i.now; owner = i.owner }

-- what a guard looks at
abbrev pub asked : Inquiry → digest.Request
asked i = record { method = i.request.method; uri = i.request.uri; source = i.source; now = i.now }

-- ---- who asks

-- who a guard says that it is, of credentials of this user: a wrong password is one of a user that isn't known, or a response that isn't right
abbrev pub told : Verdict → List ℕ → Finding
told (verdict.Accepted user) own = finding.User user
told verdict.ForeignNonce own = finding.Nobody cause.Stale
told verdict.StaleNonce own = finding.Nobody cause.Stale
told verdict.WrongRealm own = finding.Nobody cause.Wrong
told verdict.OtherUri own = finding.Nobody cause.Wrong
told verdict.WrongAlgorithm own = finding.Nobody cause.Wrong
told verdict.OldForm own = finding.Nobody cause.Wrong
told verdict.UnknownUser own = finding.Guess own
told verdict.BadResponse own = finding.Guess own

-- the guard finds this of the credentials that the request shows
pub record IsJudged (g : Guard) (i : Inquiry) (v : Verdict) : Type 0 where
  pub credentials : Credentials
  pub shows : Shows g.passwords.realm i.octets credentials
  pub judges : Judges g (asked i) credentials v

-- who is found to ask: who shows no credentials, or none that can be read, is nobody
abbrev pub IsFound : Guard → Inquiry → Finding → Type 0
IsFound g i f =
    ((f ≡ finding.Nobody cause.Absent) × (authorization g.passwords.realm i.octets ≡ None))
    ⊎ (((f ≡ finding.Nobody cause.Malformed) × IsMalformed g.passwords.realm i.octets)
    ⊎ ((v : Verdict) × (j : IsJudged g i v) × (f ≡ told v j.credentials.username)))

-- ---- whether they may

-- a REFER is for any user, and so is a request whose Request-URI names no mailbox, as one in a dialog
abbrev pub is_for_any : Request → Bool
is_for_any r = bytes_eq r.method (codes "REFER") || (length (user_part r.uri) == 0)

-- else a user may have the mailbox of their name, and what they were allowed
abbrev pub MayHave : Request → List ℕ → List (List ℕ × List ℕ) → Type 0
MayHave r user further = (is_for_any r ≡ true) ⊎ MayWatch user (user_part r.uri) further

-- the dialog that a request is in is the user's, as far as it is known who made that
abbrev pub is_owner : Option ℕ → List ℕ → Bool
is_owner None user = true
is_owner (Some owner) user = name_number user == owner

-- a user may ask for what they may have, and in a dialog that they made
abbrev pub MayAsk : Inquiry → List ℕ → List (List ℕ × List ℕ) → Type 0
MayAsk i user further = (is_owner i.owner user ≡ true) × MayHave i.request user further

-- it shows credentials that the guard accepts, of a user who may ask for it
pub record IsAdmitted (k : Authentication) (i : Inquiry) : Type 0 where
  pub credentials : Credentials
  pub shows : Shows k.guard.passwords.realm i.octets credentials
  pub accepted : IsAccepted k.guard (asked i) credentials
  pub may : MayAsk i credentials.username k.further.items

-- ---- what comes of it

abbrev pub is_stale : ChallengeCause → Bool
is_stale cause.Stale = true
is_stale cause.Absent = false
is_stale cause.Malformed = false
is_stale cause.Wrong = false

-- the 401: its challenges are to a new nonce for the source
abbrev pub challenge : Authentication → Inquiry → ChallengeCause → List ℕ
challenge k i c = challenge_text i.source i.request k.tag (challenges k.guard i.source i.now (is_stale c))

-- a known user asks for what they may not have, or in a dialog that another made
pub record IsForbidden (k : Authentication) (i : Inquiry) : Type 0 where
  pub credentials : Credentials
  pub shows : Shows k.guard.passwords.realm i.octets credentials
  pub accepted : IsAccepted k.guard (asked i) credentials
  pub may_not : ¬ (MayAsk i credentials.username k.further.items)

abbrev pub IsConcluded : Authentication → Inquiry → Conclusion → Type 0
IsConcluded k i conclusion.Admitted = IsAdmitted k i
IsConcluded k i (conclusion.Challenge c octets) = IsFound k.guard i (finding.Nobody c) × (octets ≡ challenge k i c)
IsConcluded k i (conclusion.Guess user octets) = IsFound k.guard i (finding.Guess user) × (octets ≡ challenge k i cause.Wrong)
IsConcluded k i (conclusion.Forbidden octets) = IsForbidden k i × (octets ≡ forbidden_text i.source i.request k.tag)
