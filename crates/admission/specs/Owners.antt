-- Whose dialogs they are: a request in one is of the user who made it, where that is known.
use Rattle.std.specs.Prelude.{◌≡◌, ℕ, Option, Some, None, List}
use Rattle.sip_read.specs.declared.message.Request.{Request}
use Rattle.digest.specs.declared.credentials.Credentials.{Credentials}
use Rattle.digest.specs.Verdicts.{IsAccepted}
use Rattle.admission.specs.declared.authentication.Authentication.{Authentication}
use Rattle.admission.specs.declared.judging.Admission.{Admission}
use Rattle.admission.specs.declared.judging.Arrival.{Arrival}
use Rattle.admission.specs.declared.judging.Verdict.TheVariants as verdict
use Rattle.admission.specs.Authorization.{Shows}
use Rattle.admission.specs.Guesses.{name_number}
use Rattle.admission.specs.Inquiries.{asked}
use Rattle.admission.specs.Verdicts.{inquiry, IsAsked, Judges}

-- ---- who is named

-- it is asked who it is from, and shows credentials of a user with this number
pub record Names (a : Admission) (x : Arrival) (number : ℕ) : Type 0 where
  pub authentication : Authentication
  pub request : Request
  pub asked : IsAsked a x authentication request
  pub credentials : Credentials
  pub shows : Shows authentication.guard.passwords.realm x.octets.now credentials
  pub user : number ≡ name_number credentials.username

-- whatever credentials it shows, where it is asked, this is the number of their user
abbrev pub IsUser : Admission → Arrival → Option ℕ → Type 0
IsUser a x number =
    (k : Authentication) (r : Request) (c : Credentials) → IsAsked a x k r → Shows k.guard.passwords.realm x.octets.now c
    → number ≡ Some (name_number c.username)

-- ---- who is let through

-- it shows credentials that are accepted, of a user with this number
pub record IsVouchedBy (k : Authentication) (x : Arrival) (r : Request) (number : ℕ) : Type 0 where
  pub credentials : Credentials
  pub shows : Shows k.guard.passwords.realm x.octets.now credentials
  pub accepted : IsAccepted k.guard (asked (inquiry x r)) credentials
  pub user : name_number credentials.username ≡ number

-- a request that is asked, in a dialog of which it is known who made it, is let through for that user alone
abbrev pub OwnersAlone : Type 0
OwnersAlone =
    (a : Admission) (x : Arrival) (k : Authentication) (r : Request) (owner : ℕ) → IsAsked a x k r → x.owner ≡ Some owner
    → Judges a x verdict.Allowed → IsVouchedBy k x r owner
