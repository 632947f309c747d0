-- What is found of a request's credentials (RFC 7616 section 3.4.6, RFC 3261 section 22.4).
use Rattle.std.specs.Prelude.{◌≡◌, ◌≢◌, ℕ, Bool, true, false, List, Some, None}
use Rattle.sip_text.specs.declared.address.Addr.{Addr}
use Rattle.digest.specs.declared.algorithm.Algorithm.{Algorithm}
use Rattle.digest.specs.declared.credentials.Credentials.{Credentials}
use Rattle.digest.specs.declared.credentials.Protection.{Protection}
use Rattle.digest.specs.declared.credentials.Protection.TheVariants as protection
use Rattle.digest.specs.declared.guard.Asked.{Asked}
use Rattle.digest.specs.declared.guard.Guard.{Guard}
use Rattle.digest.specs.declared.guard.Verdict.{Verdict}
use Rattle.digest.specs.declared.guard.Verdict.TheVariants as verdict
use Rattle.digest.specs.Nonces.{IsOurs, IsYoung}
use Rattle.digest.specs.Passwords.{known, offers}
use Rattle.digest.specs.Responses.{response}

-- what a request shows of itself
pub record Request : Type 0 where
  pub method : List ℕ
  pub uri : List ℕ
  pub source : Addr
  pub now : ℕ

abbrev pub request_seen : Asked → Request
request_seen a = record { method = a.method.now; uri = a.uri.now; source = a.source; now = a.now }

-- a response of this form is taken
abbrev pub takes : Bool → Protection → Bool
takes old_digest protection.Old = old_digest
takes old_digest (protection.Auth count client_nonce) = true

-- the credentials are for this guard and this request, by this algorithm
pub record IsForUs (g : Guard) (r : Request) (c : Credentials) (a : Algorithm) : Type 0 where
  pub realm : g.passwords.realm ≡ Some c.realm
  pub uri : c.uri ≡ r.uri
  pub algorithm : c.algorithm ≡ Some a
  pub offered : offers g.passwords a ≡ true
  pub form : takes g.old_digest c.protection ≡ true

-- they answer a nonce that was made here at this moment for the request's source, and the response is the one that who knows the
-- user's password makes to it: over H(A1) of the table, and the request's method and uri
pub record IsRight (g : Guard) (r : Request) (c : Credentials) (a : Algorithm) (moment : ℕ) (secret : List ℕ) : Type 0 where
  pub for_us : IsForUs g r c a
  pub nonce : IsOurs g.nonces.secret r.source c.nonce moment
  pub user : known g.passwords a c.username ≡ Some secret
  pub response : c.response ≡ response a secret c r.method

-- they are right, and the nonce is young enough
pub record IsAccepted (g : Guard) (r : Request) (c : Credentials) : Type 0 where
  pub algorithm : Algorithm
  pub moment : ℕ
  pub secret : List ℕ
  pub right : IsRight g r c algorithm moment secret
  pub young : IsYoung g.nonces.time r.now moment

-- the nonce was made here for the request's source
abbrev pub HasOurNonce : Guard → Request → Credentials → Type 0
HasOurNonce g r c = (moment : ℕ) × IsOurs g.nonces.secret r.source c.nonce moment

-- the verdict: accepted, or the first check that fails
abbrev pub Judges : Guard → Request → Credentials → Verdict → Type 0
Judges g r c (verdict.Accepted user) = IsAccepted g r c × (user ≡ c.username)
Judges g r c verdict.WrongRealm = g.passwords.realm ≢ Some c.realm
Judges g r c verdict.OtherUri = (g.passwords.realm ≡ Some c.realm) × (c.uri ≢ r.uri)
Judges g r c verdict.WrongAlgorithm =
    (g.passwords.realm ≡ Some c.realm) × (c.uri ≡ r.uri) × ((a : Algorithm) → c.algorithm ≡ Some a → offers g.passwords a ≡ false)
Judges g r c verdict.OldForm =
    (g.passwords.realm ≡ Some c.realm) × (c.uri ≡ r.uri)
    × ((a : Algorithm) × (c.algorithm ≡ Some a) × (offers g.passwords a ≡ true)) × (takes g.old_digest c.protection ≡ false)
Judges g r c verdict.ForeignNonce = ((a : Algorithm) × IsForUs g r c a) × ¬ (HasOurNonce g r c)
Judges g r c verdict.UnknownUser =
    HasOurNonce g r c × ((a : Algorithm) × IsForUs g r c a × (known g.passwords a c.username ≡ None))
Judges g r c verdict.BadResponse =
    HasOurNonce g r c
    × ((a : Algorithm) × (secret : List ℕ) × IsForUs g r c a × (known g.passwords a c.username ≡ Some secret)
    × (c.response ≢ response a secret c r.method))
Judges g r c verdict.StaleNonce =
    (a : Algorithm) × (moment : ℕ) × (secret : List ℕ) × IsRight g r c a moment secret × ¬ (IsYoung g.nonces.time r.now moment)
