-- The challenges of a service.
use Rattle.std.specs.Prelude.{ℕ, Bool, false, List, [], ◌∷◌, ◌++◌, Option, Some, None, bytes_eq, if◌then◌else◌}
use Rattle.sip_text.specs.declared.address.Addr.{Addr}
use Rattle.digest.specs.declared.algorithm.Algorithm.{Algorithm}
use Rattle.digest.specs.declared.algorithm.Algorithm.TheVariants as algorithm
use Rattle.digest.specs.declared.guard.Guard.{Guard}
use Rattle.digest.specs.Challenges.{challenge}
use Rattle.digest.specs.Nonces.{nonce_text}
use Rattle.digest.specs.Passwords.{offers}

-- it has this realm
abbrev pub is_of_realm : Option (List ℕ) → List ℕ → Bool
is_of_realm None realm = false
is_of_realm (Some own) realm = bytes_eq own realm

-- the challenge by this algorithm, if a password has a hash by it
abbrev pub offered : Guard → List ℕ → List ℕ → Bool → Algorithm → List (List ℕ)
offered g realm nonce stale a = if offers g.passwords a then challenge realm nonce a stale ∷ [] else []

abbrev pub posed : Guard → List ℕ → Bool → Option (List ℕ) → List (List ℕ)
posed g nonce stale None = []
posed g nonce stale (Some realm) = offered g realm nonce stale algorithm.Sha256 ++ offered g realm nonce stale algorithm.Md5

-- one by each algorithm, SHA-256 first, to a new nonce
abbrev pub challenges : Guard → Addr → ℕ → Bool → List (List ℕ)
challenges g source now stale = posed g (nonce_text g.nonces.secret now source) stale g.passwords.realm
