-- Nonces that need no state: the moment when one was made, and a hash that only who has the secret can make.
use Rattle.std.specs.Prelude.{◌≡◌, ℕ, ◌+◌, ◌≤◌, ◌<◌, ◌^◌, List, ◌++◌, codes, decimal}
use Rattle.hex.specs.Hex.{encode_lower}
use Rattle.sha2.specs.Sha256.{sha256}
use Rattle.sip_text.specs.declared.address.Addr.{Addr}
use Rattle.sip_text.specs.Addresses.{addr_text}
use Rattle.digest.specs.declared.nonce.Nonces.{Nonces}
use Rattle.digest.specs.declared.nonce.Freshness.{Freshness}
use Rattle.digest.specs.declared.nonce.Freshness.TheVariants as freshness

-- SHA-256 over the secret, the moment in seconds, and the source's address and port
abbrev pub seal : List ℕ → ℕ → Addr → List ℕ
seal secret moment source =
    encode_lower (sha256 (secret ++ (decimal moment ++ (codes " " ++ addr_text source))))

-- nonce = moment "-" seal
abbrev pub nonce_text : List ℕ → ℕ → Addr → List ℕ
nonce_text secret moment source = decimal moment ++ (codes "-" ++ seal secret moment source)

-- made at this moment, for this source
pub record IsOurs (secret : List ℕ) (source : Addr) (nonce : List ℕ) (moment : ℕ) : Type 0 where
  pub small : moment < 2 ^ 64
  pub is : nonce ≡ nonce_text secret moment source

-- from no later than now, and no more than this many seconds old
pub record IsYoung (time now moment : ℕ) : Type 0 where
  pub past : moment ≤ now
  pub young : now ≤ moment + time

-- what is found of a nonce
abbrev pub IsFound : Nonces → Addr → ℕ → List ℕ → Freshness → Type 0
IsFound nonces source now nonce freshness.Fresh =
    (moment : ℕ) × IsOurs nonces.secret source nonce moment × IsYoung nonces.time now moment
IsFound nonces source now nonce freshness.Stale =
    (moment : ℕ) × IsOurs nonces.secret source nonce moment × ¬ (IsYoung nonces.time now moment)
IsFound nonces source now nonce freshness.Foreign = (moment : ℕ) → ¬ (IsOurs nonces.secret source nonce moment)
