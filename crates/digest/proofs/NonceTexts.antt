-- What a nonce says of its moment.
use Rattle.std.proofs.Common.{◌≡◌, ℕ, List, Some, None, refl, sym, ap, ◌∙◌}
use Rattle.std.specs.Prelude.{decimal}
use Rattle.sip_text.specs.declared.address.Addr.{Addr}
use Rattle.sip_text.specs.Reading.{cut_at, plain_number}
use Rattle.sip_text.proofs.Pieces.{some_is}
use Rattle.sip_text.proofs.Cuts.{cut_again}
use Rattle.sip_text.proofs.Addresses.{decimal_lacks}
use Rattle.sip_text.proofs.PlainNumbers.{number_takes, number_again}
use Rattle.digest.specs.Nonces.{seal, nonce_text, IsOurs}

pub ours_cut : (secret : List ℕ) (source : Addr) (nonce : List ℕ) (moment : ℕ) → IsOurs secret source nonce moment → cut_at 45 nonce ≡ Some (decimal moment, seal secret moment source)
ours_cut secret source nonce moment h = ap (cut_at 45) h.is ∙ cut_again 45 (decimal moment) (seal secret moment source) (decimal_lacks 45 moment refl h.small)

-- without a mark it is none of ours
pub uncut : (secret : List ℕ) (source : Addr) (nonce : List ℕ) → cut_at 45 nonce ≡ None → (moment : ℕ) → ¬ (IsOurs secret source nonce moment)
uncut secret source nonce e moment h = let k = ours_cut secret source nonce moment h in absurd cc

module _ (secret : List ℕ) (source : Addr) (nonce digits rest : List ℕ) (cut : cut_at 45 nonce ≡ Some (digits, rest)) where
  -- what stands before the mark says the moment
  same_pair : (moment : ℕ) → IsOurs secret source nonce moment → ◌≡◌ {A = List ℕ × List ℕ} (digits, rest) (decimal moment, seal secret moment source)
  same_pair moment h = some_is (digits, rest) (decimal moment, seal secret moment source) (sym cut ∙ ours_cut secret source nonce moment h)

  says : (moment : ℕ) → IsOurs secret source nonce moment → plain_number digits ≡ Some moment
  says moment h =
      let same : digits ≡ decimal moment = ap (λ (p : List ℕ × List ℕ). p.0) (same_pair moment h) in
      ap plain_number same ∙ number_again moment h.small

  pub unnumbered : plain_number digits ≡ None → (moment : ℕ) → ¬ (IsOurs secret source nonce moment)
  unnumbered e moment h = let k = says moment h in absurd cc

  pub unlike : (found : ℕ) → plain_number digits ≡ Some found → (nonce_text secret found source ≡ nonce → ⊥) → (moment : ℕ) → ¬ (IsOurs secret source nonce moment)
  unlike found e other moment h =
      let k = says moment h in
      let same : found ≡ moment = cc in
      other (ap (λ (m : ℕ). nonce_text secret m source) same ∙ sym h.is)

  pub alike : (found : ℕ) → plain_number digits ≡ Some found → nonce_text secret found source ≡ nonce → IsOurs secret source nonce found
  alike found e same = record { small = (number_takes digits found e).1; is = sym same }
