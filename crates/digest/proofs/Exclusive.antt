-- Credentials that are accepted have no other verdict.
use Rattle.std.proofs.Common.{◌≡◌, ℕ, List, Some, sym, ap, subst, ◌∙◌}
use Rattle.std.specs.Prelude.{decimal, Result, Ok, Err, IfOk}
use Rattle.sip_text.specs.declared.address.Addr.{Addr}
use Rattle.sip_text.specs.Reading.{plain_number}
use Rattle.sip_text.proofs.Pieces.{some_is}
use Rattle.sip_text.proofs.PlainNumbers.{number_again}
use Rattle.digest.specs.declared.algorithm.Algorithm.{Algorithm}
use Rattle.digest.specs.declared.credentials.Credentials.{Credentials}
use Rattle.digest.specs.declared.guard.Guard.{Guard}
use Rattle.digest.specs.declared.guard.Verdict.{Verdict}
use Rattle.digest.specs.declared.guard.Verdict.TheVariants as verdict
use Rattle.digest.specs.Nonces.{seal, IsOurs, IsYoung}
use Rattle.digest.specs.Passwords.{known}
use Rattle.digest.specs.Responses.{response}
use Rattle.digest.specs.Verdicts.{Request, IsAccepted, Judges}
use Rattle.digest.proofs.NonceTexts.{ours_cut}

-- a nonce says one moment
one_moment : (secret : List ℕ) (source : Addr) (nonce : List ℕ) (m n : ℕ) → IsOurs secret source nonce m → IsOurs secret source nonce n → m ≡ n
one_moment secret source nonce m n h k =
    let pair : ◌≡◌ {A = List ℕ × List ℕ} (decimal m, seal secret m source) (decimal n, seal secret n source) = some_is (decimal m, seal secret m source) (decimal n, seal secret n source) (sym (ours_cut secret source nonce m h) ∙ ours_cut secret source nonce n k) in
    let digits : decimal m ≡ decimal n = ap (λ (p : List ℕ × List ℕ). p.0) pair in
    some_is m n (sym (number_again m h.small) ∙ ap plain_number digits ∙ number_again n k.small)

module _ (g : Guard) (r : Request) (c : Credentials) (h : IsAccepted g r c) where
  one_algorithm : (a : Algorithm) → c.algorithm ≡ Some a → h.algorithm ≡ a
  one_algorithm a e = some_is h.algorithm a (sym h.right.for_us.algorithm ∙ e)

  secret_is : (a : Algorithm) → c.algorithm ≡ Some a → known g.passwords a c.username ≡ Some h.secret
  secret_is a e = subst (λ (b : Algorithm). known g.passwords b c.username ≡ Some h.secret) (one_algorithm a e) h.right.user

  pub only_accepted : (v : Verdict) → Judges g r c v → v ≡ verdict.Accepted c.username
  only_accepted (verdict.Accepted user) j = ap (λ (u : List ℕ). verdict.Accepted u) j.1
  only_accepted verdict.WrongRealm j = absurd (j h.right.for_us.realm)
  only_accepted verdict.OtherUri j = absurd (j.1 h.right.for_us.uri)
  only_accepted verdict.WrongAlgorithm j = let no = j.2 h.algorithm h.right.for_us.algorithm in let yes = h.right.for_us.offered in absurd cc
  only_accepted verdict.OldForm j = let no = j.3 in let yes = h.right.for_us.form in absurd cc
  only_accepted verdict.ForeignNonce j = absurd (j.1 (h.moment, h.right.nonce))
  only_accepted verdict.UnknownUser j = let k = j.1 in let yes = secret_is k.0 k.1.algorithm in let no = k.2 in absurd cc
  only_accepted verdict.BadResponse j =
      let k = j.1 in
      let same : h.secret ≡ k.1 = some_is h.secret k.1 (sym (secret_is k.0 k.2.algorithm) ∙ k.3) in
      let right : c.response ≡ response k.0 h.secret c r.method = subst (λ (b : Algorithm). c.response ≡ response b h.secret c r.method) (one_algorithm k.0 k.2.algorithm) h.right.response in
      absurd (k.4 (right ∙ ap (λ (s : List ℕ). response k.0 s c r.method) same))
  only_accepted verdict.StaleNonce j =
      let same = one_moment g.nonces.secret r.source c.nonce h.moment j.1 h.right.nonce j.3.nonce in
      absurd (j.4 (subst (λ (m : ℕ). IsYoung g.nonces.time r.now m) same h.young))

-- so a call that answers a verdict accepts them
pub accepts : {E : Type 0} (g : Guard) (r : Request) (c : Credentials) (o : Result Verdict E) → IfOk o (Judges g r c) → IfOk o (λ v. IsAccepted g r c → v ≡ verdict.Accepted c.username)
accepts g r c (Ok v) j = λ h. only_accepted g r c h v j
accepts g r c (Err e) j = tt
