-- Who is found to ask.
use Rattle.std.proofs.Common.{◌≡◌, ℕ, List, inl, inr, subst, ◌∙◌}
use Rattle.sip_text.specs.declared.address.Addr.{Addr}
use Rattle.digest.specs.declared.credentials.Credentials.{Credentials}
use Rattle.digest.specs.declared.guard.Guard.{Guard}
use Rattle.digest.specs.declared.guard.Verdict.{Verdict}
use Rattle.digest.specs.declared.guard.Verdict.TheVariants as verdict
use Rattle.digest.specs.Verdicts as digest
use Rattle.digest.specs.Verdicts.{IsAccepted}
use Rattle.admission.specs.declared.authentication.Finding.TheVariants as finding
use Rattle.admission.specs.Authorization.{Shows}
use Rattle.admission.specs.Inquiries.{Inquiry, asked, told, IsJudged, IsFound, MayAsk}

-- the same request
pub moved : (P : digest.Request → Type 0) (method method' uri uri' : List ℕ) (source : Addr) (now : ℕ) → method ≡ method' → uri ≡ uri'
    → P (record { method = method; uri = uri; source = source; now = now }) → P (record { method = method'; uri = uri'; source = source; now = now })
moved P method method' uri uri' source now e k h =
    subst (λ (m : List ℕ). P (record { method = m; uri = uri'; source = source; now = now })) e
    (subst (λ (u : List ℕ). P (record { method = method; uri = u; source = source; now = now })) k h)

-- the guard accepts credentials of this user
pub record IsUser (g : Guard) (i : Inquiry) (user : List ℕ) : Type 0 where
  pub credentials : Credentials
  pub shows : Shows g.passwords.realm i.octets credentials
  pub accepted : IsAccepted g (asked i) credentials
  pub name : user ≡ credentials.username

judged_user : (g : Guard) (i : Inquiry) (user : List ℕ) (v : Verdict) (j : IsJudged g i v) → finding.User user ≡ told v j.credentials.username → IsUser g i user
judged_user g i user (verdict.Accepted own) j e = record {
  credentials = j.credentials;
  shows = j.shows;
  accepted = j.judges.0;
  name = (let k : user ≡ own = cc in k ∙ j.judges.1);
}
judged_user g i user verdict.StaleNonce j e = absurd cc
judged_user g i user verdict.WrongRealm j e = absurd cc
judged_user g i user verdict.OtherUri j e = absurd cc
judged_user g i user verdict.WrongAlgorithm j e = absurd cc
judged_user g i user verdict.OldForm j e = absurd cc
judged_user g i user verdict.ForeignNonce j e = absurd cc
judged_user g i user verdict.UnknownUser j e = absurd cc
judged_user g i user verdict.BadResponse j e = absurd cc

pub user_found : (g : Guard) (i : Inquiry) (user : List ℕ) → IsFound g i (finding.User user) → IsUser g i user
user_found g i user (inl none) = (let e = none.0 in absurd cc)
user_found g i user (inr (inl bad)) = (let e = bad.0 in absurd cc)
user_found g i user (inr (inr found)) = judged_user g i user found.0 found.1 found.2

pub ask_same : (i : Inquiry) (user user' : List ℕ) (further further' : List (List ℕ × List ℕ)) → user ≡ user' → further ≡ further' → MayAsk i user further → MayAsk i user' further'
ask_same i user user' further further' e k h = subst (λ (u : List ℕ). MayAsk i u further') e (subst (λ (f : List (List ℕ × List ℕ)). MayAsk i user f) k h)
