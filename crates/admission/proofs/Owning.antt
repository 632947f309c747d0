-- A request in a dialog is of the user who made it.
use Rattle.std.proofs.Common.{◌≡◌, ℕ, true, List, Option, Some, None, refl, sym, ap, subst, ◌∙◌}
use Rattle.std.proofs.lemmas.Bool.{eqb-true}
use Rattle.sip_text.proofs.Pieces.{some_is}
use Rattle.sip_read.specs.declared.message.Request.{Request}
use Rattle.digest.specs.declared.credentials.Credentials.{Credentials}
use Rattle.admission.specs.declared.authentication.Authentication.{Authentication}
use Rattle.admission.specs.declared.judging.Admission.{Admission}
use Rattle.admission.specs.declared.judging.Arrival.{Arrival}
use Rattle.admission.specs.declared.shown.Shown.{Shown}
use Rattle.admission.specs.declared.shown.Shown.TheVariants as shown
use Rattle.admission.specs.Authorization.{Shows, IsShown}
use Rattle.admission.specs.Guesses.{name_number}
use Rattle.admission.specs.Inquiries.{is_owner}
use Rattle.admission.specs.Owners.{Names, IsUser, OwnersAlone}
use Rattle.admission.specs.Verdicts.{IsAsked, username}

its_owner : (o : Option ℕ) (owner : ℕ) (user : List ℕ) → o ≡ Some owner → is_owner o user ≡ true → name_number user ≡ owner
its_owner o owner user is own =
    let P : Option ℕ → Type 0 = λ p. is_owner p user ≡ true in eqb-true (name_number user) owner (subst P is own)

pub owners_alone : OwnersAlone
owners_alone a x k r owner asked is judges =
    let admitted = judges.2 k r asked in record {
      credentials = admitted.credentials;
      shows = admitted.shows;
      accepted = admitted.accepted;
      user = its_owner x.owner owner admitted.credentials.username is admitted.may.0;
    }

-- ---- who is named

-- credentials of this user are shown
record HasShown (realm : Option (List ℕ)) (octets user : List ℕ) : Type 0 where
  credentials : Credentials
  shows : Shows realm octets credentials
  name : user ≡ credentials.username

user_shown : (realm : Option (List ℕ)) (octets : List ℕ) (s : Shown) (user : List ℕ) → IsShown realm octets s → username s ≡ Some user → HasShown realm octets user
user_shown realm octets (shown.Credentials c) user shows e = record { credentials = c; shows = shows; name = sym (some_is c.username user e) }
user_shown realm octets shown.Absent user shows e = absurd cc
user_shown realm octets shown.Malformed user shows e = absurd cc

module _ (a : Admission) (x : Arrival) (own : Authentication) (r : Request) (asks : IsAsked a x own r) (s : Shown)
    (is : IsShown own.guard.passwords.realm x.octets.now s)
    (only : (c : Credentials) → Shows own.guard.passwords.realm x.octets.now c → s ≡ shown.Credentials c) where
  named : (k : Authentication) (q : Request) (c : Credentials) → IsAsked a x k q → Shows k.guard.passwords.realm x.octets.now c → username s ≡ Some c.username
  named k q c asked shows =
      let same : k ≡ own = some_is k own (sym asked.0 ∙ asks.0) in
      let S : Authentication → Type 0 = λ p. Shows p.guard.passwords.realm x.octets.now c in
      let U : Shown → Type 0 = λ w. username w ≡ Some c.username in subst U (sym (only c (subst S same shows))) refl

  pub user_names : (user : List ℕ) → username s ≡ Some user → Names a x (name_number user)
  user_names user e =
      let one = user_shown own.guard.passwords.realm x.octets.now s user is e in record {
        authentication = own;
        request = r;
        asked = asks;
        credentials = one.credentials;
        shows = one.shows;
        user = ap (λ (u : List ℕ). name_number u) one.name;
      }

  pub user_only : (user : List ℕ) → username s ≡ Some user → IsUser a x (Some (name_number user))
  user_only user e k q c asked shows = ap (λ (u : List ℕ). Some (name_number u)) (some_is user c.username (sym e ∙ named k q c asked shows))

  pub none_only : username s ≡ None → IsUser a x None
  none_only e k q c asked shows = let some = named k q c asked shows in absurd cc
