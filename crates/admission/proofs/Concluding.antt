-- What comes of a datagram, where its token was taken.
use Rattle.std.proofs.Common.{◌≡◌, ◌⊎◌, inl, inr, ⊎_elim, ℕ, Bool, true, false, List, Option, Some, None, refl, sym, ap, subst, ◌∙◌}
use Rattle.std.specs.Prelude.{Result, Ok, Err, IfOk, OnErr, if◌then◌else◌}
use Rattle.sip_text.specs.declared.error.NoMemory.{NoMemory}
use Rattle.sip_text.proofs.Pieces.{some_is}
use Rattle.digest.specs.declared.credentials.Credentials.{Credentials}
use Rattle.sip_read.specs.declared.message.Request.{Request}
use Rattle.admission.specs.declared.authentication.Authentication.{Authentication}
use Rattle.admission.specs.declared.table.Rates.{Rates}
use Rattle.admission.specs.declared.judging.Admission.{Admission}
use Rattle.admission.specs.declared.judging.Arrival.{Arrival}
use Rattle.admission.specs.declared.judging.Reading.TheVariants as reading
use Rattle.admission.specs.declared.judging.Verdict.{Verdict}
use Rattle.admission.specs.declared.judging.Verdict.TheVariants as verdict
use Rattle.admission.specs.declared.shown.Shown.{Shown}
use Rattle.admission.specs.declared.shown.Shown.TheVariants as shown
use Rattle.admission.specs.Authorization.{Shows, IsShown}
use Rattle.admission.specs.Inquiries.{IsAdmitted}
use Rattle.admission.specs.Verdicts.{IsOpen, asked, inquiry, IsSeated, with_rates, counting, behind, hears, lets, too_large, username, is_barred, barred_user, IsAsked, IsUnbarred, IsHeard, IsFree, one_more, IsConcluded, IsWeighed, IsAllowed, Judges, is_guess, after, noted}

-- ---- the rate has no part in it

module _ (a : Admission) (x : Arrival) where
  concluded_before : (o : Option Rates) (v : Verdict) → IsConcluded (with_rates a o x) x v → IsConcluded a x v
  concluded_before None v h = h
  concluded_before (Some r) verdict.Allowed h = h
  concluded_before (Some r) (verdict.Crowded octets) h = h
  concluded_before (Some r) verdict.Foreign h = h
  concluded_before (Some r) verdict.Limited h = h
  concluded_before (Some r) (verdict.Large octets) h = h
  concluded_before (Some r) (verdict.Challenge cause octets) h = (
    h.0,
    record { authentication = h.1.authentication; request = h.1.request; asked = h.1.asked; found = h.1.found; says = h.1.says },
  )
  concluded_before (Some r) (verdict.Guess user octets) h = (
    h.0,
    record { authentication = h.1.authentication; request = h.1.request; asked = h.1.asked; found = h.1.found; says = h.1.says },
  )
  concluded_before (Some r) (verdict.Forbidden octets) h = (
    h.0,
    record { authentication = h.1.authentication; request = h.1.request; asked = h.1.asked; forbidden = h.1.forbidden; says = h.1.says },
  )
  concluded_before (Some r) (verdict.Barred user octets) h = record {
    authentication = h.authentication;
    request = h.request;
    asked = h.asked;
    credentials = h.credentials;
    shows = h.shows;
    name = h.name;
    barred = h.barred;
    says = h.says;
  }

  pub weighed_before : (o : Option Rates) (v : Verdict) → IsWeighed (with_rates a o x) x v → IsWeighed a x v
  weighed_before None v h = h
  weighed_before (Some r) v (inl large) = inl large
  weighed_before (Some r) v (inr h) = inr (h.0, concluded_before (Some r) v h.1)

  -- who is to be heard is, also behind its token
  pub allowed_before : (o : Option Rates) (P : Type 0)
      → (too_large (with_rates a o x) x ≡ None → IsUnbarred (with_rates a o x) x → IsFree (with_rates a o x) x → one_more (with_rates a o x) x ≡ None → P)
      → IsAllowed a x → P
  allowed_before None P f is = f is.0.small is.1 is.2 is.3
  allowed_before (Some r) P f is = f is.0.small is.1 is.2 is.3

  pub open_before : (o : Option Rates) (P : Type 0)
      → ((with_rates a o x).authentication ≡ None → (with_rates a o x).max_texts ≡ None → (with_rates a o x).per_source ≡ None → P) → IsOpen a → P
  open_before None P f is = f is.anyone is.any_size is.unlimited
  open_before (Some r) P f is = f is.anyone is.any_size is.unlimited

  -- ---- the verdict

  pub judged_weighed : hears a x.source.ip ≡ true → lets a x ≡ true → (v : Verdict) → IsWeighed a x v → Judges a x v
  judged_weighed near seldom v (inl l) = let P : Verdict → Type 0 = λ w. Judges a x w in subst P (sym l.1) (near, seldom, l.2)
  judged_weighed near seldom verdict.Allowed (inr h) = (record { near = near; seldom = seldom; small = h.0 }, h.1.0, h.1.1, h.1.2)
  judged_weighed near seldom (verdict.Crowded octets) (inr h) = (record { near = near; seldom = seldom; small = h.0 }, h.1.0, h.1.1, h.1.2)
  judged_weighed near seldom (verdict.Challenge cause octets) (inr h) = (record { near = near; seldom = seldom; small = h.0 }, h.1.0, h.1.1)
  judged_weighed near seldom (verdict.Guess user octets) (inr h) = (record { near = near; seldom = seldom; small = h.0 }, h.1.0, h.1.1)
  judged_weighed near seldom (verdict.Forbidden octets) (inr h) = (record { near = near; seldom = seldom; small = h.0 }, h.1.0, h.1.1)
  judged_weighed near seldom (verdict.Barred user octets) (inr h) = (record { near = near; seldom = seldom; small = h.0 }, h.1)
  judged_weighed near seldom (verdict.Large octets) (inr h) = absurd h.1
  judged_weighed near seldom verdict.Foreign (inr h) = absurd h.1
  judged_weighed near seldom verdict.Limited (inr h) = absurd h.1

  -- ---- who is barred

  pub unbarred : (own : Authentication) → a.authentication ≡ Some own → (s : Shown)
      → ((c : Credentials) → Shows own.guard.passwords.realm x.octets.now c → s ≡ shown.Credentials c) → barred_user a x (username s) ≡ None → IsUnbarred a x
  unbarred own is s only none k r c asked shows =
      let same : k ≡ own = some_is k own (sym asked.0 ∙ is) in
      let S : Authentication → Type 0 = λ q. Shows q.guard.passwords.realm x.octets.now c in
      let P : Shown → Type 0 = λ w. barred_user a x (username w) ≡ None in
      let e : barred_user a x (Some c.username) ≡ None = subst P (only c (subst S same shows)) none in
      (elim (is_barred a x c.username) as (λ y. (if y then Some c.username else None) ≡ None → y ≡ false) [ true ↦ λ h. absurd cc | false ↦ λ h. refl ]) e

  pub record IsHim (realm : Option (List ℕ)) (s : Shown) (user : List ℕ) : Type 0 where
    pub credentials : Credentials
    pub shows : Shows realm x.octets.now credentials
    pub name : user ≡ credentials.username
    pub barred : is_barred a x user ≡ true

  pub barred_is : (realm : Option (List ℕ)) (s : Shown) (user : List ℕ) → IsShown realm x.octets.now s → barred_user a x (username s) ≡ Some user → IsHim realm s user
  barred_is realm (shown.Credentials c) user shows e =
      (elim (is_barred a x c.username) as (λ y. is_barred a x c.username ≡ y → (if y then Some c.username else None) ≡ Some user → IsHim realm (shown.Credentials c) user) [
        | true ↦ λ b h. (let name : user ≡ c.username = sym (some_is c.username user h) in
            let P : List ℕ → Type 0 = λ u. is_barred a x u ≡ true in
            record { credentials = c; shows = shows; name = name; barred = subst P (sym name) b })
        | false ↦ λ b h. absurd cc
      ]) refl e
  barred_is realm shown.Absent user shows e = absurd cc
  barred_is realm shown.Malformed user shows e = absurd cc

  pub not_both : (s : Shown) (user : List ℕ) (k : Authentication) (r : Request) → IsShown k.guard.passwords.realm x.octets.now s → barred_user a x (username s) ≡ Some user
      → IsAsked a x k r → IsUnbarred a x → ⊥
  not_both s user k r shows e asked free =
      let him = barred_is k.guard.passwords.realm s user shows e in
      let P : List ℕ → Type 0 = λ u. is_barred a x u ≡ true in
      let yes = subst P him.name him.barred in
      let no = free k r him.credentials asked him.shows in
      absurd cc

  -- ---- who may

  pub free_one : (own : Authentication) (request : Request) → a.authentication ≡ Some own → asked x.reading ≡ Some request
      → IsAdmitted own (inquiry x request) → IsFree a x
  free_one own request is asks admitted k r asked =
      let K : Authentication → Type 0 = λ q. IsAdmitted q (inquiry x r) in
      let R : Request → Type 0 = λ q. IsAdmitted own (inquiry x q) in
      subst K (some_is own k (sym is ∙ asked.0)) (subst R (some_is request r (sym asks ∙ asked.1)) admitted)

  pub seated_concluded : (v : Verdict) → IsUnbarred a x → IsFree a x → IsSeated a x v → IsConcluded a x v
  seated_concluded verdict.Allowed unbarred free s = (unbarred, free, s)
  seated_concluded (verdict.Crowded octets) unbarred free s = (unbarred, free, s)
  seated_concluded verdict.Foreign unbarred free s = absurd s
  seated_concluded verdict.Limited unbarred free s = absurd s
  seated_concluded (verdict.Large octets) unbarred free s = absurd s
  seated_concluded (verdict.Barred user octets) unbarred free s = absurd s
  seated_concluded (verdict.Challenge cause octets) unbarred free s = absurd s
  seated_concluded (verdict.Guess user octets) unbarred free s = absurd s
  seated_concluded (verdict.Forbidden octets) unbarred free s = absurd s

  -- ---- wrong passwords

  pub guess_wants : (v : Verdict) → is_guess v ≡ true → IsWeighed a x v → a.authentication ≡ None → ⊥
  guess_wants v is (inl l) none = (let P : Verdict → Type 0 = λ w. is_guess w ≡ true in let e = subst P l.1 is in absurd cc)
  guess_wants (verdict.Guess user octets) is (inr h) none = let some = h.1.1.asked.0 in absurd cc
  guess_wants verdict.Allowed is (inr h) none = absurd cc
  guess_wants verdict.Foreign is (inr h) none = absurd cc
  guess_wants verdict.Limited is (inr h) none = absurd cc
  guess_wants (verdict.Large octets) is (inr h) none = absurd cc
  guess_wants (verdict.Barred user octets) is (inr h) none = absurd cc
  guess_wants (verdict.Challenge cause octets) is (inr h) none = absurd cc
  guess_wants (verdict.Forbidden octets) is (inr h) none = absurd cc
  guess_wants (verdict.Crowded octets) is (inr h) none = absurd cc

  pub guess_asks : (v : Verdict) → is_guess v ≡ true → IsWeighed a x v → x.reading ≡ reading.Response → ⊥
  guess_asks v is (inl l) none = (let P : Verdict → Type 0 = λ w. is_guess w ≡ true in let e = subst P l.1 is in absurd cc)
  guess_asks (verdict.Guess user octets) is (inr h) none = (let some = rw none at h.1.1.asked.1 in absurd cc)
  guess_asks verdict.Allowed is (inr h) none = absurd cc
  guess_asks verdict.Foreign is (inr h) none = absurd cc
  guess_asks verdict.Limited is (inr h) none = absurd cc
  guess_asks (verdict.Large octets) is (inr h) none = absurd cc
  guess_asks (verdict.Barred user octets) is (inr h) none = absurd cc
  guess_asks (verdict.Challenge cause octets) is (inr h) none = absurd cc
  guess_asks (verdict.Forbidden octets) is (inr h) none = absurd cc
  guess_asks (verdict.Crowded octets) is (inr h) none = absurd cc

-- who is asked stays
pub behind_same : (a : Admission) (x : Arrival) → (behind a x).authentication ≡ a.authentication
behind_same a x = same (counting a x) where
  same : (o : Option Rates) → (with_rates a o x).authentication ≡ a.authentication
  same None = refl
  same (Some r) = refl

pub behind_near : (a : Admission) (x : Arrival) → hears a x.source.ip ≡ true → after a x ≡ behind a x
behind_near a x near = ap (λ (y : Bool). if y then behind a x else a) near

pub if_ok : (r : Result Verdict NoMemory) (P Q : Verdict → Type 0) → ((v : Verdict) → P v → Q v) → IfOk r P → IfOk r Q
if_ok (Ok v) P Q f h = f v h
if_ok (Err e) P Q f h = tt

pub if_err : (r : Result Verdict NoMemory) (P Q : Type 0) → (P → Q) → OnErr r P → OnErr r Q
if_err (Ok v) P Q f h = h
if_err (Err e) P Q f h = f h

-- ---- a wrong password takes tokens alone

pub noted_same : (a : Admission) (x : Arrival) (v : Verdict) → (noted a x v).authentication ≡ a.authentication
noted_same a x (verdict.Guess user octets) = refl
noted_same a x verdict.Allowed = refl
noted_same a x verdict.Foreign = refl
noted_same a x verdict.Limited = refl
noted_same a x (verdict.Large octets) = refl
noted_same a x (verdict.Barred user octets) = refl
noted_same a x (verdict.Challenge cause octets) = refl
noted_same a x (verdict.Forbidden octets) = refl
noted_same a x (verdict.Crowded octets) = refl

pub noted_networks : (a : Admission) (x : Arrival) (v : Verdict) → (noted a x v).networks ≡ a.networks
noted_networks a x (verdict.Guess user octets) = refl
noted_networks a x verdict.Allowed = refl
noted_networks a x verdict.Foreign = refl
noted_networks a x verdict.Limited = refl
noted_networks a x (verdict.Large octets) = refl
noted_networks a x (verdict.Barred user octets) = refl
noted_networks a x (verdict.Challenge cause octets) = refl
noted_networks a x (verdict.Forbidden octets) = refl
noted_networks a x (verdict.Crowded octets) = refl
