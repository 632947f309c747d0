-- What is said of those whom a service hears.
use Rattle.std.proofs.Common.{◌≡◌, ⊎_elim, ℕ, ◌/◌, Bool, true, false, List, [], ◌∷◌, Option, Some, None, refl, sym, ap, ◌∙◌, subst}
use Rattle.std.specs.Prelude.{if◌then◌else◌}
use Rattle.std.specs.List.{AllByRecursion}
use Rattle.sip_text.specs.declared.address.Addr.{Addr}
use Rattle.sip_read.specs.declared.message.Message.{Message}
use Rattle.sip_read.specs.declared.message.Message.TheVariants as message
use Rattle.sip_read.specs.declared.message.Request.{Request}
use Rattle.notifier_model.specs.declared.event.Event.TheVariants as event
use Rattle.feeds.specs.declared.hearing.Heard.{Heard}
use Rattle.feeds.specs.declared.hearing.Heard.TheVariants as heard
use Rattle.feeds.specs.Heard.{event_of, SipSays}
use Rattle.feeds.specs.Fed.{datagrams}
use Rattle.admission.specs.declared.authentication.Authentication.{Authentication}
use Rattle.admission.specs.declared.judging.Admission.{Admission}
use Rattle.admission.specs.declared.judging.Arrival.{Arrival}
use Rattle.admission.specs.declared.judging.Reading.{Reading}
use Rattle.admission.specs.declared.judging.Reading.TheVariants as reading
use Rattle.admission.specs.declared.judging.Verdict.{Verdict}
use Rattle.admission.specs.declared.judging.Verdict.TheVariants as verdict
use Rattle.admission.specs.Inquiries.{IsAdmitted}
use Rattle.admission.specs.Verdicts.{IsOpen, hears, behind, is_asked, asked, IsFree, after, half_noted}
use Rattle.admission.proofs.Concluding.{behind_same, noted_same}
use Rattle.admission.proofs.Open.{open_allowed, open_judged}
use Rattle.service.specs.Admitted.{Case, IsRequest, IsRead, Meets, IsJudged, AreJudged, arrived, is_allowed, admitted, refusals, unsent, IsVouched, EachIsVouched, OpenHearsAll}

-- ---- one that is heard

free : (a : Admission) (x : Arrival) (v : Option Verdict) (b : Admission) → is_allowed v ≡ true → Meets a x v b → IsFree a x
free a x None b is m = absurd cc
free a x (Some verdict.Allowed) b is m = m.0.2
free a x (Some verdict.Foreign) b is m = absurd cc
free a x (Some verdict.Limited) b is m = absurd cc
free a x (Some (verdict.Large octets)) b is m = absurd cc
free a x (Some (verdict.Barred user octets)) b is m = absurd cc
free a x (Some (verdict.Challenge c octets)) b is m = absurd cc
free a x (Some (verdict.Guess user octets)) b is m = absurd cc
free a x (Some (verdict.Forbidden octets)) b is m = absurd cc
free a x (Some (verdict.Crowded octets)) b is m = absurd cc

same_source : (peer source : Addr) (r : Request) (m : Message) → event.Request source r ≡ event_of peer m → peer ≡ source
same_source peer source r (message.Request q) e = cc
same_source peer source r (message.Response q) e = absurd cc

its_source : (peer source : Addr) (octets : List ℕ) (r : Request) (h : Heard) → h ≡ heard.Event (event.Request source r) → SipSays peer octets h → peer ≡ source
its_source peer source octets r h is says =
    let P : Heard → Type 0 = λ h. SipSays peer octets h in let its = subst P is says in same_source peer source r its.0 its.2

is_read : (r : Request) (y : Reading) → is_asked r ≡ true → IsRequest r y → asked y ≡ Some r
is_read r (reading.Request q) is same = rw same (rw is refl)
is_read r reading.Response is same = absurd same
is_read r reading.Unread is same = absurd same

vouched : (a : Admission) (earlier : ℕ) (c : Case) (b : Admission) (k : Authentication) → a.authentication ≡ Some k → IsJudged a earlier c b
    → is_allowed c.verdict ≡ true → IsVouched k (c.came, c.says)
vouched a earlier c b k own judged is source r says asks =
    let x = judged.arrival in let told = judged.told in
    let R : Heard → Type 0 = λ h. IsRead h x.reading in
    let read = is_read r x.reading asks (subst R says told.reads) in
    let admits = free a x c.verdict b is judged.meets k r (own, read) in
    let O : List ℕ → Type 0 = λ o. IsAdmitted k (record { request = r; octets = o; source = x.source; now = x.moment / 1000; owner = x.owner }) in
    let S : Addr → Type 0 = λ s. IsAdmitted k (record { request = r; octets = c.came.octets; source = s; now = x.moment / 1000; owner = x.owner }) in
    let from : x.source ≡ source = told.source ∙ its_source c.came.peer source c.came.octets r c.says says judged.speaks in
    (x.moment, x.owner, subst S from (subst O told.octets admits))

-- ---- the admission goes on

after_same : (a : Admission) (x : Arrival) → (after a x).authentication ≡ a.authentication
after_same a x =
    let either : (b : Bool) → (if b then behind a x else a).authentication ≡ a.authentication = elim [ true ↦ behind_same a x | false ↦ refl ] in
    either (hears a x.source.ip)

-- who is asked stays
next_same : (a : Admission) (x : Arrival) (v : Option Verdict) (b : Admission) → Meets a x v b → b.authentication ≡ a.authentication
next_same a x None b m =
    let P : Admission → Type 0 = λ d. d.authentication ≡ a.authentication in
    ⊎_elim (λ (e : b ≡ a). subst P (sym e) refl) (λ more. ⊎_elim (λ (e : b ≡ after a x). subst P (sym e) (after_same a x))
    (λ (e : b ≡ half_noted (after a x) x). subst P (sym e) (after_same a x)) more) m.1
next_same a x (Some v) b m =
    let P : Admission → Type 0 = λ d. d.authentication ≡ a.authentication in
    subst P (sym m.1) (noted_same (after a x) x v ∙ after_same a x)

-- ---- all of them

onto : (k : Authentication) (c : Case) (cases : List Case) (b : Bool) → is_allowed c.verdict ≡ b → (b ≡ true → IsVouched k (c.came, c.says))
    → AllByRecursion (IsVouched k) (admitted cases) → AllByRecursion (IsVouched k) (admitted (c ∷ cases))
onto k c cases true is one all = rw is (one refl, all)
onto k c cases false is one all = rw is all

each : (a : Admission) (earlier : ℕ) (cases : List Case) (b : Admission) (k : Authentication) → a.authentication ≡ Some k → AreJudged a earlier cases b
    → AllByRecursion (IsVouched k) (admitted cases)
each a earlier [] b k own are = tt
each a earlier (c ∷ cases) b k own are =
    let next = are.0 in let judged = are.1 in
    let same = next_same a judged.arrival c.verdict next judged.meets in
    onto k c cases (is_allowed c.verdict) refl (λ is. vouched a earlier c next k own judged is) (each next c.moment cases b k (same ∙ own) are.2)

pub each_vouched : EachIsVouched
each_vouched a b k cases old new end own are = each a 0 cases b k own are.judged

-- ---- where nothing is asked

allowed : (a : Admission) (x : Arrival) (v : Option Verdict) (b : Admission) → IsOpen a → Meets a x v b → v ≡ Some verdict.Allowed
allowed a x None b is m = absurd (m.0.0 is)
allowed a x (Some v) b is m = ap Some (open_allowed a is x v m.0)

stays : (a : Admission) (x : Arrival) (v : Option Verdict) (b : Admission) → IsOpen a → Meets a x v b → b ≡ a
stays a x None b is m = absurd (m.0.0 is)
stays a x (Some v) b is m = m.1 ∙ open_judged a is x v m.0

pub record All (cases : List Case) : Type 0 where
  pub sent : datagrams (admitted cases) ≡ arrived cases
  pub none : refusals cases ≡ []
  pub no_failure : unsent cases ≡ 0

no_refusal : (c : Case) (cases : List Case) (b : Bool) → c.fails ≡ b → c.verdict ≡ Some verdict.Allowed
    → (refusals (c ∷ cases) ≡ refusals cases) × (unsent (c ∷ cases) ≡ unsent cases)
no_refusal c cases true f is = (rw (is, f) refl, rw (is, f) refl)
no_refusal c cases false f is = (rw (is, f) refl, rw (is, f) refl)

all_more : (c : Case) (cases : List Case) → c.verdict ≡ Some verdict.Allowed → All cases → All (c ∷ cases)
all_more c cases is all =
    let none = no_refusal c cases c.fails refl is in record {
      sent = rw is (ap (λ l. c.came ∷ l) all.sent);
      none = none.0 ∙ all.none;
      no_failure = none.1 ∙ all.no_failure;
    }

all : (a : Admission) (earlier : ℕ) (cases : List Case) (b : Admission) → IsOpen a → AreJudged a earlier cases b → All cases
all a earlier [] b is are = record { sent = refl; none = refl; no_failure = refl }
all a earlier (c ∷ cases) b is are =
    let P : Admission → Type 0 = λ d. IsOpen d in
    let judged = are.1 in
    all_more c cases (allowed a judged.arrival c.verdict are.0 is judged.meets)
    (all are.0 c.moment cases b (subst P (sym (stays a judged.arrival c.verdict are.0 is judged.meets)) is) are.2)

pub open_all : OpenHearsAll
open_all a b cases old new end is are = let l = all a 0 cases b is are.judged in (l.sent, l.none, l.no_failure)
