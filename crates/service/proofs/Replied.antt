-- Answers of sources that are heard are sent on.
use Rattle.std.proofs.Common.{◌≡◌, ⊎_elim, ℕ, Bool, true, false, true≢false, List, [], ◌∷◌, Option, Some, None, ◌||◌, refl, sym, ap, ◌∙◌, subst}
use Rattle.std.specs.Prelude.{if◌then◌else◌}
use Rattle.std.specs.List.{AllByRecursion}
use Rattle.sip_text.specs.declared.address.Addr.{Addr}
use Rattle.sip_read.specs.declared.message.Request.{Request}
use Rattle.feeds.specs.declared.hearing.Heard.{Heard}
use Rattle.admission.specs.declared.judging.Admission.{Admission}
use Rattle.admission.specs.declared.judging.Arrival.{Arrival}
use Rattle.admission.specs.declared.judging.Reading.{Reading}
use Rattle.admission.specs.declared.judging.Reading.TheVariants as reading
use Rattle.admission.specs.declared.judging.Verdict.{Verdict}
use Rattle.admission.specs.declared.judging.Verdict.TheVariants as verdict
use Rattle.admission.specs.declared.table.Rates.{Rates}
use Rattle.admission.specs.Verdicts.{has_none, is_one_of, hears, is_counted, counting, lets_one, lets, with_rates, behind, asked, answered, oversized, too_large, newcomer, is_full, one_more, after, half_noted}
use Rattle.admission.proofs.Concluding.{noted_networks}
use Rattle.service.specs.Admitted.{Case, IsRead, Meets, IsJudged, AreJudged, is_allowed, IsSentOn, EachAnswerIsSentOn}

-- ---- one answer

-- it takes no token
answer_lets : (a : Admission) (x : Arrival) → x.reading ≡ reading.Response → lets a x ≡ true
answer_lets a x is = ap (λ (y : Reading). lets_one (if is_counted y x.octets.now then a.rates else None) x) is

-- and is no further subscription
answer_none : (a : Admission) (x : Arrival) → x.reading ≡ reading.Response → one_more a x ≡ None
answer_none a x is = ap (λ (y : Reading). if is_full a x.live then newcomer y else None) is ∙ either (is_full a x.live)
  where
    either : (d : Bool) → (if d then newcomer reading.Response else None) ≡ None
    either true = refl
    either false = refl

-- nor is it asked who it is from
unasked : (x : Arrival) (r : Request) → x.reading ≡ reading.Response → asked x.reading ≡ Some r → ⊥
unasked x r is asks = let none : None ≡ Some r = sym (ap (λ (y : Reading). asked y) is) ∙ asks in cc

-- nor is it too large
answer_small : (a : Admission) (x : Arrival) → x.reading ≡ reading.Response → too_large a x ≡ None
answer_small a x is = ap (λ (y : Reading). oversized a.max_texts (answered y)) is

answer_allowed : (a : Admission) (x : Arrival) (v : Option Verdict) (b : Admission) → x.reading ≡ reading.Response → hears a x.source.ip ≡ true → Meets a x v b
    → is_allowed v ≡ true
answer_allowed a x None b is near m = absurd (m.0.2 is)
answer_allowed a x (Some verdict.Allowed) b is near m = refl
answer_allowed a x (Some verdict.Foreign) b is near m = absurd (true≢false (sym near ∙ m.0))
answer_allowed a x (Some verdict.Limited) b is near m = absurd (true≢false (sym (answer_lets a x is) ∙ m.0.1))
answer_allowed a x (Some (verdict.Large octets)) b is near m =
    let none : None ≡ Some m.0.2.0 = sym (answer_small a x is) ∙ m.0.2.1 in absurd (cc)
answer_allowed a x (Some (verdict.Barred user octets)) b is near m = absurd (unasked x m.0.1.request is m.0.1.asked.1)
answer_allowed a x (Some (verdict.Challenge c octets)) b is near m = absurd (unasked x m.0.2.request is m.0.2.asked.1)
answer_allowed a x (Some (verdict.Guess user octets)) b is near m = absurd (unasked x m.0.2.request is m.0.2.asked.1)
answer_allowed a x (Some (verdict.Forbidden octets)) b is near m = absurd (unasked x m.0.2.request is m.0.2.asked.1)
answer_allowed a x (Some (verdict.Crowded octets)) b is near m =
    let none : None ≡ Some m.0.3.0 = sym (answer_none a x is) ∙ m.0.3.1 in absurd (cc)

-- ---- the networks stay

networks_behind : (a : Admission) (x : Arrival) → (behind a x).networks ≡ a.networks
networks_behind a x =
    let either : (o : Option Rates) → (with_rates a o x).networks ≡ a.networks = elim [ None ↦ refl | Some r ↦ refl ] in either (counting a x)

networks_after : (a : Admission) (x : Arrival) → (after a x).networks ≡ a.networks
networks_after a x =
    let either : (d : Bool) → (if d then behind a x else a).networks ≡ a.networks = elim [ true ↦ networks_behind a x | false ↦ refl ] in
    either (hears a x.source.ip)

networks_next : (a : Admission) (x : Arrival) (v : Option Verdict) (b : Admission) → Meets a x v b → b.networks ≡ a.networks
networks_next a x None b m =
    let P : Admission → Type 0 = λ d. d.networks ≡ a.networks in
    ⊎_elim (λ (e : b ≡ a). subst P (sym e) refl) (λ more. ⊎_elim (λ (e : b ≡ after a x). subst P (sym e) (networks_after a x))
    (λ (e : b ≡ half_noted (after a x) x). subst P (sym e) (networks_after a x)) more) m.1
networks_next a x (Some v) b m =
    let P : Admission → Type 0 = λ d. d.networks ≡ a.networks in
    subst P (sym m.1) (noted_networks (after a x) x v ∙ networks_after a x)

hears_alike : (a b : Admission) (ip : List ℕ) → b.networks ≡ a.networks → hears b ip ≡ hears a ip
hears_alike a b ip same = ap (λ n. has_none n.items || is_one_of n.items ip) same

-- ---- all of them

sent_on : (first a : Admission) (earlier : ℕ) (c : Case) (b : Admission) → a.networks ≡ first.networks → IsJudged a earlier c b → IsSentOn first c
sent_on first a earlier c b same judged r says near =
    let x = judged.arrival in
    let R : Heard → Type 0 = λ h. IsRead h x.reading in
    let is : x.reading ≡ reading.Response = subst R says judged.told.reads in
    let here : hears a x.source.ip ≡ true = ap (λ (s : Addr). hears a s.ip) judged.told.source ∙ hears_alike first a c.came.peer.ip same ∙ near in
    answer_allowed a x c.verdict b is here judged.meets

each : (first a : Admission) (earlier : ℕ) (cases : List Case) (b : Admission) → a.networks ≡ first.networks → AreJudged a earlier cases b → AllByRecursion (IsSentOn first) cases
each first a earlier [] b same are = tt
each first a earlier (c ∷ cases) b same are =
    let judged = are.1 in
    (sent_on first a earlier c are.0 same judged, each first are.0 c.moment cases b (networks_next a judged.arrival c.verdict are.0 judged.meets ∙ same) are.2)

pub each_sent_on : EachAnswerIsSentOn
each_sent_on a b cases old new end are = each a a 0 cases b refl are.judged
