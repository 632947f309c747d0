-- Who was judged, and what came of it, one datagram after the other.
use Rattle.std.proofs.Common.{◌≡◌, ⊎_elim, ℕ, ◌≤◌, ◌+◌, Bool, true, false, List, [], ◌∷◌, ◌++◌, length, Option, Some, None, refl, ap, sym, ◌∙◌, subst, arith, length-append}
use Rattle.std.specs.List.{filter}
use Rattle.std.proofs.lemmas.List.{append-nil, map-append}
use Rattle.std.proofs.lemmas.List.Elements.{filter-append, filter_map-append}
use Rattle.sip_text.specs.declared.address.Addr.{Addr}
use Rattle.transport.specs.Devices.{rises}
use Rattle.transport.specs.declared.datagram.Datagram.{Datagram}
use Rattle.transport.specs.Wires.{Grows}
use Rattle.feeds.proofs.Telling.{grows_none, grows_more}
use Rattle.feeds.proofs.Emitting.{rises_more}
use Rattle.feeds.specs.declared.hearing.Heard.{Heard}
use Rattle.std.specs.Prelude.{MatchBool, not}
use Rattle.notifier_model.specs.declared.event.Event.{Event}
use Rattle.crew.specs.Ports.{PortSeats}
use Rattle.feeds.specs.declared.hearing.Heard.TheVariants as heard
use Rattle.feeds.specs.declared.feeding.Told.TheVariants as told
use Rattle.feeds.specs.Fed.{Log, Sends, Misses}
use Rattle.admission.specs.declared.judging.Admission.{Admission}
use Rattle.admission.specs.declared.judging.Verdict.{Verdict}
use Rattle.admission.specs.declared.judging.Verdict.TheVariants as verdict
use Rattle.feeds.specs.Heard.{SipSays}
use Rattle.admission.specs.declared.judging.Arrival.{Arrival}
use Rattle.service.specs.Admitted.{Case, PassesOn, IsRead, Meets, IsJudged, AreJudged, arrived, allows, is_allowed, said, admitted, refusal, refusal_in, Refuses, sent, refusals, fails, unsent, AreRefused}

abbrev pub case : Datagram → Heard → ℕ → Option Verdict → Bool → Case
case d h moment v failed = record { came = d; says = h; moment = moment; verdict = v; fails = failed }

-- ---- the admission, case by case

-- when the last of them was judged
abbrev pub moment_after : ℕ → List Case → ℕ
moment_after earlier [] = earlier
moment_after earlier (c ∷ cases) = moment_after c.moment cases

pub moment_more : (earlier : ℕ) (cases : List Case) (c : Case) → moment_after earlier (cases ++ c ∷ []) ≡ c.moment
moment_more earlier [] c = refl
moment_more earlier (x ∷ cases) c = moment_more x.moment cases c

pub judged_more : (a : Admission) (earlier : ℕ) (cases : List Case) (b : Admission) (c : Case) (d : Admission) → AreJudged a earlier cases b
    → IsJudged b (moment_after earlier cases) c d → AreJudged a earlier (cases ++ c ∷ []) d
judged_more a earlier [] b c d same is = let P : Admission → Type 0 = λ x. IsJudged x earlier c d in (d, subst P same is, refl)
judged_more a earlier (x ∷ cases) b c d are is = (are.0, are.1, judged_more are.0 x.moment cases b c d are.2 is)

-- ---- what came of them

pub arrived_more : (cases : List Case) (c : Case) → arrived (cases ++ c ∷ []) ≡ arrived cases ++ c.came ∷ []
arrived_more cases c = map-append (λ (c : Case). c.came) cases (c ∷ [])

admitted_both : (cases : List Case) (c : Case) → admitted (cases ++ c ∷ []) ≡ admitted cases ++ admitted (c ∷ [])
admitted_both cases c = filter_map-append said cases (c ∷ [])

pub admitted_more : (cases : List Case) (c : Case) → is_allowed c.verdict ≡ true → admitted (cases ++ c ∷ []) ≡ admitted cases ++ (c.came, c.says) ∷ []
admitted_more cases c is = let one : admitted (c ∷ []) ≡ (c.came, c.says) ∷ [] = rw is refl in admitted_both cases c ∙ ap (λ l. admitted cases ++ l) one

pub admitted_same : (cases : List Case) (c : Case) → is_allowed c.verdict ≡ false → admitted (cases ++ c ∷ []) ≡ admitted cases
admitted_same cases c is =
    let one : admitted (c ∷ []) ≡ [] = rw is refl in
    let none : (l : Log) → l ++ [] ≡ l = append-nil in admitted_both cases c ∙ ap (λ l. admitted cases ++ l) one ∙ none (admitted cases)

refusals_more : (cases : List Case) (c : Case) → refusals (cases ++ c ∷ []) ≡ refusals cases ++ refusals (c ∷ [])
refusals_more cases c = filter_map-append sent cases (c ∷ [])

unsent_more : (cases : List Case) (c : Case) → unsent (cases ++ c ∷ []) ≡ unsent cases + unsent (c ∷ [])
unsent_more cases c = ap length (filter-append fails cases (c ∷ [])) ∙ length-append (filter fails cases) (filter fails (c ∷ []))

-- ---- the wire

pub refused_none : (taken : Option (List Datagram)) (failures : ℕ) → AreRefused [] taken taken failures failures
refused_none taken failures = record { took = grows_none taken; counted = refl }

-- after a datagram that was judged
pub refused_more : {cases : List Case} {taken taken' : Option (List Datagram)} {failures failures' : ℕ} (was : AreRefused cases taken taken' failures failures')
    (c : Case) (after : Option (List Datagram)) (count : ℕ) → Grows taken' after (refusals (c ∷ []))
    → count ≡ rises (unsent (c ∷ [])) failures' → AreRefused (cases ++ c ∷ []) taken after failures count
refused_more {cases = cases} {taken = taken} {taken' = taken'} {failures = failures} was c after count took counted =
    let P : List Datagram → Type 0 = λ l. Grows taken after l in
    let k = unsent (c ∷ []) in record {
      took = subst P (sym (refusals_more cases c)) (grows_more taken taken' after (refusals cases) (refusals (c ∷ [])) was.took took);
      counted = counted ∙ ap (rises k) was.counted ∙ sym (rises_more k (unsent cases) failures)
          ∙ ap (λ n. rises n failures) (let e = unsent_more cases c in omega arith);
    }

-- nothing is sent to who is heard
pub not_refused : (to : Addr) (v : Verdict) → allows v ≡ true → (taken : Option (List Datagram)) (failures : ℕ)
    → Refuses to (refusal v) taken taken failures failures
not_refused to verdict.Allowed is taken failures = (grows_none taken, refl)
not_refused to verdict.Foreign is taken failures = (grows_none taken, refl)
not_refused to verdict.Limited is taken failures = (grows_none taken, refl)
not_refused to (verdict.Large octets) is taken failures = absurd cc
not_refused to (verdict.Barred user octets) is taken failures = absurd cc
not_refused to (verdict.Challenge cause octets) is taken failures = absurd cc
not_refused to (verdict.Guess user octets) is taken failures = absurd cc
not_refused to (verdict.Forbidden octets) is taken failures = absurd cc
not_refused to (verdict.Crowded octets) is taken failures = absurd cc

-- any other verdict than that it is heard
pub not_allowed : (v : Verdict) → (v ≡ verdict.Allowed → ⊥) → allows v ≡ false
not_allowed verdict.Allowed not = absurd (not refl)
not_allowed verdict.Foreign not = refl
not_allowed verdict.Limited not = refl
not_allowed (verdict.Large octets) not = refl
not_allowed (verdict.Barred user octets) not = refl
not_allowed (verdict.Challenge cause octets) not = refl
not_allowed (verdict.Guess user octets) not = refl
not_allowed (verdict.Forbidden octets) not = refl
not_allowed (verdict.Crowded octets) not = refl

-- what the wire took of one, and whether it failed
module _ (d : Datagram) (h : Heard) (moment : ℕ) (old new : Option (List Datagram)) (failures failures' : ℕ) where
  pub one_refused : (v : Option Verdict) → Refuses d.peer (refusal_in v) old new failures failures'
      → (b : Bool) × Grows old new (refusals (case d h moment v b ∷ [])) × (failures' ≡ rises (unsent (case d h moment v b ∷ [])) failures)
  one_refused None is = (false, is.0, is.1)
  one_refused (Some verdict.Allowed) is = (false, is.0, is.1)
  one_refused (Some verdict.Foreign) is = (false, is.0, is.1)
  one_refused (Some verdict.Limited) is = (false, is.0, is.1)
  one_refused (Some (verdict.Large octets)) is = ⊎_elim (λ a. (false, a.0, a.1)) (λ a. (true, a.0, a.1)) is
  one_refused (Some (verdict.Barred user octets)) is = ⊎_elim (λ a. (false, a.0, a.1)) (λ a. (true, a.0, a.1)) is
  one_refused (Some (verdict.Challenge cause octets)) is = ⊎_elim (λ a. (false, a.0, a.1)) (λ a. (true, a.0, a.1)) is
  one_refused (Some (verdict.Guess user octets)) is = ⊎_elim (λ a. (false, a.0, a.1)) (λ a. (true, a.0, a.1)) is
  one_refused (Some (verdict.Forbidden octets)) is = ⊎_elim (λ a. (false, a.0, a.1)) (λ a. (true, a.0, a.1)) is
  one_refused (Some (verdict.Crowded octets)) is = ⊎_elim (λ a. (false, a.0, a.1)) (λ a. (true, a.0, a.1)) is

-- ---- one of them

-- it was judged as the admission was told of it
pub judged_is : (a : Admission) (earlier : ℕ) (d : Datagram) (h : Heard) (x : Arrival) (v : Option Verdict) (b : Admission)
    → SipSays d.peer d.octets h → earlier ≤ x.moment → x.octets.now ≡ d.octets → x.source ≡ d.peer → IsRead h x.reading → Meets a x v b
    → (failed : Bool) → IsJudged a earlier (case d h x.moment v failed) b
judged_is a earlier d h x v b speaks later octets source reads meets failed = record {
  speaks = speaks;
  later = later;
  arrival = x;
  told = record { octets = octets; source = source; moment = refl; reads = reads };
  meets = meets;
}

-- ---- what the port is sent of one

-- nothing, where it isn't allowed
pub passes_none : (v : Option Verdict) (says : Heard) (p : PortSeats) → is_allowed v ≡ false → PassesOn (is_allowed v) says p p false
passes_none v says p e = let P : Bool → Type 0 = λ b. PassesOn b says p p false in subst P (sym e) (refl, refl)

-- its event, where it is
pub passes_sent : (v : Option Verdict) (e : Event) (old new : PortSeats) (sent : Bool) → is_allowed v ≡ true
    → MatchBool sent (Sends old (e ∷ []) new) (Misses old e new) → PassesOn (is_allowed v) (heard.Event e) old new (not sent)
passes_sent v e old new true is did = let P : Bool → Type 0 = λ b. PassesOn b (heard.Event e) old new false in subst P (sym is) (told.Sent, did, refl)
passes_sent v e old new false is did = let P : Bool → Type 0 = λ b. PassesOn b (heard.Event e) old new true in subst P (sym is) (told.Gone, did, refl)
