-- An admission that asks nothing.
use Rattle.std.proofs.Common.{◌≡◌, ℕ, Bool, true, false, List, Option, Some, None, refl, sym, ap, ◌∙◌}
use Rattle.std.specs.Prelude.{◌||◌, if◌then◌else◌}
use Rattle.sip_read.specs.declared.message.Request.{Request}
use Rattle.admission.specs.declared.table.Rates.{Rates}
use Rattle.admission.specs.declared.judging.Admission.{Admission}
use Rattle.admission.specs.declared.judging.Arrival.{Arrival}
use Rattle.admission.specs.declared.judging.Verdict.{Verdict}
use Rattle.admission.specs.declared.judging.Verdict.TheVariants as verdict
use Rattle.admission.specs.Verdicts.{IsOpen, has_none, is_one_of, hears, is_counted, counting, lets_one, lets, with_rates, behind, newcomer, is_most, one_more, answered, oversized, too_large, IsUnbarred, IsFree, Judges, IsAllowed, after, judged}

none_over : (o : Option Request) → oversized None o ≡ None
none_over None = refl
none_over (Some r) = refl

module _ (a : Admission) (is : IsOpen a) where
  pub open_hears : (ip : List ℕ) → hears a ip ≡ true
  open_hears ip = let none : has_none a.networks.items ≡ true = rw is.anywhere refl in ap (λ b. b || is_one_of a.networks.items ip) none

  pub open_counts : (x : Arrival) → counting a x ≡ None
  open_counts x = let either : (b : Bool) → (if b then a.rates else None) ≡ None = elim [ true ↦ is.any_rate | false ↦ refl ] in either (is_counted x.reading x.octets.now)

  pub open_lets : (x : Arrival) → lets a x ≡ true
  open_lets x = ap (λ (o : Option Rates). lets_one o x) (open_counts x)

  pub open_asks : (x : Arrival) → IsFree a x
  open_asks x k r asked = let none = is.anyone in let some = asked.0 in absurd cc

  pub open_weighs : (x : Arrival) → too_large a x ≡ None
  open_weighs x = ap (λ (most : Option ℕ). oversized most (answered x.reading)) is.any_size ∙ none_over (answered x.reading)

  pub open_bars : (x : Arrival) → IsUnbarred a x
  open_bars x k r c asked shows = let none = is.anyone in let some = asked.0 in absurd cc

  pub open_seats : (x : Arrival) → one_more a x ≡ None
  open_seats x = ap (λ (most : Option ℕ). if is_most most x.live then newcomer x.reading else None) is.unlimited

  pub open_allows : (x : Arrival) → IsAllowed a x
  open_allows x = (record { near = open_hears x.source.ip; seldom = open_lets x; small = open_weighs x }, open_bars x, open_asks x, open_seats x)

  pub open_stays : (x : Arrival) → after a x ≡ a
  open_stays x =
      ap (λ b. if b then behind a x else a) (open_hears x.source.ip) ∙ ap (λ (o : Option Rates). with_rates a o x) (open_counts x)

  -- each verdict is that it is heard
  pub open_allowed : (x : Arrival) (v : Verdict) → Judges a x v → v ≡ verdict.Allowed
  open_allowed x verdict.Allowed j = refl
  open_allowed x verdict.Foreign j = let near = open_hears x.source.ip in absurd cc
  open_allowed x verdict.Limited j = let seldom = open_lets x in let not = j.1 in absurd cc
  open_allowed x (verdict.Large octets) j = let none = open_weighs x in let some = j.2.1 in absurd cc
  open_allowed x (verdict.Barred user octets) j = let none = is.anyone in let some = j.1.asked.0 in absurd cc
  open_allowed x (verdict.Challenge c octets) j = let none = is.anyone in let some = j.2.asked.0 in absurd cc
  open_allowed x (verdict.Guess user octets) j = let none = is.anyone in let some = j.2.asked.0 in absurd cc
  open_allowed x (verdict.Forbidden octets) j = let none = is.anyone in let some = j.2.asked.0 in absurd cc
  open_allowed x (verdict.Crowded octets) j = let none = open_seats x in let some = j.3.1 in absurd cc

  -- and it leaves all as it was
  pub open_judged : (x : Arrival) (v : Verdict) → Judges a x v → judged a x v ≡ a
  open_judged x v j = ap (λ (w : Verdict). judged a x w) (open_allowed x v j) ∙ open_stays x
