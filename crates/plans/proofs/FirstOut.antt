-- The first number that is out of its range.
use Rattle.std.proofs.Common.{◌≡◌, ℕ, suc, ◌+◌, ◌<◌, ◌≤◌, List, [], ◌∷◌, ◌++◌, length, get_or, take, drop, refl, sym, ap, ◌∙◌, subst, arith}
use Rattle.std.specs.List.{All, AllByRecursion}
use Rattle.std.proofs.Math.Seq.{drop-cons, take-length}
use Rattle.std.proofs.lemmas.List.{take-append-drop}
use Rattle.std.proofs.lemmas.List.Elements.{All-head, All-tail, All-from_recursion}
use Rattle.notifier_model.specs.Limits.{AreLimits}
use Rattle.arguments.specs.declared.choices.Numbers.{Numbers}
use Rattle.plans.specs.declared.ranged.Ranged.{Ranged}
use Rattle.plans.specs.Plans.{limits_of}
use Rattle.plans.specs.Ranges.{ranges, Fits, IsFirstOut}

-- the one at this place, where those before it fit
pub first_at : (ranges : List Ranged) (at : ℕ) (d : Ranged) → at < length ranges → All Fits (take at ranges) → ¬ (Fits (get_or ranges at d)) → IsFirstOut ranges (get_or ranges at d)
first_at ranges at d lt fit out = record {
  before = take at ranges;
  behind = drop (suc at) ranges;
  stands = sym (take-append-drop at ranges) ∙ ap (λ l. take at ranges ++ l) (drop-cons ranges at d lt);
  fit = fit;
  out = out;
}

-- those up to the last place are all
pub all_at : (ranges : List Ranged) (at : ℕ) → at ≤ length ranges → length ranges ≤ at → All Fits (take at ranges) → All Fits ranges
all_at ranges at le ge fit =
    let last : at ≡ length ranges = omega (arith, le, ge) in
    subst (All Fits) (ap (λ n. take n ranges) last ∙ take-length ranges) fit

each : (ranges : List Ranged) → All Fits ranges → AllByRecursion Fits ranges
each [] fit = tt
each (r ∷ ranges) fit = (All-head Fits r ranges fit, each ranges (All-tail Fits r ranges fit))

-- numbers that are all in their ranges are limits
pub are_limits : (n : Numbers) → All Fits (ranges n) → AreLimits (limits_of n)
are_limits n fit =
    let times = each (ranges n) fit in let counts = times.1.1.1.1 in
    record {
      min_time = times.0;
      max_time = times.1.0;
      default_time = times.1.1.0;
      refer_time = times.1.1.1.0;
      max_cseq = counts.0;
      table = counts.1.0;
      serials = counts.1.1.0;
      kept = counts.1.1.1.0;
      inbox = counts.1.1.1.1.0;
      outbox = counts.1.1.1.1.1.0;
    }

all_fit : (n : Numbers) → AreLimits (limits_of n) → All Fits (ranges n)
all_fit n are =
    All-from_recursion Fits (ranges n)
    (are.min_time, (are.max_time, (are.default_time, (are.refer_time, (are.max_cseq, (are.table, (are.serials, (are.kept, (are.inbox, (are.outbox, tt))))))))))

one_fits : (before behind : List Ranged) (r : Ranged) → All Fits (before ++ r ∷ behind) → Fits r
one_fits [] behind r fit = All-head Fits r behind fit
one_fits (x ∷ before) behind r fit = one_fits before behind r (All-tail Fits x (before ++ r ∷ behind) fit)

-- where one is out of its range they are none
pub are_none : (n : Numbers) (r : Ranged) → IsFirstOut (ranges n) r → ¬ (AreLimits (limits_of n))
are_none n r first = λ are. first.out (one_fits first.before first.behind r (subst (All Fits) first.stands (all_fit n are)))
