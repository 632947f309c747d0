-- What the first workers counted.
use Rattle.std.proofs.Common.{◌≡◌, ℕ, ◌+◌, ◌<◌, ◌≤◌, List, length, get_or, set, refl, sym, ◌∙◌, subst, arith, below_more}
use Rattle.std.proofs.lemmas.List.{get_or-set_same, get_or-set_other, length-set}
use Rattle.crew.specs.declared.report.WorkerReport.{WorkerReport}
use Rattle.server.specs.declared.work.Work.{Work}
use Rattle.server.specs.Crew.{Counts, AreCounted}

-- those before at are counted, the others are as they were
pub record CountedFront (at : ℕ) (reports : List WorkerReport) (old new : List Work) : Type 0 where
  pub counted : AreCounted at reports old new
  pub rest : (k : ℕ) (work : Work) → at ≤ k → get_or new k work ≡ get_or old k work

pub none_yet : (reports : List WorkerReport) (works : List Work) → CountedFront 0 reports works works
none_yet reports works = record {
  counted = record { len = refl; each = λ k report work low. absurd (omega arith) };
  rest = λ k work past. refl;
}

pub one_more : (at : ℕ) (reports : List WorkerReport) (old works : List Work) (report : WorkerReport) (was now : Work) → at < length works → at < length reports
    → ((r : WorkerReport) → report ≡ get_or reports at r) → ((w : Work) → was ≡ get_or works at w) → Counts report was now
    → CountedFront at reports old works → CountedFront (at + 1) reports old (set works at now)
one_more at reports old works report was now in_works in_reports report_is was_is counts front = record {
  counted = record {
    len = length-set works at now ∙ front.counted.len;
    each = λ k r w low.
        let P : ℕ → Type 0 = λ j. Counts (get_or reports j r) (get_or old j w) (get_or (set works at now) j w) in
        below_more P at
        (λ j less. subst (λ x. Counts (get_or reports j r) (get_or old j w) x) (sym (get_or-set_other works at j now w (omega arith))) (front.counted.each j r w less))
        (subst (λ x. Counts (get_or reports at r) (get_or old at w) x) (sym (get_or-set_same works at now w in_works))
        (subst (λ x. Counts x (get_or old at w) now) (report_is r)
        (subst (λ x. Counts report x now) (was_is w ∙ front.rest at w (omega arith)) counts)))
        k low;
  };
  rest = λ k w past. get_or-set_other works at k now w (omega arith) ∙ front.rest k w (omega arith);
}
