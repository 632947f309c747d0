-- Summary lines, one behind the other.
use Rattle.std.proofs.Common.{◌≡◌, ◌<◌, ◌-◌, ℕ, zero, suc, true, false, List, Result, Ok, Err, refl, ap, sym, ◌∙◌, arith}
use Rattle.package.specs.declared.counts.MailCounts.{MailCounts}
use Rattle.summary_bodies.specs.declared.error.SummaryError.{SummaryError}
use Rattle.summary_bodies.specs.declared.error.SummaryError.TheVariants as error
use Rattle.summary_bodies.specs.Summaries.{◌>>=◌, is_end, line_after, lines_after}

pub lines_end : (n : ℕ) (t : List ℕ) (m : MailCounts) → is_end t ≡ true → lines_after n t m ≡ Ok m
unfolding lines_after
lines_end zero t m e = rw e refl
lines_end (suc n) t m e = rw e refl

pub lines_none : (n : ℕ) (t : List ℕ) (m : MailCounts) → is_end t ≡ false → n ≡ 0 → lines_after n t m ≡ Err error.Twice
unfolding lines_after
lines_none zero t m e z = rw e refl
lines_none (suc n) t m e z = absurd (omega (arith, z))

pub lines_bad : (n : ℕ) (t : List ℕ) (m : MailCounts) (wrong : SummaryError) → is_end t ≡ false → 0 < n → line_after t m ≡ Err wrong
    → lines_after n t m ≡ Err wrong
unfolding lines_after
lines_bad zero t m wrong e some is = absurd (omega (arith, some))
lines_bad (suc n) t m wrong e some is = rw (e, is) refl

pub lines_more : (n : ℕ) (t : List ℕ) (m m' : MailCounts) (rest : List ℕ) → is_end t ≡ false → 0 < n → line_after t m ≡ Ok (m', rest)
    → lines_after n t m ≡ lines_after (n - 1) rest m'
unfolding lines_after
lines_more zero t m m' rest e some is = absurd (omega (arith, some))
lines_more (suc n) t m m' rest e some is =
    let same : suc n - 1 ≡ n = omega arith in
    let goes : lines_after (suc n) t m ≡ lines_after n rest m' = rw (e, is) refl in
    goes ∙ sym (ap (λ (k : ℕ). lines_after k rest m') same)
