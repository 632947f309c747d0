-- How a page goes on.
use Rattle.std.proofs.Common.{◌≡◌, ℕ, zero, suc, ◌+◌, ◌≤◌, List, [], ◌∷◌, ◌++◌, Bool, true, false, cond, Option, Some, None, refl, sym, ap, ◌∙◌, subst, length, drop, slice_get, arith, add-one}
use Rattle.package.specs.declared.counts.MailCounts.{MailCounts}
use Rattle.control_lines.specs.Told.{Row}
use Rattle.control_lines.specs.Pages.{told_lines, fits, more_line, page_with, dump_text}

pub none_left : (rows : List Row) (n : ℕ) → slice_get rows n ≡ None → drop n rows ≡ []
none_left [] zero e = refl
none_left [] (suc n) e = refl
none_left (row ∷ rows) zero e = absurd cc
none_left (row ∷ rows) (suc n) e = none_left rows n e

pub none_behind : (rows : List Row) (n : ℕ) → length rows ≤ n → drop n rows ≡ []
none_behind [] zero low = refl
none_behind [] (suc n) low = refl
none_behind (row ∷ rows) zero low = absurd (omega (arith, low))
none_behind (row ∷ rows) (suc n) low = none_behind rows n (omega (arith, low))

one_more : (rows : List Row) (n : ℕ) (row : Row) → slice_get rows n ≡ Some row → drop n rows ≡ row ∷ drop (suc n) rows
one_more [] zero row e = absurd cc
one_more [] (suc n) row e = absurd cc
one_more (x ∷ rows) zero row e = let same : x ≡ row = cc in ap (λ r. r ∷ rows) same
one_more (x ∷ rows) (suc n) row e = one_more rows n row e

module _ (rows : List Row) (from n : ℕ) (page last : List ℕ) (so_far : page_with page last (drop n rows) ≡ dump_text rows from) where
  pub page_whole : drop n rows ≡ [] → page ≡ dump_text rows from
  page_whole e = sym (ap (page_with page last) e) ∙ so_far

  module _ (row : Row) (is : slice_get rows n ≡ Some row) where
    stands : page_with page last (row ∷ drop (suc n) rows) ≡ dump_text rows from
    stands = sym (ap (page_with page last) (one_more rows n row is)) ∙ so_far

    pub page_full : fits page (told_lines row.0 row.1) ≡ false → page ++ more_line last ≡ dump_text rows from
    page_full e = sym (ap (λ b. cond b (page_with (page ++ told_lines row.0 row.1) row.0 (drop (suc n) rows)) (page ++ more_line last)) e) ∙ stands

    pub page_more : fits page (told_lines row.0 row.1) ≡ true → page_with (page ++ told_lines row.0 row.1) row.0 (drop (n + 1) rows) ≡ dump_text rows from
    page_more e =
        ap (λ k. page_with (page ++ told_lines row.0 row.1) row.0 (drop k rows)) (add-one n)
        ∙ sym (ap (λ b. cond b (page_with (page ++ told_lines row.0 row.1) row.0 (drop (suc n) rows)) (page ++ more_line last)) e) ∙ stands
