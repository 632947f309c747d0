-- What looks like a range.
use Rattle.std.proofs.Common.{◌≡◌, ℕ, Bool, true, false, List, length, Option, Some, None, refl, sym, ap, ◌∙◌}
use Rattle.std.specs.Prelude.{◌↔◌, IsTrue, ◌&&◌, nat_lt}
use Rattle.std.specs.List.{list_all}
use Rattle.std.specs.Char.{is_ascii_digit}
use Rattle.sip_text.specs.Reading.{cut_at}
use Rattle.sip_text.proofs.Cuts.{Lacks, cut_takes, cut_again, all_lacks}
use Rattle.sip_text.proofs.Pieces.{and_both}
use Rattle.arguments.specs.NumberRanges.{are_digits, LooksLikeRange}

-- whether what is cut at a `-` is digits and digits
abbrev both_digits : Option (List ℕ × List ℕ) → Bool
both_digits None = false
both_digits (Some cut) = are_digits cut.0 && are_digits cut.1

digits_lack : (text : List ℕ) → are_digits text ≡ true → Lacks 45 text
digits_lack text all = all_lacks is_ascii_digit 45 refl text (and_both (nat_lt 0 (length text)) (list_all is_ascii_digit text) all).1

looks : (text : List ℕ) → both_digits (cut_at 45 text) ≡ true → LooksLikeRange text
looks text all = step (cut_at 45 text) refl all where
  step : (o : Option (List ℕ × List ℕ)) → cut_at 45 text ≡ o → both_digits o ≡ true → LooksLikeRange text
  step None is all = absurd cc
  step (Some cut) is all =
      let both = and_both (are_digits cut.0) (are_digits cut.1) all in
      record { front = cut.0; back = cut.1; whole = (cut_takes 45 text cut.0 cut.1 is).0; from = both.0; to = both.1 }

looks_again : (text : List ℕ) → LooksLikeRange text → both_digits (cut_at 45 text) ≡ true
looks_again text h =
    ap both_digits (ap (cut_at 45) h.whole ∙ cut_again 45 h.front h.back (digits_lack h.front h.from))
    ∙ ap (λ b. b && are_digits h.back) h.from
    ∙ h.to

-- found at a cut
pub looks_cut : (text front back : List ℕ) (b : Bool) → cut_at 45 text ≡ Some (front, back) → b ≡ (are_digits front && are_digits back) → IsTrue b ↔ LooksLikeRange text
looks_cut text front back b cut is = (
  λ h. looks text (ap both_digits cut ∙ sym is ∙ h),
  λ h. is ∙ ap both_digits (sym cut) ∙ looks_again text h,
)

pub looks_uncut : (text : List ℕ) → cut_at 45 text ≡ None → IsTrue false ↔ LooksLikeRange text
looks_uncut text cut = (λ h. absurd cc, λ h. ap both_digits (sym cut) ∙ looks_again text h)
