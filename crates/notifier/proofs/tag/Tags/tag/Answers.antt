use Rattle.std.proofs.Common.{◌≡◌, ◌∙◌, ℕ, List, [], Result, Ok, Err, sym, ap, subst, arith}
use Rattle.std.specs.Prelude.{MatchResult, codes}
use Rattle.std.specs.Result.{result_unwrap_or}
use Rattle.std.specs.Str.{IsAscii, IsUtf8}
use Rattle.std.proofs.lemmas.Grind.{common_steps}
use Rattle.std.proofs.lemmas.Str.{IsUtf8-from_ascii}
use Rattle.std.proofs.lemmas.Str.Ascii.{IsAscii-nil, IsAscii-cons}
use Rattle.hex.specs.Hex.{encode_lower, lower_digits}
use Rattle.hex.proofs.HexLemmas.{IsAscii-encode_with}
use Rattle.notifier_model.specs.Tag.{local_tag, tag_bytes}
use Rattle.notifier.proofs.tag.Tags.tag.Goals as goal

ascii_digits : IsAscii lower_digits
ascii_digits =
    IsAscii-cons 48 (codes "123456789abcdef") (omega arith)
    (IsAscii-cons 49 (codes "23456789abcdef") (omega arith)
    (IsAscii-cons 50 (codes "3456789abcdef") (omega arith)
    (IsAscii-cons 51 (codes "456789abcdef") (omega arith)
    (IsAscii-cons 52 (codes "56789abcdef") (omega arith)
    (IsAscii-cons 53 (codes "6789abcdef") (omega arith)
    (IsAscii-cons 54 (codes "789abcdef") (omega arith)
    (IsAscii-cons 55 (codes "89abcdef") (omega arith)
    (IsAscii-cons 56 (codes "9abcdef") (omega arith)
    (IsAscii-cons 57 (codes "abcdef") (omega arith)
    (IsAscii-cons 97 (codes "bcdef") (omega arith)
    (IsAscii-cons 98 (codes "cdef") (omega arith)
    (IsAscii-cons 99 (codes "def") (omega arith)
    (IsAscii-cons 100 (codes "ef") (omega arith)
    (IsAscii-cons 101 (codes "f") (omega arith)
    (IsAscii-cons 102 [] (omega arith) IsAscii-nil)))))))))))))))

-- what is a text is read as it
unwrapped : {S E : Type 0} (now : S → List ℕ) (Other : E → Type 0) (r : Result S E) (default : S) (bytes : List ℕ) → MatchResult r (λ s. (now s ≡ bytes) × IsUtf8 bytes) (λ e. (IsUtf8 bytes → ⊥) × Other e) → IsUtf8 bytes → now (result_unwrap_or r default) ≡ bytes
unwrapped now Other (Ok s) default bytes m u = m.0
unwrapped now Other (Err e) default bytes m u = absurd (m.0 u)

pub returns : goal.returns
unfolding local_tag
returns c =
    let bytes = tag_bytes c.args.place.now.seed c.args.place.now.worker c.args.serial in
    let ascii : IsAscii (encode_lower bytes) = IsAscii-encode_with lower_digits bytes ascii_digits in
    let utf8 : IsUtf8 c.digits-digits.result = subst IsUtf8 (sym c.digits-digits.ensures) (IsUtf8-from_ascii (encode_lower bytes) ascii) in
    let text : c.unwrap_or-digits.result.now ≡ encode_lower bytes =
    ap (λ s. s.now) c.unwrap_or-digits.ensures ∙ unwrapped (λ s. s.now) _ c.from_utf8.result _ c.digits-digits.result c.from_utf8.ensures.cases utf8 ∙ c.digits-digits.ensures in
    grind (arith, common_steps)
