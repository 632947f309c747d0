-- Which texts are tokens: those that pass the tests, and decimal numbers.
use Rattle.std.proofs.Common.{◌≡◌, ◌<◌, ◌^◌, ℕ, true, List, [], ◌∷◌, refl, length, arith}
use Rattle.std.specs.Prelude.{decimal, nat_lt}
use Rattle.std.specs.List.{list_all}
use Rattle.std.proofs.lemmas.Bool.Decides.{nat_tests}
use Rattle.sip_text.specs.declared.scan.Class.TheVariants as class
use Rattle.sip_text.specs.Bytes.{is_in}
use Rattle.sip_text.specs.Grammar.{AllPassing}
use Rattle.sip_text.specs.Grammar.{IsToken}
use Rattle.sip_text.specs.Tokens.{is_token}
use Rattle.sip_text.proofs.Pieces.{and_both}
use Rattle.sip_text.proofs.Numerals.{spelled}

pub token_tested : (text : List ℕ) → is_token text ≡ true → IsToken text
token_tested [] e = absurd (cc)
token_tested (x ∷ xs) e = ((and_both (nat_lt 0 (length (x ∷ xs))) (list_all (is_in class.Token) (x ∷ xs)) e).1, λ empty. absurd (cc))

digit_token : (x : ℕ) → is_in class.Digit x ≡ true → is_in class.Token x ≡ true
digit_token x e = grind (arith, nat_tests)

digits_token : (t : List ℕ) → AllPassing (is_in class.Digit) t → AllPassing (is_in class.Token) t
digits_token [] all = refl
digits_token (x ∷ xs) all = let b = and_both (is_in class.Digit x) (list_all (is_in class.Digit) xs) all in rw (digit_token x b.0) (digits_token xs b.1)

pub decimal_is_token : (n : ℕ) → n < 2 ^ 64 → IsToken (decimal n)
decimal_is_token n small = let s = (spelled n small).0 in (digits_token (decimal n) s.0, s.1)
