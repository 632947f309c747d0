-- What is shown of any octets.
use Rattle.std.proofs.Common.{◌≡◌, ℕ, zero, suc, ◌+◌, ◌*◌, ◌/◌, ◌%◌, ◌<◌, ◌≤◌, nat_lt, Bool, true, false, not, ◌&&◌, List, [], ◌∷◌, ◌++◌, length, take, codes, refl, sym, subst, arith, length-append}
use Rattle.std.specs.Prelude.{if◌then◌else◌}
use Rattle.std.specs.List.{flat_map, AllByRecursion}
use Rattle.std.specs.Fmt.{digit_glyph}
use Rattle.std.proofs.lemmas.Fmt.{hex_one_digit}
use Rattle.std.proofs.lemmas.Bool.Decides.{nat_tests}
use Rattle.shown_text.specs.declared.shown.Manner.{Manner}
use Rattle.shown_text.specs.declared.shown.Manner.TheVariants as manner
use Rattle.shown_text.specs.Shown.{is_printable, is_text, is_blank_or_quote, is_plain, hex, shown_octet, dots, shown}
use Rattle.shown_text.specs.Laws.{AreOctets, IsPrintable, IsOneWord, IsShort}

joined : (P : ℕ → Type 0) (xs ys : List ℕ) → AllByRecursion P xs → AllByRecursion P ys → AllByRecursion P (xs ++ ys)
joined P [] ys all more = more
joined P (x ∷ xs) ys all more = (all.0, joined P xs ys all.1 more)

front : (most : ℕ) (octets : List ℕ) → AreOctets octets → AreOctets (take most octets)
front zero octets all = tt
front (suc most) [] all = tt
front (suc most) (x ∷ octets) all = (all.0, front most octets all.1)

left_true : (a b : Bool) → (a && b) ≡ true → a ≡ true
left_true true b h = refl
left_true false b h = absurd cc

right_false : (a b : Bool) → (a && not b) ≡ true → b ≡ false
right_false true false h = refl
right_false true true h = absurd cc
right_false false b h = absurd cc

glyph_is_printable : (d : ℕ) → d < 16 → is_printable (digit_glyph false d) ≡ true
glyph_is_printable d small = grind (arith, nat_tests)

glyph_is_no_blank : (d : ℕ) → d < 16 → is_blank_or_quote (digit_glyph false d) ≡ false
glyph_is_no_blank d small = grind (arith, nat_tests)

hex_is : (octet : ℕ) → octet < 256 → hex octet ≡ digit_glyph false (octet / 16) ∷ digit_glyph false (octet % 16) ∷ []
hex_is octet small = rw (hex_one_digit false (octet / 16) (omega arith), hex_one_digit false (octet % 16) (omega arith)) refl

module _ (P : ℕ → Type 0) (octet : ℕ) (small : octet < 256) (glyph : (d : ℕ) → d < 16 → P (digit_glyph false d)) where
  hex_has : AllByRecursion P (hex octet)
  hex_has =
      subst (AllByRecursion P) (sym (hex_is octet small)) (glyph (octet / 16) (omega arith), (glyph (octet % 16) (omega arith), tt))

-- all that is shown of some octets has a property that each shown octet has, and the dots
module _ (P : ℕ → Type 0) (m : Manner) (one : (octet : ℕ) → octet < 256 → AllByRecursion P (shown_octet m octet)) where
  each : (octets : List ℕ) → AreOctets octets → AllByRecursion P (flat_map (shown_octet m) octets)
  each [] all = tt
  each (x ∷ octets) all = joined P (shown_octet m x) _ (one x all.0) (each octets all.1)

  all_shown : P 46 → (most : ℕ) (octets : List ℕ) → AreOctets octets → AllByRecursion P (shown m most octets)
  all_shown dot most octets all =
      joined P (flat_map (shown_octet m) (take most octets)) (dots most octets) (each (take most octets) (front most octets all)) (at (nat_lt most (length octets))) where
        at : (b : Bool) → AllByRecursion P (if b then codes "..." else [])
        at true = (dot, (dot, (dot, tt)))
        at false = tt

plain_is_printable : (m : Manner) (octet : ℕ) → is_plain m octet ≡ true → is_printable octet ≡ true
plain_is_printable manner.Words octet h = left_true (is_printable octet) _ h
plain_is_printable manner.Word octet h = left_true (is_printable octet) _ (left_true (is_text octet) _ h)

octet_is_printable : (m : Manner) (octet : ℕ) → octet < 256 → AllByRecursion (λ x. is_printable x ≡ true) (shown_octet m octet)
octet_is_printable m octet small = at (is_plain m octet) refl where
  at : (b : Bool) → is_plain m octet ≡ b → AllByRecursion (λ x. is_printable x ≡ true) (if b then octet ∷ [] else codes "\\x" ++ hex octet)
  at true h = (plain_is_printable m octet h, tt)
  at false h = (refl, (refl, hex_has (λ x. is_printable x ≡ true) octet small glyph_is_printable))

octet_is_word : (octet : ℕ) → octet < 256 → AllByRecursion (λ x. is_blank_or_quote x ≡ false) (shown_octet manner.Word octet)
octet_is_word octet small = at (is_plain manner.Word octet) refl where
  at : (b : Bool) → is_plain manner.Word octet ≡ b
      → AllByRecursion (λ x. is_blank_or_quote x ≡ false) (if b then octet ∷ [] else codes "\\x" ++ hex octet)
  at true h = (right_false (is_text octet) _ h, tt)
  at false h = (refl, (refl, hex_has (λ x. is_blank_or_quote x ≡ false) octet small glyph_is_no_blank))

pub is_printable_text : IsPrintable
is_printable_text m most octets all = all_shown (λ x. is_printable x ≡ true) m (octet_is_printable m) refl most octets all

pub is_one_word : IsOneWord
is_one_word most octets all = all_shown (λ x. is_blank_or_quote x ≡ false) manner.Word octet_is_word refl most octets all

octet_is_short : (m : Manner) (octet : ℕ) → octet < 256 → length (shown_octet m octet) ≤ 4
octet_is_short m octet small = at (is_plain m octet) where
  at : (b : Bool) → length (if b then octet ∷ [] else codes "\\x" ++ hex octet) ≤ 4
  at true = omega arith
  at false = subst (λ (h : List ℕ). length (codes "\\x" ++ h) ≤ 4) (sym (hex_is octet small)) (omega arith)

dots_are_short : (most : ℕ) (octets : List ℕ) → length (dots most octets) ≤ 3
dots_are_short most octets = at (nat_lt most (length octets)) where
  at : (b : Bool) → length (if b then codes "..." else []) ≤ 3
  at true = omega arith
  at false = omega arith

front_is_short : (m : Manner) (most : ℕ) (octets : List ℕ) → AreOctets octets → length (flat_map (shown_octet m) (take most octets)) ≤ 4 * most
front_is_short m zero octets all = omega arith
front_is_short m (suc most) [] all = omega arith
front_is_short m (suc most) (x ∷ octets) all =
    let one = octet_is_short m x all.0 in let more = front_is_short m most octets all.1 in
    subst (λ n. n ≤ 4 * suc most) (sym (length-append (shown_octet m x) (flat_map (shown_octet m) (take most octets)))) (omega (arith, one, more))

pub is_short : IsShort
is_short m most octets all =
    let few = front_is_short m most octets all in let three = dots_are_short most octets in
    subst (λ n. n ≤ 4 * most + 3) (sym (length-append (flat_map (shown_octet m) (take most octets)) (dots most octets))) (omega (arith, few, three))
