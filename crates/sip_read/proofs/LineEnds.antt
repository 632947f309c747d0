-- Where a line ends: at the first CR, if each byte before that may stand in a line.
use Rattle.std.proofs.Common.{◌≡◌, ℕ, ◌<◌, ◌≤◌, Bool, true, false, eqb, List, [], ◌∷◌, length, take, drop, get_or, None, refl, sym, ap, ◌∙◌, arith, inl, inr}
use Rattle.std.specs.List.{list_all, prefix_len}
use Rattle.std.proofs.Math.Bool.{or_comm}
use Rattle.std.proofs.Math.Seq.{drop-cons}
use Rattle.std.proofs.lemmas.Bool.{cases_lt, ne_eqb, eq-eqb, eqb-true}
use Rattle.std.proofs.lemmas.List.{get_or-take, length-take-le, length-drop}
use Rattle.std.proofs.lemmas.List.Elements.{All-from_get_or}
use Rattle.std.proofs.lemmas.List.Folds.{list_all_at}
use Rattle.std.proofs.lemmas.List.Sums.{list_all-from_AllPass, prefix_len_is, prefix_len_passes}
use Rattle.httparse.specs.Grammar.{is_value_byte}
use Rattle.sip_text.specs.Bytes.{is_line_byte}
use Rattle.sip_text.specs.Reading.{after_byte}

-- a header's value of HTTP is made of the bytes of a line
same_bytes : (b : ℕ) → is_value_byte b ≡ is_line_byte b
same_bytes b = or_comm (eqb b 9) _

each : (t : List ℕ) → list_all is_value_byte t ≡ true → (k : ℕ) → k < length t → is_line_byte (get_or t k 0) ≡ true
each t all k lt = step (is_line_byte (get_or t k 0)) refl where
  step : (b : Bool) → is_line_byte (get_or t k 0) ≡ b → b ≡ true
  step true e = refl
  step false e = let none : list_all is_value_byte t ≡ false = list_all_at is_value_byte t k 0 lt (same_bytes (get_or t k 0) ∙ e) in absurd cc

-- no CR stands behind the bytes of a line
no_end : (t : List ℕ) → (prefix_len is_line_byte t < length t → get_or t (prefix_len is_line_byte t) 0 ≡ 13 → ⊥) → after_byte 13 (drop (prefix_len is_line_byte t) t) ≡ None
no_end t apart = step (drop (prefix_len is_line_byte t) t) refl where
  step : (r : List ℕ) → drop (prefix_len is_line_byte t) t ≡ r → after_byte 13 r ≡ None
  step [] e = refl
  step (x ∷ xs) e =
      let p : ℕ = prefix_len is_line_byte t in
      let lt : p < length t = omega (arith, length-drop p t, ap length e) in
      let head : get_or t p 0 ≡ x = cc (drop-cons t p 0 lt, e) in
      let other : eqb x 13 ≡ false = ne_eqb x 13 (λ is. apart lt (head ∙ is)) in
      rw other refl

-- no CR before n
abbrev pub NoneBefore : List ℕ → ℕ → Type 0
NoneBefore t n = (k : ℕ) → 0 ≤ k → k < n → eqb (get_or t k 0) 13 ≡ true → ⊥

-- no CR at all
pub ends_nowhere : (t : List ℕ) → NoneBefore t (length t) → after_byte 13 (drop (prefix_len is_line_byte t) t) ≡ None
ends_nowhere t none = no_end t (λ lt is. none (prefix_len is_line_byte t) (omega arith) lt (eq-eqb _ 13 is))

-- a byte that stands in no line before the first CR
pub broken_before : (t : List ℕ) (n : ℕ) → n < length t → NoneBefore t n → list_all is_value_byte (take n t) ≡ false → after_byte 13 (drop (prefix_len is_line_byte t) t) ≡ None
broken_before t n lt none broken = elim (cases_lt (prefix_len is_line_byte t) n) [
  | inl before ↦ no_end t (λ h is. none (prefix_len is_line_byte t) (omega arith) before (eq-eqb _ 13 is))
  | inr behind ↦ absurd (whole behind)
] where
  whole : n ≤ prefix_len is_line_byte t → ⊥
  whole le =
      let long : length (take n t) ≡ n = length-take-le n t (omega arith) in
      let at : (k : ℕ) → k < length (take n t) → is_value_byte (get_or (take n t) k 0) ≡ true = λ k h. (
      let small : k < n = omega arith in
      rw (get_or-take n t k 0 small) (same_bytes (get_or t k 0) ∙ prefix_len_passes is_line_byte t k 0 (omega arith))) in
      let all : list_all is_value_byte (take n t) ≡ true = list_all-from_AllPass is_value_byte (take n t) (All-from_get_or (λ x. is_value_byte x ≡ true) (take n t) 0 at) in
      cc

-- the first CR behind bytes of a line
pub ends_at : (t : List ℕ) (n : ℕ) → n < length t → eqb (get_or t n 0) 13 ≡ true → list_all is_value_byte (take n t) ≡ true → n ≡ prefix_len is_line_byte t
ends_at t n lt cr all =
    let long : length (take n t) ≡ n = length-take-le n t (omega arith) in
    let before : (k : ℕ) → k < n → is_line_byte (get_or t k 0) ≡ true = λ k h. rw (← get_or-take n t k 0 h) (each (take n t) all k (omega arith)) in
    let at : n < length t → is_line_byte (get_or t n 0) ≡ false = λ h. rw (eqb-true (get_or t n 0) 13 cr) refl in
    sym (prefix_len_is is_line_byte t n 0 (omega arith) before at)

pub ruleset line_ends = (ends_nowhere, broken_before, ends_at)
