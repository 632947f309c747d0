-- Call-ID and CSeq.
use Rattle.std.proofs.Common.{◌≡◌, ℕ, ◌<◌, ◌^◌, Bool, true, false, ltb, cond, List, [], ◌∷◌, ◌++◌, length, Option, Some, None, refl, sym, ap, subst, ◌∙◌, arith, eqb}
use Rattle.std.specs.List.{list_all}
use Rattle.std.proofs.lemmas.Bool.{ltb-true, lt-ltb}
use Rattle.std.proofs.lemmas.Bool.Decides.{nat_tests}
use Rattle.std.proofs.lemmas.List.{append-nil}
use Rattle.sip_text.specs.declared.scan.Class.TheVariants as class
use Rattle.sip_text.specs.Bytes.{is_in, is_space}
use Rattle.sip_text.specs.Reading.{◌>>=◌, span_at, all_of, text_of, word_of}
use Rattle.sip_text.specs.Grammar.{Stops, IsWord, number_of}
use Rattle.sip_text.proofs.Pieces.{bind_some, some_is, and_both, span_takes, span_again, nonempty_length, length_nonempty, NoSpace, not_of_space, word_stops_spaces}
use Rattle.sip_text.proofs.Utf8.{text_taken, text_again, text_from_ascii, token_small}
use Rattle.sip_text.proofs.Words.{word_takes, word_again}
use Rattle.sip_read.specs.declared.value.Sequence.{Sequence}
use Rattle.sip_read.specs.Calls.{is_visible, IsCallId, IsSequence}
use Rattle.sip_read.specs.ValuesComputed.{call_id_of, sequence_of}

abbrev found : {A : Type 0} → A → Option A
found x = Some x

visible_small : (x : ℕ) → is_visible x ≡ true → x < 128
visible_small x e = grind (arith, nat_tests)

pub call_id_takes : (t v : List ℕ) → call_id_of t ≡ Some v → (v ≡ t) × IsCallId t
unfolding call_id_of
call_id_takes t v e =
    let b = bind_some (all_of is_visible t) (λ w. text_of w) v e in
    step b.0 (list_all is_visible t) (eqb (length t) 0) refl refl b.1 (text_taken b.0 v b.2).0 where
      step : (w : List ℕ) (b d : Bool) → list_all is_visible t ≡ b → eqb (length t) 0 ≡ d → cond b (cond d None (found t)) None ≡ Some w → v ≡ w → (v ≡ t) × IsCallId t
      step w true true a z e same = absurd cc
      step w true false a z e same = (same ∙ sym (some_is t w e), (a, length_nonempty t (length t) z refl))
      step w false d a z e same = absurd cc

pub call_id_again : (t : List ℕ) → IsCallId t → call_id_of t ≡ Some t
unfolding call_id_of
call_id_again t h = rw (h.0, nonempty_length t h.1, text_again t (text_from_ascii is_visible visible_small t h.0)) refl

-- a word that stands before spaces, and spaces before a word
digit : NoSpace (is_in class.Digit)
digit = record { sp = refl; ht = refl }

token : NoSpace (is_in class.Token)
token = record { sp = refl; ht = refl }

spaces_stop_digits : (x r : List ℕ) → IsWord class.Space x → Stops (is_in class.Digit) (x ++ r)
spaces_stop_digits [] r w = absurd (w.1 refl)
spaces_stop_digits (z ∷ x) r w = not_of_space (is_in class.Digit) digit z (and_both (is_space z) (list_all is_space x) w.0).0

pub sequence_takes : (t : List ℕ) (s : Sequence) → sequence_of t ≡ Some s → IsSequence t s
unfolding sequence_of
sequence_takes t s e =
    let rest3 = λ (digits : List ℕ) (m : List ℕ). cond (ltb (number_of digits) (2 ^ 31)) (found (record { number = number_of digits; method = m })) None in
    let b = bind_some (span_at (is_in class.Digit) t) (λ d. span_at (is_in class.Space) d.1 >>= λ g. word_of (is_in class.Token) g.1 >>= λ m. rest3 d.0 m) s e in
    let d = bind_some (span_at (is_in class.Space) b.0.1) (λ g. word_of (is_in class.Token) g.1 >>= λ m. rest3 b.0.0 m) s b.2 in
    let f = bind_some (word_of (is_in class.Token) d.0.1) (λ m. rest3 b.0.0 m) s d.2 in
    let one = span_takes class.Digit t b.0.0 b.0.1 b.1 in
    let two = span_takes class.Space b.0.1 d.0.0 d.0.1 d.1 in
    let three = word_takes class.Token d.0.1 f.0 f.1 in
    made b.0.0 d.0.0 f.0 (one.0 ∙ ap (λ (l : List ℕ). b.0.0 ++ l) (two.0 ∙ ap (λ (l : List ℕ). d.0.0 ++ l) (sym three.0))) one.1 two.1 (subst (IsWord class.Token) (sym three.0) three.1) (ltb (number_of b.0.0) (2 ^ 31)) refl f.2 where
      made : (digits gap m : List ℕ) → t ≡ digits ++ (gap ++ m) → IsWord class.Digit digits → IsWord class.Space gap → IsWord class.Token m → (q : Bool) → ltb (number_of digits) (2 ^ 31) ≡ q → cond q (found (record { number = number_of digits; method = m })) None ≡ Some s → IsSequence t s
      made digits gap m whole a g w true small e =
          subst (IsSequence t) (some_is (record { number = number_of digits; method = m }) s e)
          (record { digits = digits; gap = gap; are_digits = a; are_spaces = g; method = w; number = refl; small = ltb-true _ _ small; whole = whole })
      made digits gap m whole a g w false large e = absurd cc

pub sequence_again : (t : List ℕ) (s : Sequence) → IsSequence t s → sequence_of t ≡ Some s
unfolding sequence_of
sequence_again t s h =
    let small : ltb (number_of h.digits) (2 ^ 31) ≡ true = lt-ltb _ _ (rw (← h.number) h.small) in
    rw (
      h.whole,
      span_again (is_in class.Digit) h.digits (h.gap ++ s.method) h.are_digits.0 h.are_digits.1 (spaces_stop_digits h.gap s.method h.are_spaces),
      span_again (is_in class.Space) h.gap s.method h.are_spaces.0 h.are_spaces.1 (subst (Stops is_space) (append-nil s.method) (word_stops_spaces (is_in class.Token) token s.method [] h.method.0 h.method.1)),
      word_again class.Token token_small s.method h.method,
      small,
      ← h.number,
    ) refl
