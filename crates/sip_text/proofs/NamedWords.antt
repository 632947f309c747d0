-- The word of one name among parameters, for a loop that has read some of them.
use Rattle.std.proofs.Common.{◌≡◌, ℕ, zero, suc, ◌<◌, Bool, true, false, ltb, cond, List, [], ◌∷◌, length, Option, Some, None, option_map, refl, sym, ap, ◌∙◌, arith}
use Rattle.std.specs.Option.{is_some}
use Rattle.std.specs.Prelude.{filter}
use Rattle.std.proofs.lemmas.Bool.{lt-ltb}
use Rattle.sip_text.specs.Reading.{◌>>=◌, parameter_at, parameters_at, parameters_of, word_value, word_named}
use Rattle.sip_text.specs.Grammar.{Parameter, has_name}
use Rattle.sip_text.proofs.Lists.{parameters_repeat}
use Rattle.sip_text.proofs.Words.{named_first, named_other}
use Rattle.sip_text.proofs.Repeats.{one_more}

abbrev Word : Type 0
Word = Option (Option (List ℕ))

abbrev said : Option (List ℕ) → Word
said word = Some word

abbrev none : Word
none = None

-- what further parameters say, where this word was found before, or none
abbrev pub among : (ℕ → Bool) → List ℕ → Option (List ℕ) → List Parameter → Word
among p name None ps = word_named p name ps
among p name (Some w) ps = cond {A = Word} (ltb 0 (length (filter (has_name name) ps))) none (said (Some w))

one_less : (n : ℕ) → ltb 1 (suc n) ≡ ltb 0 n
one_less zero = refl
one_less (suc n) = lt-ltb 1 (suc (suc n)) (omega arith) ∙ sym (lt-ltb 0 (suc n) (omega arith))

some_more : (n : ℕ) → ltb 0 (suc n) ≡ true
some_more n = lt-ltb 0 (suc n) (omega arith)

refused : (b : Bool) → cond {A = Word} b none none ≡ none
refused true = refl
refused false = refl

module _ (p : ℕ → Bool) (name : List ℕ) where
  abbrev pub rest_says : Option (List ℕ) → Option (List Parameter) → Word
  rest_says word read = read >>= among p name word

  none_left : (word : Option (List ℕ)) → among p name word [] ≡ said word
  none_left None = refl
  none_left (Some w) = refl

  module _ (x : Parameter) where
    passes : (word : Option (List ℕ)) → has_name name x ≡ false → (ps : List Parameter) → among p name word (x ∷ ps) ≡ among p name word ps
    passes None other ps = named_other p name x ps other
    passes (Some w) other ps = rw other refl

    finds : (w : List ℕ) → has_name name x ≡ true → word_value p (Some x) ≡ said (Some w) → (ps : List Parameter) → among p name None (x ∷ ps) ≡ among p name (Some w) ps
    finds w same is ps =
        named_first p name x ps same ∙ ap (λ (b : Bool). cond {A = Word} b none (word_value p (Some x))) (one_less (length (filter (has_name name) ps)))
        ∙ ap (λ (v : Word). cond {A = Word} (ltb 0 (length (filter (has_name name) ps))) none v) is

    breaks : has_name name x ≡ true → word_value p (Some x) ≡ none → (ps : List Parameter) → among p name None (x ∷ ps) ≡ none
    breaks same is ps =
        named_first p name x ps same ∙ ap (λ (v : Word). cond {A = Word} (ltb 1 (suc (length (filter (has_name name) ps)))) none v) is
        ∙ refused (ltb 1 (suc (length (filter (has_name name) ps))))

    repeats : (w : List ℕ) → has_name name x ≡ true → (ps : List Parameter) → among p name (Some w) (x ∷ ps) ≡ none
    repeats w same ps = rw same (ap (λ (b : Bool). cond {A = Word} b none (said (Some w))) (some_more (length (filter (has_name name) ps))))

    after : (word word' : Option (List ℕ)) (o : Option (List Parameter)) → ((ps : List Parameter) → among p name word (x ∷ ps) ≡ among p name word' ps) → rest_says word (o >>= λ ps. Some (x ∷ ps)) ≡ rest_says word' o
    after word word' None h = refl
    after word word' (Some ps) h = h ps

    lost : (word : Option (List ℕ)) (o : Option (List Parameter)) → ((ps : List Parameter) → among p name word (x ∷ ps) ≡ none) → rest_says word (o >>= λ ps. Some (x ∷ ps)) ≡ none
    lost word None h = refl
    lost word (Some ps) h = h ps

  module _ (word : Option (List ℕ)) (t : List ℕ) (total : Word) (so_far : rest_says word (parameters_of t) ≡ total) where
    pub is_done : length t ≡ 0 → total ≡ said word
    unfolding parameters_at
    is_done len = sym so_far ∙ all_read t len where
      all_read : (s : List ℕ) → length s ≡ 0 → rest_says word (parameters_of s) ≡ said word
      all_read [] len = none_left word
      all_read (y ∷ ys) len = absurd (omega (arith, len))

    pub no_parameter : 0 < length t → parameter_at t ≡ None → total ≡ none
    unfolding parameters_at
    no_parameter some e = sym so_far ∙ ap (rest_says word) (none_read t some e) where
      none_read : (s : List ℕ) → 0 < length s → parameter_at s ≡ None → parameters_of s ≡ None
      none_read [] some e = absurd (omega (arith, some))
      none_read (y ∷ ys) some e = rw e refl

    module _ (x : Parameter) (r : List ℕ) (is : parameter_at t ≡ Some (x, r)) where
      one : parameters_of t ≡ (parameters_of r >>= λ ps. Some (x ∷ ps))
      one = one_more parameter_at parameters_at parameters_repeat t x r is

      pub goes_past : has_name name x ≡ false → rest_says word (parameters_of r) ≡ total
      goes_past other = sym (ap (rest_says word) one ∙ after x word word (parameters_of r) (passes x word other)) ∙ so_far

      pub finds_word : (w : List ℕ) → word ≡ None → has_name name x ≡ true → word_value p (Some x) ≡ said (Some w) → rest_says (Some w) (parameters_of r) ≡ total
      finds_word w first same found =
          let at : rest_says None (parameters_of t) ≡ rest_says (Some w) (parameters_of r) = ap (rest_says None) one ∙ after x None (Some w) (parameters_of r) (finds x w same found) in
          sym at ∙ ap (λ (o : Option (List ℕ)). rest_says o (parameters_of t)) (sym first) ∙ so_far

      pub no_word : word ≡ None → has_name name x ≡ true → word_value p (Some x) ≡ none → total ≡ none
      no_word first same bad = sym so_far ∙ ap (λ (o : Option (List ℕ)). rest_says o (parameters_of t)) first ∙ ap (rest_says None) one ∙ lost x None (parameters_of r) (breaks x same bad)

      two_words : (w : List ℕ) → word ≡ Some w → has_name name x ≡ true → total ≡ none
      two_words w first same = sym so_far ∙ ap (λ (o : Option (List ℕ)). rest_says o (parameters_of t)) first ∙ ap (rest_says (Some w)) one ∙ lost x (Some w) (parameters_of r) (repeats x w same)

      pub second : {A : Type 0} (seen : A → List ℕ) (held : Option A) → option_map seen held ≡ word → is_some held ≡ true → has_name name x ≡ true → total ≡ none
      second seen None at some same = absurd cc
      second seen (Some w) at some same = two_words (seen w) (sym at) same

pub is_none : {A : Type 0} (seen : A → List ℕ) (held : Option A) → is_some held ≡ false → option_map seen held ≡ None
is_none seen None e = refl
is_none seen (Some w) e = absurd cc
