-- What the words say, word by word.
use Rattle.std.proofs.Common.{◌≡◌, ℕ, List, [], ◌∷◌, ◌++◌, length, drop, get_or, ◌+◌, ◌<◌, ◌≤◌, Option, Some, None, Result, Ok, Err, refl, sym, ap, ◌∙◌, append_assoc}
use Rattle.std.proofs.lemmas.List.{append-nil, drop_more, drop_all}
use Rattle.arguments.specs.declared.flag.Flag.{Flag}
use Rattle.arguments.specs.declared.setting.Setting.{Setting}
use Rattle.arguments.specs.declared.error.OptionsError.{OptionsError}
use Rattle.arguments.specs.declared.error.OptionsError.TheVariants as error
use Rattle.arguments.specs.Reading.{flag_named, valued, alone, then_more, by_flag, settings_from, with_front, Reads}

-- ---- the loop over the words

regroup : (front : List Setting) (s : Setting) (read : Result (List Setting) OptionsError) → with_front front (then_more (Ok s) read) ≡ with_front (front ++ s ∷ []) read
regroup front s (Ok more) = ap (λ (l : List Setting). Ok l) (sym (append_assoc front (s ∷ []) more))
regroup front s (Err e) = refl

-- a word that is the value of the option that waits for it
pub value_goes_on : (front : List Setting) (f : Flag) (word : List ℕ) (words : List (List ℕ)) (s : Setting) (total : Result (List Setting) OptionsError) → valued f word ≡ Ok s
    → with_front front (settings_from (Some f) (word ∷ words)) ≡ total → with_front (front ++ s ∷ []) (settings_from None words) ≡ total
unfolding settings_from
value_goes_on front f word words s total e so_far =
    sym (regroup front s (settings_from None words)) ∙ ap (λ r. with_front front (then_more r (settings_from None words))) (sym e) ∙ so_far

-- a word that stands alone
pub word_goes_on : (front : List Setting) (word : List ℕ) (words : List (List ℕ)) (s : Setting) (total : Result (List Setting) OptionsError) → flag_named word ≡ None → alone word ≡ Ok s
    → with_front front (settings_from None (word ∷ words)) ≡ total → with_front (front ++ s ∷ []) (settings_from None words) ≡ total
unfolding settings_from
word_goes_on front word words s total none e so_far =
    sym (regroup front s (settings_from None words)) ∙ sym (ap (λ o. with_front front (by_flag o (alone word) (λ waiting. settings_from waiting words))) none
    ∙ ap (λ r. with_front front (then_more r (settings_from None words))) e) ∙ so_far

-- a word that is an option, which waits for its value
pub flag_goes_on : (front : List Setting) (word : List ℕ) (words : List (List ℕ)) (f : Flag) (total : Result (List Setting) OptionsError) → flag_named word ≡ Some f
    → with_front front (settings_from None (word ∷ words)) ≡ total → with_front front (settings_from (Some f) words) ≡ total
unfolding settings_from
flag_goes_on front word words f total is so_far = sym (ap (λ o. with_front front (by_flag o (alone word) (λ waiting. settings_from waiting words))) is) ∙ so_far

pub bad_value : (front : List Setting) (f : Flag) (word : List ℕ) (words : List (List ℕ)) (e : OptionsError) (total : Result (List Setting) OptionsError) → valued f word ≡ Err e
    → with_front front (settings_from (Some f) (word ∷ words)) ≡ total → total ≡ Err e
unfolding settings_from
bad_value front f word words e total is so_far = sym so_far ∙ ap (λ r. with_front front (then_more r (settings_from None words))) is

pub bad_word : (front : List Setting) (word : List ℕ) (words : List (List ℕ)) (e : OptionsError) (total : Result (List Setting) OptionsError) → flag_named word ≡ None → alone word ≡ Err e
    → with_front front (settings_from None (word ∷ words)) ≡ total → total ≡ Err e
unfolding settings_from
bad_word front word words e total none is so_far =
    sym so_far ∙ ap (λ o. with_front front (by_flag o (alone word) (λ waiting. settings_from waiting words))) none ∙ ap (λ r. with_front front (then_more r (settings_from None words))) is

-- an error of a piece that is that of the whole
pub fails_too : (e : OptionsError) (piece : Result Setting OptionsError) (total : Result (List Setting) OptionsError) → (piece ≡ Err e → total ≡ Err e)
    → Reads (λ (x : Setting). x) (Err e) piece → Reads (λ (x : List Setting). x) (Err e) total
fails_too error.NoMemory piece total go h = tt
fails_too (error.Missing f) piece total go h = go h
fails_too (error.Bad f) piece total go h = go h
fails_too (error.Unknown w) piece total go h = go h
fails_too (error.NoMailbox w) piece total go h = go h
fails_too (error.NoRange w) piece total go h = go h

pub at_the_end : (front : List Setting) (total : Result (List Setting) OptionsError) → with_front front (settings_from None []) ≡ total → total ≡ Ok front
unfolding settings_from
at_the_end front total so_far = sym so_far ∙ ap (λ (l : List Setting). Ok l) (append-nil front)

pub waits_at_the_end : (front : List Setting) (f : Flag) (total : Result (List Setting) OptionsError) → with_front front (settings_from (Some f) []) ≡ total → total ≡ Err (error.Missing f)
unfolding settings_from
waits_at_the_end front f total so_far = sym so_far

-- the words from this place on
pub at_word : (front : List Setting) (o : Option Flag) (words : List (List ℕ)) (i : ℕ) (word : List ℕ) (total : Result (List Setting) OptionsError) → i < length words → word ≡ get_or words i word
    → with_front front (settings_from o (drop i words)) ≡ total → with_front front (settings_from o (word ∷ drop (i + 1) words)) ≡ total
at_word front o words i word total low is so_far =
    ap (λ l. with_front front (settings_from o l)) (sym (drop_more words i word low ∙ ap (λ x. x ∷ drop (i + 1) words) (sym is))) ∙ so_far

pub past_words : (front : List Setting) (o : Option Flag) (words : List (List ℕ)) (i : ℕ) (total : Result (List Setting) OptionsError) → length words ≤ i
    → with_front front (settings_from o (drop i words)) ≡ total → with_front front (settings_from o []) ≡ total
past_words front o words i total high so_far = ap (λ l. with_front front (settings_from o l)) (sym (drop_all i words high)) ∙ so_far
