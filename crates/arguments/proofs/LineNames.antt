-- What a line of a file of mailboxes names.
use Rattle.std.proofs.Common.{◌≡◌, ℕ, zero, suc, ◌+◌, ◌/◌, ◌%◌, ◌<◌, ◌≤◌, inr, Bool, true, false, List, [], ◌∷◌, length, refl, sym, ap, subst, ◌∙◌, arith}
use Rattle.std.specs.Prelude.{◌↔◌, IsTrue, ◌&&◌, not, ◌==◌, nat_lt, Result, Ok, Err, IfOk}
use Rattle.std.specs.List.{All, list_all}
use Rattle.std.proofs.lemmas.Bool.Decides.{nat_tests}
use Rattle.std.proofs.lemmas.List.Elements.{All-map}
use Rattle.std.proofs.lemmas.List.Folds.{list_all-append}
use Rattle.sip_text.specs.Reading.{begins}
use Rattle.arguments.specs.NumberRanges.{numeral}
use Rattle.arguments.specs.Settings.{IsMailbox}
use Rattle.arguments.specs.MailboxFile.{IsBlank, IsRange}
use Rattle.arguments.proofs.Numerals.{length-numeral}

-- what holds of each digit holds of a number's
numeral_all : (p : ℕ → Bool) → ((d : ℕ) → d < 10 → p (48 + d) ≡ true) → (w n : ℕ) → list_all p (numeral w n) ≡ true
numeral_all p each zero n = refl
numeral_all p each (suc w) n =
    list_all-append p (numeral w (n / 10)) ((48 + n % 10) ∷ [])
    ∙ ap (λ b. b && (p (48 + n % 10) && true)) (numeral_all p each w (n / 10))
    ∙ ap (λ b. b && true) (each (n % 10) (omega arith))

not_begun : (text : List ℕ) → list_all (λ b. not (b == 45)) text ≡ true → begins 45 text ≡ false
not_begun [] h = refl
not_begun (x ∷ xs) h = step (x == 45) h where
  step : (b : Bool) → (not b && list_all (λ b. not (b == 45)) xs) ≡ true → b ≡ false
  step true h = absurd cc
  step false h = refl

-- a number names a mailbox
numeral_mailbox : (w n : ℕ) → 1 ≤ w → IsMailbox (numeral w n)
numeral_mailbox w n some =
    let long = length-numeral w n in
    let full : nat_lt 0 (length (numeral w n)) ≡ true = grind (arith, nat_tests) in
    record {
      word = rw full (numeral_all (λ b. nat_lt 32 b && not (b == 127)) (λ d small. grind (arith, nat_tests)) w n);
      user = numeral_all (λ b. not (b == 64) && not (b == 58)) (λ d small. grind (arith, nat_tests)) w n;
      no_option = not_begun (numeral w n) (numeral_all (λ b. not (b == 45)) (λ d small. grind (arith, nat_tests)) w n);
    }

each_mailbox : (w : ℕ) → 1 ≤ w → (ns : List ℕ) → All (λ n. IsMailbox (numeral w n)) ns
each_mailbox w some ns = λ k d below. numeral_mailbox w _ some

pub range_mailboxes : (line : List ℕ) (names : List (List ℕ)) → IsRange line names → All IsMailbox names
range_mailboxes line names r =
    subst (All IsMailbox) (sym r.numbers)
    (All-map IsMailbox (numeral r.width) _ (each_mailbox r.width r.range.from.some _))

pub ranges_mailboxes : {X E : Type 0} (view : X → List (List ℕ)) (line : List ℕ) (r : Result X E) → IfOk r (λ x. IsRange line (view x)) → IfOk r (λ x. All IsMailbox (view x))
ranges_mailboxes view line (Ok x) h = range_mailboxes line (view x) h
ranges_mailboxes view line (Err e) h = tt

pub no_comment : (line : List ℕ) → ¬ (IsBlank line) → begins 35 line ≡ false
no_comment line full = step (begins 35 line) refl where
  step : (b : Bool) → begins 35 line ≡ b → b ≡ false
  step false is = refl
  step true is = absurd (full (inr is))

-- a test that failed
pub never : (b : Bool) (P : Type 0) → IsTrue b ↔ P → b ≡ false → ¬ P
never b P same is holds = absurd (clash (sym is ∙ same.1 holds)) where
  clash : false ≡ true → ⊥
  clash e = absurd cc
