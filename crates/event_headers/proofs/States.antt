-- A Subscription-State value.
use Rattle.std.proofs.Common.{◌≡◌, ◌<◌, ◌≤◌, ◌+◌, ◌^◌, ℕ, cond, Bool, true, false, List, [], ◌∷◌, Option, Some, None, option_map, refl, sym, ap, subst}
use Rattle.std.specs.Prelude.{◌||◌, codes, nat_lt, nat_le, IfSome}
use Rattle.std.specs.Str.{str_to_ascii_lowercase}
use Rattle.std.specs.Char.{to_ascii_lowercase}
use Rattle.std.specs.List.{list_all}
use Rattle.std.proofs.Common.{arith}
use Rattle.std.proofs.lemmas.Bool.{ltb-true, ltb-false, lt-ltb, le-leb}
use Rattle.std.proofs.lemmas.Bool.Decides.{nat_tests}
use Rattle.sip_text.specs.declared.scan.Class.TheVariants as class
use Rattle.sip_text.specs.Bytes.{is_in, is_one_of, is_within, is_digit}
use Rattle.event_headers.specs.Values.{StateValue}
use Rattle.sip_text.specs.Reading.{◌>>=◌, word_named}
use Rattle.sip_text.specs.Reading.{token_with, is_in_range}
use Rattle.event_headers.specs.HeaderReading.{state_with, state_of, state_fits, seconds_fit, kept_seconds}
use Rattle.sip_text.specs.Grammar.{IsWordNamed, Parameter, number_of, AllPassing}
use Rattle.sip_text.specs.Grammar.{IsToken, IsSmallToken}
use Rattle.event_headers.specs.Headers.{IsState, StateFits, Fits, IsStateValue}
use Rattle.sip_text.proofs.Pieces.{bind_some, some_is, and_both}
use Rattle.sip_text.proofs.Utf8.{token_small}
use Rattle.sip_text.proofs.Words.{named_takes, named_again, digit_small}
use Rattle.sip_text.proofs.Framing.{token_with_takes, token_with_again}

abbrev kept : List ℕ → Option (List ℕ) → Option (List ℕ) → Option (List ℕ) → StateValue
kept word expires reason retry_after = record { word = str_to_ascii_lowercase word; expires = option_map number_of expires; reason = option_map str_to_ascii_lowercase reason; retry_after = option_map number_of retry_after }

abbrev made : StateValue → Option StateValue
made s = Some s

pub state_takes : (t : List ℕ) (s : StateValue) → state_of t ≡ Some s → IsState t s
unfolding state_of state_with
state_takes t s h =
    let b = bind_some (token_with t) (λ x. state_with x.0 x.1) s h in
    let word : List ℕ = b.0.0 in
    let ps : List Parameter = b.0.1 in
    let d = bind_some (word_named (is_in class.Digit) (codes "expires") ps) (λ x. word_named (is_in class.Token) (codes "reason") ps >>= λ y. word_named (is_in class.Digit) (codes "retry-after") ps >>= λ z. made (kept word x y z)) s b.2 in
    let f = bind_some (word_named (is_in class.Token) (codes "reason") ps) (λ y. word_named (is_in class.Digit) (codes "retry-after") ps >>= λ z. made (kept word d.0 y z)) s d.2 in
    let g = bind_some (word_named (is_in class.Digit) (codes "retry-after") ps) (λ z. made (kept word d.0 f.0 z)) s f.2 in
    record {
      word = word;
      parameters = ps;
      expires = d.0;
      reason = f.0;
      retry_after = g.0;
      is = token_with_takes t word ps b.1;
      is_expires = named_takes class.Digit (codes "expires") ps d.0 d.1;
      is_reason = named_takes class.Token (codes "reason") ps f.0 f.1;
      is_retry_after = named_takes class.Digit (codes "retry-after") ps g.0 g.1;
      kept = sym (some_is (kept word d.0 f.0 g.0) s g.2);
    }

pub state_again : (t : List ℕ) (s : StateValue) → IsState t s → state_of t ≡ Some s
unfolding state_of state_with
state_again t s h =
    rw (
      token_with_again t h.word h.parameters h.is,
      named_again class.Digit digit_small (codes "expires") h.parameters h.expires h.is_expires,
      named_again class.Token token_small (codes "reason") h.parameters h.reason h.is_reason,
      named_again class.Digit digit_small (codes "retry-after") h.parameters h.retry_after h.is_retry_after,
      h.kept,
    ) refl

-- ---- whether the numbers fit

seconds_are : (o : Option ℕ) → seconds_fit o ≡ true → IfSome o Fits
seconds_are None h = tt
seconds_are (Some n) h = ltb-true n (2 ^ 32) h

seconds_test : (o : Option ℕ) → IfSome o Fits → seconds_fit o ≡ true
seconds_test None h = refl
seconds_test (Some n) h = lt-ltb n (2 ^ 32) h

pub state_fit : (s : StateValue) → state_fits s ≡ true → StateFits s
state_fit s h = let k = and_both (seconds_fit s.expires) (seconds_fit s.retry_after) h in (seconds_are s.expires k.0, seconds_are s.retry_after k.1)

pub state_large : (s : StateValue) → state_fits s ≡ false → ¬ (StateFits s)
state_large s h = λ k. (let a = seconds_test s.expires k.0 in let b = seconds_test s.retry_after k.1 in let c : state_fits s ≡ true = rw (a, b) refl in absurd cc)

-- seconds that were kept fit
pub kept_is : (o x : Option ℕ) → kept_seconds o ≡ Some x → (x ≡ o) × IfSome o Fits
kept_is None x e = (sym (some_is None x e), tt)
kept_is (Some n) x e = step (is_in_range n) refl e where
  step : (b : Bool) → is_in_range n ≡ b → cond {A = Option (Option ℕ)} b (Some (Some n)) None ≡ Some x → (x ≡ Some n) × (n < 2 ^ 32)
  step true h e = (sym (some_is (Some n) x e), ltb-true n (2 ^ 32) h)
  step false h e = absurd cc

-- ---- small letters

capital_byte : (b : ℕ) → 65 ≤ b → b < 91 → is_in class.Token (b + 32) ≡ true
capital_byte b low high =
    let a : nat_le 97 (b + 32) ≡ true = le-leb 97 (b + 32) (omega (arith, low)) in
    let c : nat_le (b + 32) 122 ≡ true = le-leb (b + 32) 122 (omega (arith, high)) in
    letter (b + 32) (rw (a, c) refl) where
      letter : (x : ℕ) → is_within 97 122 x ≡ true → is_in class.Token x ≡ true
      letter x e = step (is_within 65 90 x) (is_within 97 122 x) e where
        step : (p q : Bool) → q ≡ true → (p || q || is_digit x || is_one_of (codes "-.!%*_+`'~") x) ≡ true
        step true q e = refl
        step false q e = rw e refl

small_byte : (b : ℕ) → is_in class.Token b ≡ true → is_in class.Token (to_ascii_lowercase b) ≡ true
small_byte b e = step (nat_lt b 65) refl (nat_lt b 91) refl where
  step : (p : Bool) → nat_lt b 65 ≡ p → (q : Bool) → nat_lt b 91 ≡ q → is_in class.Token (cond p b (cond q (b + 32) b)) ≡ true
  step true hp q hq = e
  step false hp true hq = capital_byte b (ltb-false b 65 hp) (ltb-true b 91 hq)
  step false hp false hq = e

pub small_passes : (text : List ℕ) → AllPassing (is_in class.Token) text → AllPassing (is_in class.Token) (str_to_ascii_lowercase text)
small_passes [] all = refl
small_passes (x ∷ xs) all = let k = and_both (is_in class.Token x) (list_all (is_in class.Token) xs) all in rw (small_byte x k.0) (small_passes xs k.1)

no_capital : (b : ℕ) → is_in class.Small (to_ascii_lowercase b) ≡ true
no_capital b = grind (arith, nat_tests)

none_capital : (text : List ℕ) → AllPassing (is_in class.Small) (str_to_ascii_lowercase text)
none_capital [] = refl
none_capital (x ∷ xs) = rw (no_capital x) (none_capital xs)

some_small : (text : List ℕ) → (text ≡ [] → ⊥) → str_to_ascii_lowercase text ≡ [] → ⊥
some_small [] h e = h refl
some_small (x ∷ xs) h e = absurd cc

-- a token in small letters
pub small_token : (text : List ℕ) → IsToken text → IsSmallToken (str_to_ascii_lowercase text)
small_token text w = ((small_passes text w.0, some_small text w.1), none_capital text)

small_reason : (ps : List Parameter) (o : Option (List ℕ)) → IsWordNamed class.Token (codes "reason") ps o → IfSome (option_map str_to_ascii_lowercase o) IsSmallToken
small_reason ps None h = tt
small_reason ps (Some v) h = small_token v h.1

-- what a text says is a value, where its numbers fit
pub state_is_value : (t : List ℕ) (s : StateValue) → IsState t s → StateFits s → IsStateValue s
state_is_value t s h fits = (
  subst IsSmallToken (sym (ap (λ (q : StateValue). q.word) h.kept)) (small_token h.word h.is.is_token),
  fits.0,
  subst (λ (o : Option (List ℕ)). IfSome o IsSmallToken) (sym (ap (λ (q : StateValue). q.reason) h.kept)) (small_reason h.parameters h.reason h.is_reason),
  fits.1,
)
