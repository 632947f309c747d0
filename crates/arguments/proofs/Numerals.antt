-- Numbers in so many digits.
use Rattle.std.proofs.Common.{◌≡◌, ℕ, zero, suc, ◌+◌, ◌-◌, ◌*◌, ◌/◌, ◌%◌, ◌<◌, ◌≤◌, ◌^◌, Bool, true, false, List, [], ◌∷◌, ◌++◌, length, take, drop, get_or, refl, sym, ap, subst, ◌∙◌, arith, length-append}
use Rattle.std.specs.Prelude.{nat_lt, Option, None, Some, IfNone}
use Rattle.std.proofs.Math.Numerals.{add-one}
use Rattle.std.proofs.Math.Seq.{take-append_seam, drop-append_seam}
use Rattle.std.specs.Char.{is_ascii_digit}
use Rattle.std.proofs.Math.ListN.{get_or-append}
use Rattle.std.proofs.Math.Nat.{pow-le-pow_right}
use Rattle.std.proofs.lemmas.Bool.Decides.{nat_tests}
use Rattle.std.proofs.lemmas.List.{take_more, get_or-append_right}
use Rattle.std.proofs.lemmas.Grind.{pow_more}
use Rattle.arguments.specs.NumberRanges.{numeral, AreHalves, IsNumeral, IsNumberRange}

pub length-numeral : (w n : ℕ) → length (numeral w n) ≡ w
length-numeral zero n = refl
length-numeral (suc w) n = let e = length-numeral w (n / 10) in omega (arith, length-append (numeral w (n / 10)) ((48 + n % 10) ∷ []))

-- one digit more
numeral_more : (w n d : ℕ) → d < 10 → numeral (w + 1) (n * 10 + d) ≡ numeral w n ++ (48 + d) ∷ []
numeral_more w n d small =
    let front : (n * 10 + d) / 10 ≡ n = omega arith in
    let last : (n * 10 + d) % 10 ≡ d = omega arith in
    rw (add-one, front, last) refl

pub digit_is : (d : ℕ) → d < 10 → is_ascii_digit (48 + d) ≡ true
digit_is d small = grind (arith, nat_tests)

-- each of its bytes is a digit
pub numeral_digit : (w n i : ℕ) → i < w → is_ascii_digit (get_or (numeral w n) i 0) ≡ true
numeral_digit zero n i below = absurd (omega (arith, below))
numeral_digit (suc w) n i below = step (λ h. numeral_digit w (n / 10) i h) (nat_lt i w) refl where
  front : List ℕ
  front = numeral w (n / 10)

  in_front : i < w → get_or (front ++ (48 + n % 10) ∷ []) i 0 ≡ get_or front i 0
  in_front h = get_or-append front ((48 + n % 10) ∷ []) 0 i (let e = length-numeral w (n / 10) in omega arith)

  at_end : i ≡ w → get_or (front ++ (48 + n % 10) ∷ []) i 0 ≡ 48 + n % 10
  at_end h = get_or-append_right front ((48 + n % 10) ∷ []) w i 0 (length-numeral w (n / 10)) (omega arith) ∙ ap (λ k. get_or ((48 + n % 10) ∷ []) k 0) (let z : i - w ≡ 0 = omega arith in z)

  step : (i < w → is_ascii_digit (get_or (numeral w (n / 10)) i 0) ≡ true) → (b : Bool) → nat_lt i w ≡ b → is_ascii_digit (get_or (front ++ (48 + n % 10) ∷ []) i 0) ≡ true
  step before true is = let h : i < w = grind (arith, nat_tests) in ap is_ascii_digit (in_front h) ∙ before h
  step before false is = let h : i ≡ w = grind (arith, nat_tests) in ap is_ascii_digit (at_end h) ∙ digit_is (n % 10) (omega arith)

pub no_numeral : (ds : List ℕ) (w n i : ℕ) → ds ≡ numeral w n → i < w → is_ascii_digit (get_or ds i 0) ≡ false → ⊥
no_numeral ds w n i is below other = clash (sym (ap (λ l. is_ascii_digit (get_or l i 0)) is ∙ numeral_digit w n i below) ∙ other) where
  clash : true ≡ false → ⊥
  clash e = absurd cc

-- a power of ten below 18
pub ten_to : (i : ℕ) → i < 18 → 10 ^ i ≤ 100000000000000000
ten_to i below = pow-le-pow_right {n = 10} (omega arith) {i = i} {j = 17} (omega arith)

pub digit_small : (b : ℕ) → is_ascii_digit b ≡ true → (48 ≤ b) × (b < 58)
digit_small b is = grind (arith, nat_tests)

pub digits_more : (ds : List ℕ) (i n : ℕ) → i < length ds → take i ds ≡ numeral i n → is_ascii_digit (get_or ds i 0) ≡ true → take (i + 1) ds ≡ numeral (i + 1) (n * 10 + (get_or ds i 0 - 48))
digits_more ds i n below written digit =
    let small = digit_small (get_or ds i 0) digit in
    let d = get_or ds i 0 - 48 in
    let back : 48 + d ≡ get_or ds i 0 = omega (arith, small.0) in
    take_more ds i 0 below ∙ ap (λ l. l ++ get_or ds i 0 ∷ []) written ∙ ap (λ b. numeral i n ++ b ∷ []) (sym back) ∙ sym (numeral_more i n d (omega (arith, small.1)))

pub fits_more : (i n d : ℕ) → n < 10 ^ i → d < 10 → n * 10 + d < 10 ^ (i + 1)
fits_more i n d fits small = rw (pow_more 10 i) (omega arith)

-- ---- halves

-- a text has one pair of halves
pub same_halves : (text front back front' back' : List ℕ) → AreHalves text front back → AreHalves text front' back' → (front ≡ front') × (back ≡ back')
same_halves text front back front' back' h h' =
    let joined : front ++ 45 ∷ back ≡ front' ++ 45 ∷ back' = sym h.whole ∙ h'.whole in
    let long : length front ≡ length front' = omega (arith, length-append front (45 ∷ back), length-append front' (45 ∷ back'), ap length joined, h.even, h'.even) in
    let fronts : front ≡ front' = sym (take-append_seam front (45 ∷ back)) ∙ ap (take (length front)) joined ∙ ap (λ k. take k (front' ++ 45 ∷ back')) long ∙ take-append_seam front' (45 ∷ back') in
    let backs : ◌≡◌ {A = List ℕ} (45 ∷ back) (45 ∷ back') = sym (drop-append_seam front (45 ∷ back)) ∙ ap (drop (length front)) joined ∙ ap (λ k. drop k (front' ++ 45 ∷ back')) long ∙ drop-append_seam front' (45 ∷ back') in
    (fronts, cc)

-- the halves of a range are its numbers
pub range_halves : (text front back : List ℕ) (w n m : ℕ) → AreHalves text front back → IsNumberRange text w n m → IsNumeral front w n × IsNumeral back w m
range_halves text front back w n m h r =
    let same = same_halves text r.front r.back front back r.halves h in
    (subst (λ f. IsNumeral f w n) same.0 r.from, subst (λ f. IsNumeral f w m) same.1 r.to)

pub numeral_long : (text : List ℕ) (w n : ℕ) → IsNumeral text w n → length text ≡ w
numeral_long text w n is = ap length is.written ∙ length-numeral w n

pub if_none : {X : Type 0} {P : Type 0} (r : Option X) → P → IfNone r P
if_none None p = p
if_none (Some x) p = tt

below_most : (w n : ℕ) → w ≤ 18 → n < 10 ^ w → n < 1000000000000000000
below_most w n few fits = let ten = pow-le-pow_right {n = 10} (omega arith) {i = w} {j = 18} few in omega (arith, fits, ten)

pub numeral_small : (text : List ℕ) (w n : ℕ) → IsNumeral text w n → n < 1000000000000000000
numeral_small text w n is = below_most w n is.few is.fits
