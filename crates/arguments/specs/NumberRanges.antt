-- Numbers from one to another, each in as many digits: 1000-1999.
--
--   range = first "-" last      ; 1 to 18 digits each, both as many
use Rattle.std.specs.Prelude.{◌≡◌, ℕ, zero, suc, ◌+◌, ◌-◌, ◌/◌, ◌%◌, ◌^◌, ◌<◌, ◌≤◌, Bool, true, ◌&&◌, nat_lt, List, [], ◌∷◌, ◌++◌, length, map}
use Rattle.std.specs.Char.{is_ascii_digit}
use Rattle.std.specs.List.{list_all, range_with_len}
use Rattle.std.specs.Str.{byte}

-- the last digits of a number in decimal, so many
abbrev pub numeral : ℕ → ℕ → List ℕ
numeral zero n = []
numeral (suc width) n = numeral width (n / 10) ++ (byte "0" + n % 10) ∷ []

-- the numbers from one to another, each in so many digits
abbrev pub numerals : ℕ → ℕ → ℕ → List (List ℕ)
numerals width first last = map (numeral width) (range_with_len first (last + 1 - first))

-- the text is this number in these digits, from 1 to 18
pub record IsNumeral (text : List ℕ) (width n : ℕ) : Type 0 where
  pub some : 1 ≤ width
  pub few : width ≤ 18
  pub fits : n < 10 ^ width
  pub written : text ≡ numeral width n

-- the text has these two halves, with a `-` between
pub record AreHalves (text front back : List ℕ) : Type 0 where
  pub whole : text ≡ front ++ byte "-" ∷ back
  pub even : length back ≡ length front

-- the text says from which number to which, each in so many digits
pub record IsNumberRange (text : List ℕ) (width first last : ℕ) : Type 0 where
  pub front : List ℕ
  pub back : List ℕ
  pub halves : AreHalves text front back
  pub from : IsNumeral front width first
  pub to : IsNumeral back width last

-- one digit or more
abbrev pub are_digits : List ℕ → Bool
are_digits text = nat_lt 0 (length text) && list_all is_ascii_digit text

-- it looks like a range: digits before a `-` and digits behind it, however many
pub record LooksLikeRange (text : List ℕ) : Type 0 where
  pub front : List ℕ
  pub back : List ℕ
  pub whole : text ≡ front ++ byte "-" ∷ back
  pub from : are_digits front ≡ true
  pub to : are_digits back ≡ true

-- one number or more, and no more than a million
pub record IsFair (first last : ℕ) : Type 0 where
  pub upwards : first ≤ last
  pub few : last < first + 1000000
