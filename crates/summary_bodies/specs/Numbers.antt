-- How a line counts messages (RFC 3842 section 5.2), behind its class and the colon.
--
--   counts   = msgcount SLASH msgcount [LPAREN msgcount SLASH msgcount RPAREN]   ; new / old (urgent new / urgent old)
--   msgcount = 1*DIGIT                                                           ; at most 2^32 - 1
--   SLASH    = WS "/" WS                                                         ; LPAREN and RPAREN alike; WS: SP and HT
use Rattle.std.specs.Prelude.{ℕ, ◌^◌, min, List, length, ◌==◌, ◌||◌, nat_lt, if◌then◌else◌, Option, Some, None, Result, Ok, Err}
use Rattle.std.specs.Str.{byte}
use Rattle.sip_text.specs.declared.scan.Class.TheVariants as class
use Rattle.sip_text.specs.Bytes.{is_in}
use Rattle.sip_text.specs.Grammar.{number_of}
use Rattle.sip_text.specs.Reading.{◌>>=◌, span_at, after_byte, after_spaces}
use Rattle.package.specs.declared.counts.Counts.{Counts}
use Rattle.summary_bodies.specs.declared.error.SummaryError.{SummaryError}
use Rattle.summary_bodies.specs.declared.error.SummaryError.TheVariants as error

-- a number at the front, and what follows it. One of 2 ^ 32 and more counts as 2 ^ 32
unfoldable pub count_at : List ℕ → Option (ℕ × List ℕ)
count_at t = do
  digits ← span_at (is_in class.Digit) t
  Some (min (number_of digits.0) (2 ^ 32), digits.1)

-- msgcount SLASH msgcount
unfoldable pub pair_at : List ℕ → Option ((ℕ × ℕ) × List ℕ)
pair_at t = do
  first ← count_at t
  rest ← after_byte (byte "/") (after_spaces first.1)
  second ← count_at (after_spaces rest)
  Some ((first.0, second.0), second.1)

-- LPAREN msgcount SLASH msgcount RPAREN, to the end
unfoldable pub urgent_in : List ℕ → Option (ℕ × ℕ)
urgent_in t = do
  rest ← after_byte (byte "(") t
  pair ← pair_at (after_spaces rest)
  end ← after_byte (byte ")") (after_spaces pair.1)
  if length end == 0 then Some pair.0 else None

-- none is urgent where nothing is said of it
abbrev pub urgent_of : List ℕ → Option (ℕ × ℕ)
urgent_of t = if length t == 0 then Some (0, 0) else urgent_in t

-- new and old ones, and how many of each are urgent
unfoldable pub numbers_of : List ℕ → Option ((ℕ × ℕ) × (ℕ × ℕ))
numbers_of value = do
  total ← pair_at value
  urgent ← urgent_of (after_spaces total.1)
  Some (total.0, urgent)

-- each fits 32 bits, and no more are urgent than there are
abbrev pub counts_with : ℕ × ℕ → ℕ × ℕ → Result Counts SummaryError
counts_with total urgent =
    if nat_lt 4294967295 total.0 || nat_lt 4294967295 total.1 then Err error.TooLarge
    else if nat_lt total.0 urgent.0 || nat_lt total.1 urgent.1 then Err error.MoreUrgent
    else Ok (record { new_count = total.0; old_count = total.1; urgent_new = urgent.0; urgent_old = urgent.1 })

abbrev pub counts_among : Option ((ℕ × ℕ) × (ℕ × ℕ)) → Result Counts SummaryError
counts_among None = Err error.BadCounts
counts_among (Some n) = counts_with n.0 n.1

-- what the value of a line counts
abbrev pub counts_of : List ℕ → Result Counts SummaryError
counts_of value = counts_among (numbers_of value)
