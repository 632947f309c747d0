-- The token of a line.
--
--   tokened = "@" 16HEXDIG SP line
use Rattle.std.specs.Prelude.{ℕ, List, Option, Some, None, option_map}
use Rattle.std.specs.Result.{result_ok}
use Rattle.std.specs.Int.{w64, from_be_bytes}
use Rattle.std.specs.Str.{byte}
use Rattle.std.specs.Option.{option_map_or}
use Rattle.hex.specs.Hex.{decode_sized}
use Rattle.sip_text.specs.Reading.{◌>>=◌, after_byte, cut_at}
use Rattle.control_lines.specs.declared.token.Token.{Token}

-- the number of eight bytes, the first of which weighs most
unfoldable pub number : List ℕ → ℕ
number value = from_be_bytes w64 value

unfoldable pub token_of : List ℕ → Option Token
token_of digits = result_ok (decode_sized digits 8) >>= λ value. Some (record { number = number value })

-- the token that stands before a line, and the line
unfoldable pub token_in : List ℕ → Option (Token × List ℕ)
token_in octets = do
  rest ← after_byte (byte "@") octets
  cut ← cut_at (byte " ") rest
  token ← token_of cut.0
  Some (token, cut.1)

-- the token that stands before the line, if one does
abbrev pub token : List ℕ → Option Token
token octets = option_map (λ (t : Token × List ℕ). t.0) (token_in octets)

-- the line: all of it where no token stands before it
abbrev pub line : List ℕ → List ℕ
line octets = option_map_or (λ (t : Token × List ℕ). t.1) (token_in octets) octets
