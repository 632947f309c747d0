-- What one word says: a number, or a seed.
use Rattle.std.specs.Prelude.{ℕ, List, Option, Some, None, Result, Ok, Err, if◌then◌else◌, nat_lt}
use Rattle.hex.specs.declared.error.FromHexError.{FromHexError}
use Rattle.hex.specs.Hex.{decode_sized}
use Rattle.sip_text.specs.Reading.{◌>>=◌, plain_up_to}

abbrev pub some_value : Result (List ℕ) FromHexError → Option (List ℕ)
some_value (Ok seed) = Some seed
some_value (Err e) = None

-- 32 bytes from 64 hex digits
unfoldable pub seed_bytes : List ℕ → Option (List ℕ)
seed_bytes digits = some_value (decode_sized digits 32)

-- a number from the least to the most
unfoldable pub between : ℕ → ℕ → List ℕ → Option ℕ
between least most word = do
  n ← plain_up_to most word
  if nat_lt n least then None else Some n
