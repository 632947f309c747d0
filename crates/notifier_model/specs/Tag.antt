-- The local tag of a dialog: the worker, the serial, and digits that a generator gives from the seed.
use Rattle.std.specs.Prelude.{ℕ, ◌+◌, ◌-◌, ◌*◌, List, ◌++◌, codes, decimal}
use Rattle.std.specs.Int.{w32, to_le_bytes}
use Rattle.rand_chacha.specs.ChaCha.{word_at, key_of}
use Rattle.hex.specs.Hex.{encode_lower}

-- a word of ChaCha20 (10 double rounds), whose stream is the worker
abbrev pub tag_word : List ℕ → ℕ → ℕ → ℕ
tag_word seed worker place = word_at 10 (key_of seed) worker place

-- the bytes of the two words of a serial, the low byte first
abbrev pub tag_bytes : List ℕ → ℕ → ℕ → List ℕ
tag_bytes seed worker serial =
    to_le_bytes w32 (tag_word seed worker (2 * (serial - 1)))
    ++ to_le_bytes w32 (tag_word seed worker (2 * (serial - 1) + 1))

-- `w<worker>-<serial>-<16 digits>`
unfoldable pub local_tag : List ℕ → ℕ → ℕ → List ℕ
local_tag seed worker serial =
    codes "w" ++ (decimal worker
    ++ (codes "-" ++ (decimal serial ++ (codes "-" ++ encode_lower (tag_bytes seed worker serial)))))

-- the tag that a refusal adds where no dialog is made
unfoldable pub refusal_tag : ℕ → List ℕ
refusal_tag worker = codes "w" ++ (decimal worker ++ codes "-0")
