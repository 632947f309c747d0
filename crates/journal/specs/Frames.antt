-- Frames: bytes behind their length and their checksum.
use Rattle.std.specs.Prelude.{◌≡◌, ℕ, ◌*◌, ◌/◌, ◌%◌, ◌^◌, ◌≤◌, List, [], ◌∷◌, ◌++◌, length, drop, fold, bit_xor, All}
use Rattle.std.specs.List.{flat_map}
use Rattle.std.specs.Int.{w32, w64, to_be_bytes, from_be_bytes}
use Rattle.std.specs.Simd.{first_chunks}
use Rattle.journal.specs.declared.frames.TheConstants.{LONGEST}

-- FNV-1a with 64 bits
abbrev pub mixed : ℕ → ℕ → ℕ
mixed sum word = (bit_xor sum word * 1099511628211) % 2 ^ 64

-- of eight bytes at a time, each a number with the highest first, and then of each byte that is left
abbrev pub sum_of : List ℕ → ℕ
sum_of bytes =
    let words = first_chunks 8 (length bytes / 8) bytes in
    let rest = drop (length bytes / 8 * 8) bytes in
    fold mixed (fold (λ sum word. mixed sum (from_be_bytes w64 word)) 14695981039346656037 words) rest

-- the upper half of that, in which each bit of the bytes plays
unfoldable pub checksum : List ℕ → ℕ
checksum bytes = sum_of bytes / 2 ^ 32

-- what goes into a frame
abbrev pub IsPayload : List ℕ → Type 0
IsPayload payload = length payload ≤ LONGEST

-- its length and its checksum, four bytes each, and then it itself
unfoldable pub frame : List ℕ → List ℕ
frame payload = to_be_bytes w32 (length payload) ++ (to_be_bytes w32 (checksum payload) ++ payload)

-- ---- of anything that is written in some way, and found again behind others

-- nothing stands whole at the front
abbrev pub IsTornOf : {X : Type 0} → (X → List ℕ) → (X → Type 0) → List ℕ → Type 0
IsTornOf {X} written Is bytes = (x : X) (rest : List ℕ) → Is x → bytes ≡ written x ++ rest → ⊥

-- the bytes are these, one behind the other, and behind them nothing stands whole
pub record HoldsOf {X : Type 0} (written : X → List ℕ) (Is : X → Type 0) (bytes : List ℕ) (xs : List X) : Type 0 where
  pub torn : List ℕ
  pub bytes_are : bytes ≡ flat_map written xs ++ torn
  pub each : All Is xs
  pub is_torn : IsTornOf written Is torn

-- no whole frame stands at the front
abbrev pub HasNoFrame : List ℕ → Type 0
HasNoFrame = IsTornOf frame IsPayload
