-- What a call answers of a line.
use Rattle.std.specs.Prelude.{◌≡◌, Option, Some, None, Result, Ok, Err}
use Rattle.sip_read.specs.declared.error.ReadError.{ReadError}
use Rattle.sip_read.specs.declared.error.ReadError.TheVariants as errors

-- the error of a line in which nothing was read, or want of memory
abbrev pub IsBad : {Y : Type 0} → ReadError → Option Y → Type 0
IsBad errors.BadLine read = read ≡ None
IsBad errors.NoMemory read = Unit {0}
IsBad e read = ⊥

-- what was read, seen by view; or else the line is bad, or memory is out
abbrev pub Takes : {X Y : Type 0} → (X → Y) → Result X ReadError → Option Y → Type 0
Takes view (Ok x) read = read ≡ Some (view x)
Takes view (Err e) read = IsBad e read
