-- A flag of a table and a class are compared at all 256 bytes, by computing.
use Rattle.std.proofs.Common.{ℕ, Bool, List, not, nat_eq, bit_and, get_or}

abbrev pub has_flag : List ℕ → ℕ → ℕ → Bool
has_flag table flag b = not (nat_eq (bit_and (get_or table b 0) flag) 0)
