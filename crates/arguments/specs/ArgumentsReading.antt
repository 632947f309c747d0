-- What the reader of arguments computes, piece by piece. No public contract cites this.
use Rattle.std.specs.Prelude.{◌≡◌, ℕ, Bool, true, false, List, [], ◌∷◌, length, ◌==◌, if◌then◌else◌, Option, Some, None, Result, Ok, Err, codes, bytes_eq}
use Rattle.arguments.specs.declared.arguments.Arguments.{Arguments}
use Rattle.arguments.specs.declared.arguments.ArgumentsError.{ArgumentsError}
use Rattle.arguments.specs.declared.arguments.ArgumentsError.TheVariants as error
use Rattle.arguments.specs.Arguments.{zero_seed, default_arguments}
use Rattle.arguments.specs.Values.{seed_bytes, between}
use Rattle.sip_text.specs.Reading.{◌>>=◌}

-- the workers and the mailboxes
unfoldable pub crew_at : List ℕ → Bool → List (List ℕ) → Option Arguments
crew_at seed stop [] = None
crew_at seed stop (word ∷ mailboxes) = do
  n ← between 1 256 word
  if length mailboxes == 0 then None else Some (record { seed = seed; stop = stop; workers = n; mailboxes = mailboxes })

-- what stands behind the seed
unfoldable pub stop_at : List ℕ → List (List ℕ) → Option Arguments
stop_at seed [] = crew_at seed false []
stop_at seed (flag ∷ words) = if bytes_eq flag (codes "--stop") then crew_at seed true words else crew_at seed false (flag ∷ words)

-- what stands behind the first word
unfoldable pub script_at : List (List ℕ) → Option Arguments
script_at [] = stop_at zero_seed []
script_at (word ∷ []) = stop_at zero_seed (word ∷ [])
script_at (flag ∷ digits ∷ words) =
    if bytes_eq flag (codes "--seed") then (seed_bytes digits >>= λ seed. stop_at seed words) else stop_at zero_seed (flag ∷ digits ∷ words)

unfoldable pub read_arguments : List (List ℕ) → Option Arguments
read_arguments [] = Some default_arguments
read_arguments (program ∷ words) = if bytes_eq program (codes "script") then script_at words else None

abbrev pub ArgumentsFail : ArgumentsError → Option Arguments → Type 0
ArgumentsFail error.NoMemory read = Unit {0}
ArgumentsFail error.Bad read = read ≡ None

-- what a function returned is what the function on lists gives, unless memory ran out
abbrev pub GivesArguments : Result Arguments ArgumentsError → Option Arguments → Type 0
GivesArguments (Ok a) read = read ≡ Some a
GivesArguments (Err e) read = ArgumentsFail e read
