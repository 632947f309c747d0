-- The number of each error.
use Rattle.std.specs.Prelude.{ℕ}
use Rattle.scripts.specs.declared.error.ScriptError.{ScriptError}
use Rattle.scripts.specs.declared.error.ScriptError.TheVariants.{BadScript, Device, NoMemory}

abbrev pub number_of_error : ScriptError → ℕ
number_of_error BadScript = 1
number_of_error Device = 2
number_of_error NoMemory = 3
