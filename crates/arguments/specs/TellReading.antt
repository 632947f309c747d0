-- What the reader of a call of `notifyd tell` computes. No public contract cites this.
use Rattle.std.specs.Prelude.{◌≡◌, ℕ, List, [], ◌∷◌, if◌then◌else◌, Option, Some, None, Result, Ok, Err, codes, bytes_eq}
use Rattle.std.specs.Str.{byte}
use Rattle.sip_text.specs.declared.address.Addr.{Addr}
use Rattle.sip_text.specs.Reading.{◌>>=◌, begins, addr_of}
use Rattle.arguments.specs.declared.tell.TellCall.{TellCall}
use Rattle.arguments.specs.declared.tell.TellError.{TellError}
use Rattle.arguments.specs.declared.tell.TellError.TheVariants as error
use Rattle.arguments.specs.Tell.{joined}

unfoldable pub line_call : Option Addr → List (List ℕ) → Option TellCall
line_call control [] = None
line_call control (first ∷ rest) = if begins (byte "-") first then None else Some (record { control = control; line = joined first rest })

unfoldable pub read_tell : List (List ℕ) → Option TellCall
read_tell [] = line_call None []
read_tell (word ∷ []) = line_call None (word ∷ [])
read_tell (flag ∷ value ∷ line) =
    if bytes_eq flag (codes "--control") then (addr_of value >>= λ addr. line_call (Some addr) line) else line_call None (flag ∷ value ∷ line)

abbrev pub TellFails : TellError → Option TellCall → Type 0
TellFails error.NoMemory read = Unit {0}
TellFails error.Bad read = read ≡ None

-- what a function returned is what the function on lists gives, unless memory ran out
abbrev pub GivesTell : Result TellCall TellError → Option TellCall → Type 0
GivesTell (Ok call) read = read ≡ Some call
GivesTell (Err e) read = TellFails e read
