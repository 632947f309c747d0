-- What the reader of a call of `notifyd tell -` computes. No public contract cites this.
use Rattle.std.specs.Prelude.{ℕ, Bool, true, false, ◌&&◌, List, [], ◌∷◌, if◌then◌else◌, Option, Some, None, codes, bytes_eq}
use Rattle.sip_text.specs.declared.address.Addr.{Addr}
use Rattle.sip_text.specs.Reading.{◌>>=◌, addr_of}
use Rattle.arguments.specs.declared.lines_call.LinesCall.{LinesCall}

unfoldable pub switches : List (List ℕ) → Option (Bool × Bool)
switches [] = Some (false, false)
switches (word ∷ []) =
    if bytes_eq word (codes "--progress") then Some (true, false)
    else if bytes_eq word (codes "--progress-bar") then Some (false, true)
    else None
switches (word ∷ next ∷ []) =
    if bytes_eq word (codes "--progress") && bytes_eq next (codes "--progress-bar") then Some (true, true) else None
switches (word ∷ next ∷ other ∷ rest) = None

unfoldable pub call_at : Option Addr → List (List ℕ) → Option LinesCall
call_at control [] = None
call_at control (dash ∷ rest) =
    if bytes_eq dash (codes "-")
    then (switches rest >>= λ s. Some (record { control = control; takes_progress = s.0; tells_counts = s.1 }))
    else None

unfoldable pub read_lines_call : List (List ℕ) → Option LinesCall
read_lines_call [] = call_at None []
read_lines_call (word ∷ []) = call_at None (word ∷ [])
read_lines_call (flag ∷ value ∷ rest) =
    if bytes_eq flag (codes "--control") then (addr_of value >>= λ addr. call_at (Some addr) rest) else call_at None (flag ∷ value ∷ rest)
