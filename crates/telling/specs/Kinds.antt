-- Which lines of an input are asked.
--
--   line = "" / "#" text              ; says nothing
--        / MAIL line                  ; asked
--        / PROGRESS line              ; asked where that is wanted
--        / other                      ; refused, as CLOSE, a question and each line that doesn't fit into a datagram
use Rattle.std.specs.Prelude.{◌≡◌, ◌⊎◌, ℕ, Bool, true, List, []}
use Rattle.std.specs.Str.{byte}
use Rattle.package.specs.declared.change.Change.TheVariants as change
use Rattle.package.specs.Values.{MailChange, Progress}
use Rattle.scripts.specs.declared.script.Control.TheVariants as control
use Rattle.scripts.specs.Script.{IsControlLine}
use Rattle.sip_text.specs.Reading.{begins}
use Rattle.telling.specs.declared.kinds.LineKind.{LineKind}
use Rattle.telling.specs.declared.kinds.LineKind.TheVariants as kind
use Rattle.telling.specs.Input.{Fits}

-- it is empty, or a comment
abbrev pub IsBlank : List ℕ → Type 0
IsBlank line = (line ≡ []) ⊎ (begins (byte "#") line ≡ true)

abbrev pub IsMailLine : List ℕ → Type 0
IsMailLine line = (mail : MailChange) × IsControlLine line (control.Change (change.Mail mail))

abbrev pub IsProgressLine : List ℕ → Type 0
IsProgressLine line = (progress : Progress) × IsControlLine line (control.Change (change.Step progress))

-- it is asked
abbrev pub IsTold : Bool → List ℕ → Type 0
IsTold takes_progress line = Fits line × (IsMailLine line ⊎ ((takes_progress ≡ true) × IsProgressLine line))

-- it says nothing
abbrev pub IsLeftOut : List ℕ → Type 0
IsLeftOut line = Fits line × IsBlank line

abbrev pub IsKind : Bool → List ℕ → LineKind → Type 0
IsKind takes_progress line kind.Blank = IsLeftOut line
IsKind takes_progress line kind.Told = IsTold takes_progress line
IsKind takes_progress line kind.Untold = ¬ (IsLeftOut line) × ¬ (IsTold takes_progress line)
