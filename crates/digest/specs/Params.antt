-- One parameter of Authorization, and what its value says.
use Rattle.std.specs.Prelude.{ℕ, Bool, true, false, ◌==◌, if◌then◌else◌, List, [], ◌∷◌, Option}
use Rattle.std.specs.Str.{byte, str_eq_ignore_ascii_case}
use Rattle.sip_text.specs.Reading.{text_of}
use Rattle.digest.specs.declared.directive.Directive.{Directive}
use Rattle.digest.specs.Directives.{directive_text}

-- a parameter as it stands in the text: a quoted value has its quotes
pub record AuthParam : Type 0 where
  pub name : List ℕ
  pub value : List ℕ

-- names ignore case
abbrev pub is_named : Directive → AuthParam → Bool
is_named d p = str_eq_ignore_ascii_case p.name (directive_text d)

-- what stands behind an opening quote, up to the closing one: a backslash is dropped and takes the next byte along (quoted-pair, RFC 3261
-- section 25.1); escaped says that one stands right before
abbrev pub unescaped : Bool → List ℕ → List ℕ
unescaped escaped [] = []
unescaped true (x ∷ xs) = x ∷ unescaped false xs
unescaped false (x ∷ xs) =
    if x == byte "\"" then [] else if x == byte "\\" then unescaped true xs else x ∷ unescaped false xs

-- what a value says: a quoted one without its quotes and backslashes
abbrev pub value_bytes : List ℕ → List ℕ
value_bytes [] = []
value_bytes (x ∷ xs) = if x == byte "\"" then unescaped false xs else x ∷ xs

-- the same, if it is a text
abbrev pub value_text : List ℕ → Option (List ℕ)
value_text v = text_of (value_bytes v)
