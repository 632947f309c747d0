-- How a header that may stand once is written, and a range of Accept.
--
--   field = "-" / "!" / "+" value     ; no line, a line that can't be read, its value
--   range = text text                 ; the type and the subtype, tokens in small letters
use Rattle.std.specs.Prelude.{◌≡◌, ℕ, Bool, true, ◌&&◌, List, [], ◌∷◌, ◌++◌, ◌==◌, if◌then◌else◌, Option, Some, None, codes}
use Rattle.std.specs.List.{list_all}
use Rattle.std.specs.Str.{byte}
use Rattle.sip_text.specs.declared.field.Field.{Field}
use Rattle.sip_text.specs.declared.field.Field.TheVariants.{Absent, Bad, Value}
use Rattle.sip_text.specs.Tokens.{is_small_token}
use Rattle.event_headers.specs.Values.{Range}
use Rattle.snapshots.specs.Forms.{bytes_text, text_at, IsText, both_at, made_at, case_at}

-- ---- a header that may stand once

abbrev pub field_text : {A : Type 0} → (A → List ℕ) → Field A → List ℕ
field_text text Absent = codes "-"
field_text text Bad = codes "!"
field_text text (Value a) = codes "+" ++ text a

unfoldable pub field_at : {A : Type 0} → (List ℕ → Option (A × List ℕ)) → List ℕ → Option (Field A × List ℕ)
field_at f [] = None
field_at f (x ∷ xs) =
    if x == byte "-" then Some (Absent, xs)
    else if x == byte "!" then Some (Bad, xs)
    else if x == byte "+" then case_at (λ a. Value a) f xs
    else None

abbrev pub FieldFits : {A : Type 0} → (A → Type 0) → Field A → Type 0
FieldFits Is Absent = Unit {0}
FieldFits Is Bad = Unit {0}
FieldFits Is (Value a) = Is a

-- ---- a range of Accept

abbrev pub range_text : Range → List ℕ
range_text r = bytes_text r.main ++ bytes_text r.sub

-- both are tokens in small letters
abbrev pub is_range : Range → Bool
is_range r = is_small_token r.main && is_small_token r.sub

unfoldable pub range_of : List ℕ × List ℕ → Option Range
range_of p = if is_small_token p.0 && is_small_token p.1 then Some (record { main = p.0; sub = p.1 }) else None

unfoldable pub range_at : List ℕ → Option (Range × List ℕ)
range_at t = made_at range_of (both_at text_at text_at) t

-- what the type of a range tells of it
abbrev pub RangeFits : Range → Type 0
RangeFits r = IsText r.main × IsText r.sub

-- which ranges are read again
abbrev pub IsRange : Range → Type 0
IsRange r = RangeFits r × (is_range r ≡ true)

-- all ranges of an Accept are tokens in small letters
abbrev pub is_accept : Field (List Range) → Bool
is_accept Absent = true
is_accept Bad = true
is_accept (Value ranges) = list_all is_range ranges
