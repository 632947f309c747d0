-- Values that may stand once.
use Rattle.std.specs.Prelude.{Bool, true, false, List, [], ◌∷◌, Option, Some, None, Result, Ok, Err}
use Rattle.sip_text.specs.declared.field.Field.{Field}
use Rattle.sip_text.specs.declared.field.Field.TheVariants as field
use Rattle.sip_read.specs.declared.error.HeaderName.{HeaderName}
use Rattle.sip_read.specs.declared.error.ReadError.{ReadError}
use Rattle.sip_read.specs.declared.error.ReadError.TheVariants as errors
use Rattle.sip_read.specs.declared.gathered.Once.{Once}
use Rattle.sip_read.specs.declared.gathered.Once.TheVariants as once

-- with one value more
abbrev pub once_more : {T : Type 0} → Once T → T → Once T
once_more once.Absent x = once.One x
once_more (once.One y) x = once.Several
once_more once.Several x = once.Several

-- with all of these
abbrev pub once_all : {T : Type 0} → Once T → List T → Once T
once_all o [] = o
once_all o (x ∷ xs) = once_all (once_more o x) xs

abbrev pub is_several : {T : Type 0} → Once T → Bool
is_several once.Absent = false
is_several (once.One x) = false
is_several once.Several = true

-- the value of the one line; several lines are refused before
abbrev pub required : {T : Type 0} → HeaderName → Once T → Result T ReadError
required name (once.One x) = Ok x
required name once.Absent = Err (errors.Missing name)
required name once.Several = Err (errors.Missing name)

abbrev pub field_of : {T : Type 0} → Once (Option T) → Field T
field_of once.Absent = field.Absent
field_of (once.One None) = field.Bad
field_of (once.One (Some x)) = field.Value x
field_of once.Several = field.Bad
