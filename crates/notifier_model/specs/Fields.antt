-- Words on the headers of a request that may stand once, and on texts that may be absent.
use Rattle.std.specs.Prelude.{ℕ, Bool, true, false, ◌&&◌, List, [], Option, Some, None, bytes_eq}
use Rattle.sip_text.specs.declared.field.Field.{Field}
use Rattle.sip_text.specs.declared.field.Field.TheVariants.{Absent, Bad, Value}
use Rattle.event_headers.specs.Values.{EventValue}

abbrev pub value_of : {A : Type 0} → Field A → Option A
value_of Absent = None
value_of Bad = None
value_of (Value a) = Some a

abbrev pub is_absent : {A : Type 0} → Field A → Bool
is_absent Absent = true
is_absent Bad = false
is_absent (Value a) = false

abbrev pub is_bad : {A : Type 0} → Field A → Bool
is_bad Absent = false
is_bad Bad = true
is_bad (Value a) = false

-- the text, or the empty one
abbrev pub or_empty : Option (List ℕ) → List ℕ
or_empty None = []
or_empty (Some text) = text

-- the same text, or neither is there
abbrev pub same_text : Option (List ℕ) → Option (List ℕ) → Bool
same_text None None = true
same_text None (Some b) = false
same_text (Some a) None = false
same_text (Some a) (Some b) = bytes_eq a b

-- package and `id` are compared byte by byte
abbrev pub same_event : EventValue → EventValue → Bool
same_event e f = bytes_eq e.package f.package && same_text e.id f.id
