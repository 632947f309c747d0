-- Whether a range of Accept covers a content type (RFC 3261 section 20.1).
use Rattle.std.specs.Prelude.{ℕ, Bool, ◌&&◌, ◌||◌, ◌==◌, List, codes, bytes_eq}
use Rattle.std.specs.List.{before_first, after_first}
use Rattle.std.specs.Str.{byte, str_eq_ignore_ascii_case}
use Rattle.event_headers.specs.Values.{Range}

abbrev pub is_slash : ℕ → Bool
is_slash b = b == byte "/"

-- where the parameters of a content type begin: at a semicolon, SP or HT
abbrev pub ends_type : ℕ → Bool
ends_type b = (b == byte ";") || (b == byte " ") || (b == byte "\t")

-- the content type without its parameters
abbrev pub bare_type : List ℕ → List ℕ
bare_type content_type = before_first ends_type content_type

abbrev pub type_of : List ℕ → List ℕ
type_of bare = before_first is_slash bare

abbrev pub subtype_of : List ℕ → List ℕ
subtype_of bare = after_first is_slash bare

-- a part of a range is `*`, or it equals this part of the content type up to case
abbrev pub is_matched : List ℕ → List ℕ → Bool
is_matched part by = bytes_eq part (codes "*") || str_eq_ignore_ascii_case part by

abbrev pub covers : Range → List ℕ → Bool
covers range content_type = is_matched range.main (type_of (bare_type content_type)) && is_matched range.sub (subtype_of (bare_type content_type))
