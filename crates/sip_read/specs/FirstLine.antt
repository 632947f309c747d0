-- The first line of a message (RFC 3261 sections 7.1 and 7.2).
use Rattle.std.specs.Prelude.{◌≡◌, ℕ, ◌≤◌, true, List, ◌∷◌, ◌++◌, length, codes}
use Rattle.std.specs.Str.{byte, IsUtf8, str_eq_ignore_ascii_case}
use Rattle.sip_text.specs.declared.scan.Class.TheVariants as class
use Rattle.sip_text.specs.Bytes.{is_in}
use Rattle.sip_text.specs.Grammar.{AllPassing, IsWord, number_of}

pub data First : Type 0 where
  request : (method uri : List ℕ) → First
  status : (code : ℕ) (reason : List ℕ) → First

-- the letters of the version ignore case:
--   request-line = token SP 1*("!" to "~" but DQUOTE "<" ">") SP "SIP/2.0"
pub record IsRequestLine (line method uri : List ℕ) : Type 0 where
  pub version : List ℕ
  pub is_method : IsWord class.Token method
  pub is_uri : IsWord class.Uri uri
  pub sip : str_eq_ignore_ascii_case version (codes "SIP/2.0") ≡ true
  pub whole : line ≡ method ++ byte " " ∷ (uri ++ byte " " ∷ version)

-- the code has three digits and is 100 to 699, the reason is a text without control characters:
--   status-line = "SIP" "/" "2.0" SP 3digit SP reason
pub record IsStatusLine (line : List ℕ) (code : ℕ) (reason : List ℕ) : Type 0 where
  pub name : List ℕ
  pub version : List ℕ
  pub digits : List ℕ
  pub is_name : IsWord class.Token name
  pub is_version : IsWord class.Token version
  pub sip : str_eq_ignore_ascii_case name (codes "SIP") ≡ true
  pub two : str_eq_ignore_ascii_case version (codes "2.0") ≡ true
  pub are_digits : IsWord class.Digit digits
  pub three : length digits ≡ 3
  pub number : code ≡ number_of digits
  pub least : 100 ≤ code
  pub most : code ≤ 699
  pub no_control : AllPassing (is_in class.Shown) reason
  pub is_text : IsUtf8 reason
  pub whole : line ≡ name ++ byte "/" ∷ (version ++ byte " " ∷ (digits ++ byte " " ∷ reason))

abbrev pub IsFirstLine : List ℕ → First → Type 0
IsFirstLine line (request method uri) = IsRequestLine line method uri
IsFirstLine line (status code reason) = IsStatusLine line code reason
