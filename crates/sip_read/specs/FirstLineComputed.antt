-- What the reader computes of the first line, as functions on lists. The relation (FirstLine) is what they come to.
use Rattle.std.specs.Prelude.{ℕ, ◌&&◌, List, length, nat_le, ◌==◌, if◌then◌else◌, Option, Some, None, codes}
use Rattle.std.specs.List.{list_all}
use Rattle.std.specs.Str.{byte, str_eq_ignore_ascii_case}
use Rattle.sip_text.specs.declared.scan.Class.TheVariants as class
use Rattle.sip_text.specs.Bytes.{is_in}
use Rattle.sip_text.specs.Grammar.{number_of}
use Rattle.sip_text.specs.Reading.{◌>>=◌, span_at, after_byte, text_of, word_at}
use Rattle.sip_read.specs.FirstLine.{First, request, status}
use Rattle.sip_read.specs.LinesComputed.{line_at}

unfoldable pub request_line : List ℕ → Option First
request_line line = do
  method ← word_at (is_in class.Token) line
  behind ← after_byte (byte " ") method.1
  uri ← word_at (is_in class.Uri) behind
  version ← after_byte (byte " ") uri.1
  if str_eq_ignore_ascii_case version (codes "SIP/2.0") then Some (request method.0 uri.0) else None

-- what follows the version
unfoldable pub version_at : List ℕ → Option (List ℕ)
version_at line = do
  name ← span_at (is_in class.Token) line
  rest ← after_byte (byte "/") name.1
  version ← span_at (is_in class.Token) rest
  behind ← after_byte (byte " ") version.1
  if str_eq_ignore_ascii_case name.0 (codes "SIP") && str_eq_ignore_ascii_case version.0 (codes "2.0") then Some behind else None

unfoldable pub status_line : List ℕ → Option First
status_line line = do
  rest ← version_at line
  digits ← span_at (is_in class.Digit) rest
  behind ← after_byte (byte " ") digits.1
  reason ← text_of behind
  if (length digits.0 == 3) && (nat_le 100 (number_of digits.0) && (nat_le (number_of digits.0) 699 && list_all (is_in class.Shown) reason)) then Some (status (number_of digits.0) reason) else None

abbrev pub or_status : List ℕ → Option First → Option First
or_status line None = status_line line
or_status line (Some first) = Some first

abbrev pub first_of : List ℕ → Option First
first_of line = or_status line (request_line line)

unfoldable pub first_at : List ℕ → Option (First × List ℕ)
first_at bytes = do
  line ← line_at bytes
  first ← first_of line.0
  Some (first, line.1)
