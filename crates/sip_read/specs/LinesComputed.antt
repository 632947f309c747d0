-- What the reader computes of lines, as functions on lists. The relation (Folding) is what they come to.
use Rattle.std.specs.Prelude.{ℕ, zero, suc, Bool, false, List, [], ◌∷◌, ◌++◌, length, take, drop, ◌==◌, if◌then◌else◌, Option, Some, None}
use Rattle.std.specs.List.{prefix_len}
use Rattle.std.specs.Str.{byte}
use Rattle.sip_text.specs.declared.scan.Class.TheVariants as class
use Rattle.sip_text.specs.Bytes.{is_in, is_space}
use Rattle.sip_read.specs.declared.datagram.Header.{Header}
use Rattle.sip_read.specs.Headers.{header_named}
use Rattle.sip_text.specs.Reading.{◌>>=◌, span_at, after_spaces, after_byte, trim_end, trimmed}

-- a line at the front, behind which a CRLF stands, and the rest
unfoldable pub line_at : List ℕ → Option (List ℕ × List ℕ)
line_at t = do
  lf ← after_byte (byte "\r") (drop (prefix_len (is_in class.Line) t) t)
  rest ← after_byte (byte "\n") lf
  Some (take (prefix_len (is_in class.Line) t) t, rest)

-- a header's name and its value
unfoldable pub header_of : List ℕ → Option (List ℕ × List ℕ)
header_of line = do
  name ← span_at (is_in class.Token) line
  value ← after_byte (byte ":") (after_spaces name.1)
  Some (name.0, trimmed value)

-- the header that a line is of, and its value
unfoldable pub header_line : List ℕ → Option (Header × List ℕ)
header_line line = do
  h ← header_of line
  Some (header_named h.0, h.1)

abbrev pub begins_space : List ℕ → Bool
begins_space [] = false
begins_space (x ∷ xs) = is_space x

-- a line with a further piece
abbrev pub joined : List ℕ → List ℕ → List ℕ
joined line piece = trim_end line ++ byte " " ∷ after_spaces piece

-- the line that begins with this piece, and what stands behind its continuation lines
unfoldable pub continued_at : ℕ → List ℕ → List ℕ → Option (List ℕ × List ℕ)
continued_at zero line t = Some (line, t)
continued_at (suc n) line t = if begins_space t then (line_at t >>= λ p. continued_at n (joined line p.0) p.1) else Some (line, t)

abbrev pub continued_of : List ℕ → List ℕ → Option (List ℕ × List ℕ)
continued_of line t = continued_at (length t) line t

-- a line that begins with this piece
unfoldable pub unfolded_of : List ℕ → List ℕ → Option (List ℕ × List ℕ)
unfolded_of first t = if begins_space first then None else continued_of first t

-- the header lines up to an empty line, and what follows it
unfoldable pub lines_at : ℕ → List ℕ → Option (List (List ℕ) × List ℕ)
lines_at zero t = None
lines_at (suc n) t = do
  first ← line_at t
  if length first.0 == 0 then Some ([], first.1) else (unfolded_of first.0 first.1 >>= λ line. lines_at n line.1 >>= λ others. Some (line.0 ∷ others.0, others.1))

abbrev pub lines_of : List ℕ → Option (List (List ℕ) × List ℕ)
lines_of t = lines_at (length t) t
