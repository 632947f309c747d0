-- What the reader computes of Via values, as functions on lists. The relation (Vias) is what they come to.
use Rattle.std.specs.Prelude.{ℕ, ◌-◌, Bool, false, ◌||◌, List, length, take, if◌then◌else◌, Option, Some, None, codes, find}
use Rattle.std.specs.List.{list_any}
use Rattle.std.specs.Str.{byte, str_eq_ignore_ascii_case}
use Rattle.sip_text.specs.declared.scan.Class.TheVariants as class
use Rattle.sip_text.specs.Bytes.{is_in}
use Rattle.sip_text.specs.Grammar.{Parameter, has_name}
use Rattle.sip_text.specs.Reading.{◌>>=◌, span_at, after_spaces, after_byte, some_of, text_of, word_at}
use Rattle.sip_read.specs.Vias.{Hop, value_of_first, is_bare_rport}

-- the text without the rest that stands at its end
abbrev pub taken : List ℕ → List ℕ → List ℕ
taken t rest = take (length t - length rest) t

-- what follows this word, a slash, and the spaces around it
unfoldable pub slashed_at : List ℕ → List ℕ → Option (List ℕ)
slashed_at word t = do
  name ← span_at (is_in class.Token) t
  rest ← after_byte (byte "/") (after_spaces name.1)
  if str_eq_ignore_ascii_case name.0 word then Some (after_spaces rest) else None

-- what follows the name and the version of SIP
unfoldable pub version_at : List ℕ → Option (List ℕ)
version_at t = do
  a ← slashed_at (codes "SIP") t
  slashed_at (codes "2.0") a

-- what follows the protocol
unfoldable pub protocol_at : List ℕ → Option (List ℕ)
protocol_at t = do
  b ← version_at t
  transport ← span_at (is_in class.Token) b
  gap ← span_at (is_in class.Space) transport.1
  Some gap.1

-- a text, where there is one
abbrev pub some_text_of : Option (List ℕ) → Option (Option (List ℕ))
some_text_of None = Some None
some_text_of (Some t) = text_of t >>= λ x. Some (Some x)

-- what the parameters mark: the first branch, and whether an rport has no value
pub record Marks : Type 0 where
  pub branch : Option Parameter
  pub bare_rport : Bool

abbrev pub no_marks : Marks
no_marks = record { branch = None; bare_rport = false }

abbrev pub branch_or : Option Parameter → Parameter → Option Parameter
branch_or (Some q) p = Some q
branch_or None p = if has_name (codes "branch") p then Some p else None

-- with a further parameter
abbrev pub marks_with : Marks → Parameter → Marks
marks_with m p = record { branch = branch_or m.branch p; bare_rport = m.bare_rport || is_bare_rport p }

abbrev pub marks_of : List Parameter → Marks
marks_of ps = record { branch = find (has_name (codes "branch")) ps; bare_rport = list_any is_bare_rport ps }

-- what the parameters at the front mark, and the rest
unfoldable pub marks_at : List ℕ → Option (Marks × List ℕ)
marks_at t = do
  ps ← some_of t
  Some (marks_of ps.0, ps.1)

-- a Via value at the front, and the rest
unfoldable pub hop_at : List ℕ → Option (Hop × List ℕ)
hop_at t = do
  r ← protocol_at t
  host ← word_at (is_in class.Host) r
  marks ← marks_at host.1
  branch ← some_text_of (value_of_first marks.0.branch)
  text ← text_of (taken t marks.1)
  Some (record { text = text; sent_by = host.0; branch = branch; bare_rport = marks.0.bare_rport }, marks.1)
