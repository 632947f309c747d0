-- What makes a header section bad, cause by cause (RFC 3261 sections 7.3 and 25.1).
use Rattle.std.specs.Prelude.{◌≡◌, ◌≢◌, ℕ, true, false, List, [], ◌∷◌, ◌++◌}
use Rattle.std.specs.Str.{byte, IsUtf8}
use Rattle.sip_text.specs.declared.scan.Class.TheVariants as class
use Rattle.sip_text.specs.Bytes.{is_in, is_space}
use Rattle.sip_text.specs.Grammar.{AllPassing, AreSpaces, IsWord, IsTrimmed, Stops}
use Rattle.sip_read.specs.declared.error.ReadError.TheVariants as errors
use Rattle.sip_read.specs.FirstLine.{First}
use Rattle.sip_read.specs.Folding.{Unfolds, BeginsLine, AreLines}
use Rattle.sip_read.specs.Headers.{header_named}
use Rattle.sip_read.specs.Items.{Item, AreValues}
use Rattle.sip_read.specs.Message.{HasFirst, Wrong}

-- lines as they stand on the wire, none of them empty, each with its CRLF
abbrev pub AreWireLines : List ℕ → List (List ℕ) → Type 0
AreWireLines wire [] = wire ≡ []
AreWireLines wire (line ∷ lines) =
    (others : List ℕ) × AllPassing (is_in class.Line) line × (line ≢ []) × AreWireLines others lines × (wire ≡ line ++ byte "\r" ∷ byte "\n" ∷ others)

-- one of the section's header lines, in one piece: header lines before it, and behind it no line that continues it
pub record HasLine (section line : List ℕ) : Type 0 where
  pub lines : List (List ℕ)
  pub before : List ℕ
  pub wire : List ℕ
  pub after : List ℕ
  pub are_lines : AreLines before lines
  pub unfolds : Unfolds wire line
  pub begins : BeginsLine line
  pub ends : Stops is_space after
  pub whole : section ≡ before ++ (wire ++ byte "\r" ∷ byte "\n" ∷ after)

-- a name and a value
--   line = token WS ":" WS value WS
pub record IsNamed (line name value : List ℕ) : Type 0 where
  pub gap : List ℕ
  pub left : List ℕ
  pub right : List ℕ
  pub is_name : IsWord class.Token name
  pub spaces_gap : AreSpaces gap
  pub spaces_left : AreSpaces left
  pub spaces_right : AreSpaces right
  pub trimmed : IsTrimmed value
  pub whole : line ≡ name ++ (gap ++ byte ":" ∷ (left ++ (value ++ right)))

pub data HasBadLine : List ℕ → Type 0 where
  -- the datagram ends before an empty line
  ends_early : {section : List ℕ} (wire text : List ℕ) (lines : List (List ℕ)) → AreWireLines wire lines → AllPassing (is_in class.Line) text
      → (section ≡ wire ++ text) → HasBadLine section
  -- a control character other than HT, be it CR or LF, that doesn't begin a CRLF
  stray : {section : List ℕ} (wire text after : List ℕ) (x : ℕ) (lines : List (List ℕ)) → AreWireLines wire lines → AllPassing (is_in class.Line) text
      → (is_in class.Line x ≡ false) → ((more : List ℕ) → x ∷ after ≡ byte "\r" ∷ byte "\n" ∷ more → ⊥) → (section ≡ wire ++ (text ++ x ∷ after)) → HasBadLine section
  -- the first line continues none
  continues_none : {section : List ℕ} (x : ℕ) (others : List ℕ) → (is_space x ≡ true) → (section ≡ x ∷ others) → HasBadLine section
  -- a line without a token and a colon
  unnamed : {section : List ℕ} (line : List ℕ) → HasLine section line → ((name value : List ℕ) → IsNamed line name value → ⊥) → HasBadLine section
  -- a line that isn't UTF-8
  no_text : {section : List ℕ} (line : List ℕ) → HasLine section line → (IsUtf8 line → ⊥) → HasBadLine section
  -- a value that isn't in the grammar of its header: of Via, From, To, Call-ID, CSeq, Content-Length, Record-Route or Require
  bad_value : {section : List ℕ} (line name value : List ℕ) → HasLine section line → IsNamed line name value
      → ((xs : List Item) → AreValues (header_named name) value xs → ⊥) → HasBadLine section

-- behind a first line, each of these is a bad line
abbrev pub EachIsABadLine : Type 0
EachIsABadLine = (bytes section : List ℕ) (first : First) → HasFirst bytes first section → HasBadLine section → Wrong bytes errors.BadLine
