-- What the reader computes of addresses, as functions on lists. The relation (Addresses) is what they come to.
use Rattle.std.specs.Prelude.{ℕ, Bool, false, ◌&&◌, List, [], ◌∷◌, drop, ◌==◌, if◌then◌else◌, Option, Some, None, codes}
use Rattle.std.specs.List.{prefix_len}
use Rattle.std.specs.Str.{byte}
use Rattle.sip_text.specs.declared.scan.Class.TheVariants as class
use Rattle.sip_text.specs.Bytes.{is_in, is_letter}
use Rattle.sip_text.specs.Reading.{◌>>=◌, span_at, after_spaces, after_byte, begins, quoted_at, parameters_of, word_named, text_of}
use Rattle.sip_read.specs.declared.message.Party.{Party}

abbrev pub colon_then_some : List ℕ → Bool
colon_then_some [] = false
colon_then_some (c ∷ []) = false
colon_then_some (c ∷ x ∷ xs) = c == byte ":"

abbrev pub has_scheme : List ℕ → Bool
has_scheme [] = false
has_scheme (x ∷ xs) = is_letter x && colon_then_some (drop (prefix_len (is_in class.Scheme) xs) xs)

unfoldable pub angle_at : List ℕ → Option (List ℕ × List ℕ)
angle_at inner = do
  uri ← span_at (is_in class.Uri) inner
  after ← after_byte (byte ">") uri.1
  if has_scheme uri.0 then Some (uri.0, after) else None

unfoldable pub bare_at : List ℕ → Option (List ℕ × List ℕ)
bare_at text = do
  uri ← span_at (is_in class.Bare) text
  if has_scheme uri.0 then Some uri else None

unfoldable pub after_display : List ℕ → Option (List ℕ)
after_display text = if begins (byte "\"") text then (quoted_at text >>= λ q. Some q.1) else Some (drop (prefix_len (is_in class.Display) text) text)

-- the uri in the angle brackets at the front, behind a display name, and the rest
unfoldable pub bracketed_at : List ℕ → Option (List ℕ × List ℕ)
bracketed_at t = do
  rest ← after_display t
  inner ← after_byte (byte "<") (after_spaces rest)
  angle_at inner

abbrev pub chosen : List ℕ → Option (List ℕ) → Option (List ℕ × List ℕ)
chosen text (Some inner) = angle_at inner
chosen text None = bare_at text

unfoldable pub address_at : List ℕ → Option (List ℕ × List ℕ)
address_at text = chosen text (after_display text >>= λ rest. after_byte (byte "<") (after_spaces rest))

unfoldable pub party_of : List ℕ → Option Party
party_of v = do
  a ← address_at v
  ps ← parameters_of a.1
  tag ← word_named (is_in class.Token) (codes "tag") ps
  text ← text_of v
  Some (record { text = text; tag = tag })

unfoldable pub contact_of : List ℕ → Option (List ℕ)
contact_of v = do
  a ← address_at v
  ps ← parameters_of a.1
  text_of a.0
