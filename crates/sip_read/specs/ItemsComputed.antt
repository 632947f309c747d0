-- What the reader computes of header lines, as functions on lists. The relation (Items) is what they come to.
use Rattle.std.specs.Prelude.{ℕ, List, [], ◌∷◌, ◌++◌, if◌then◌else◌, Option, Some, None, option_map}
use Rattle.std.specs.Str.{is_utf8}
use Rattle.sip_text.specs.declared.scan.Class.TheVariants as class
use Rattle.sip_text.specs.Bytes.{is_in}
use Rattle.sip_text.specs.Reading.{◌>>=◌, span_at, some_of, text_of, all_of, elements_of}
use Rattle.sip_read.specs.declared.datagram.Header.{Header}
use Rattle.sip_read.specs.declared.datagram.Header.TheVariants as headers
use Rattle.sip_read.specs.declared.value.Listed.{Listed}
use Rattle.sip_read.specs.declared.value.Listed.TheVariants as listed
use Rattle.sip_read.specs.Items.{Item, item}
use Rattle.sip_read.specs.AddressesComputed.{bracketed_at, party_of}
use Rattle.sip_read.specs.Headers.{header_named}
use Rattle.sip_read.specs.LinesComputed.{header_of, lines_of}
use Rattle.sip_read.specs.ValuesComputed.{call_id_of, sequence_of}
use Rattle.sip_read.specs.Vias.{Hop}
use Rattle.sip_read.specs.ViasComputed.{taken, hop_at}

unfoldable pub token_at : List ℕ → Option (List ℕ × List ℕ)
token_at t = do
  word ← span_at (is_in class.Token) t
  text ← text_of word.0
  Some (text, word.1)

unfoldable pub route_at : List ℕ → Option (List ℕ × List ℕ)
route_at t = do
  uri ← bracketed_at t
  ps ← some_of uri.1
  text ← text_of (taken t ps.1)
  Some (text, ps.1)

abbrev pub with_via : Option (Hop × List ℕ) → Option (Item × List ℕ)
with_via o = o >>= λ x. Some (item headers.Via x.0, x.1)

abbrev pub with_require : Option (List ℕ × List ℕ) → Option (Item × List ℕ)
with_require o = o >>= λ x. Some (item headers.Require x.0, x.1)

abbrev pub with_route : Option (List ℕ × List ℕ) → Option (Item × List ℕ)
with_route o = o >>= λ x. Some (item headers.RecordRoute x.0, x.1)

abbrev pub element_at : Listed → List ℕ → Option (Item × List ℕ)
element_at listed.Via t = with_via (hop_at t)
element_at listed.Require t = with_require (token_at t)
element_at listed.RecordRoute t = with_route (route_at t)

-- the one value of a line of this header
abbrev pub single_of : Header → List ℕ → Option Item
single_of headers.Via v = None
single_of headers.From v = option_map (item headers.From) (party_of v)
single_of headers.To v = option_map (item headers.To) (party_of v)
single_of headers.CallId v = option_map (item headers.CallId) (call_id_of v)
single_of headers.CSeq v = option_map (item headers.CSeq) (sequence_of v)
single_of headers.ContentLength v = option_map (item headers.ContentLength) (all_of (is_in class.Digit) v)
single_of headers.Require v = None
single_of headers.RecordRoute v = None
single_of headers.Other v = None
single_of header v = Some (item header v)

abbrev pub alone : Option Item → Option (List Item)
alone o = option_map (λ x. x ∷ []) o

abbrev pub line_values : Header → List ℕ → Option (List Item)
line_values headers.Via v = elements_of (element_at listed.Via) v
line_values headers.Require v = elements_of (element_at listed.Require) v
line_values headers.RecordRoute v = elements_of (element_at listed.RecordRoute) v
line_values headers.Other v = Some []
line_values header v = alone (single_of header v)

-- the values of a line
unfoldable pub line_items : List ℕ → Option (List Item)
line_items line = if is_utf8 line then (header_of line >>= λ h. line_values (header_named h.0) h.1) else None

-- the values of lines
unfoldable pub items_of : List (List ℕ) → Option (List Item)
items_of [] = Some []
items_of (line ∷ lines) = do
  xs ← line_items line
  others ← items_of lines
  Some (xs ++ others)

-- the values of the header lines up to the empty line, and what follows that
abbrev pub section_of : List ℕ → Option (List Item × List ℕ)
section_of t = lines_of t >>= λ h. items_of h.0 >>= λ xs. Some (xs, h.1)
