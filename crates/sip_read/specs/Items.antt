-- Header lines, and what they say value by value (RFC 3261 section 7.3).
use Rattle.std.specs.Prelude.{◌≡◌, ℕ, List, [], ◌∷◌, ◌++◌, Option, Some, None}
use Rattle.std.specs.List.{filter_map}
use Rattle.std.specs.Str.{byte, IsUtf8}
use Rattle.sip_text.specs.declared.scan.Class.TheVariants as class
use Rattle.sip_text.specs.Grammar.{AreSpaces, IsWord, IsTrimmed, AreElements}
use Rattle.sip_read.specs.declared.value.Sequence.{Sequence}
use Rattle.sip_read.specs.declared.datagram.Header.{Header}
use Rattle.sip_read.specs.declared.datagram.Header.TheVariants as headers
use Rattle.sip_read.specs.declared.value.Listed.{Listed}
use Rattle.sip_read.specs.declared.value.Listed.TheVariants as listed
use Rattle.sip_read.specs.declared.message.Party.{Party}
use Rattle.sip_read.specs.Addresses.{IsParty, IsRoute}
use Rattle.sip_read.specs.Calls.{IsCallId, IsSequence}
use Rattle.sip_read.specs.Headers.{header_named}
use Rattle.sip_read.specs.Vias.{Hop, IsHop}

-- what a value of a header is: of Via, From, To and CSeq its parts, of any other its text. Contact, Event, Expires, Accept, Refer-To and
-- Refer-Sub are as written, since no value of theirs makes a line bad
abbrev pub ValueOf : Header → Type 0
ValueOf headers.Via = Hop
ValueOf headers.From = Party
ValueOf headers.To = Party
ValueOf headers.CSeq = Sequence
ValueOf _ = List ℕ

-- a header and a value of it
pub data Item : Type 0 where
  item : (header : Header) → ValueOf header → Item

-- the value, if it is one of this header
abbrev pub value_in : (header : Header) → Item → Option (ValueOf header)
value_in headers.Via (item headers.Via v) = Some v
value_in headers.From (item headers.From v) = Some v
value_in headers.To (item headers.To v) = Some v
value_in headers.CallId (item headers.CallId v) = Some v
value_in headers.CSeq (item headers.CSeq v) = Some v
value_in headers.ContentLength (item headers.ContentLength v) = Some v
value_in headers.Contact (item headers.Contact v) = Some v
value_in headers.Event (item headers.Event v) = Some v
value_in headers.Expires (item headers.Expires v) = Some v
value_in headers.Accept (item headers.Accept v) = Some v
value_in headers.ReferTo (item headers.ReferTo v) = Some v
value_in headers.ReferSub (item headers.ReferSub v) = Some v
value_in headers.Require (item headers.Require v) = Some v
value_in headers.RecordRoute (item headers.RecordRoute v) = Some v
value_in _ _ = None

-- the values of a header, in order
abbrev pub values_of : (header : Header) → List Item → List (ValueOf header)
values_of header items = filter_map (value_in header) items

-- an element of a list
abbrev pub IsElement : Listed → List ℕ → Item → Type 0
IsElement listed.Via text x = (h : Hop) × IsHop text h × (x ≡ item headers.Via h)
IsElement listed.Require text x = IsWord class.Token text × (x ≡ item headers.Require text)
IsElement listed.RecordRoute text x = IsRoute text × (x ≡ item headers.RecordRoute text)

-- the values that a line of this header may have
abbrev pub AreValues : Header → List ℕ → List Item → Type 0
AreValues headers.Via v xs = AreElements (IsElement listed.Via) v xs
AreValues headers.From v xs = (p : Party) × IsParty v p × (xs ≡ item headers.From p ∷ [])
AreValues headers.To v xs = (p : Party) × IsParty v p × (xs ≡ item headers.To p ∷ [])
AreValues headers.CallId v xs = IsCallId v × (xs ≡ item headers.CallId v ∷ [])
AreValues headers.CSeq v xs = (s : Sequence) × IsSequence v s × (xs ≡ item headers.CSeq s ∷ [])
AreValues headers.ContentLength v xs = IsWord class.Digit v × (xs ≡ item headers.ContentLength v ∷ [])
AreValues headers.Require v xs = AreElements (IsElement listed.Require) v xs
AreValues headers.RecordRoute v xs = AreElements (IsElement listed.RecordRoute) v xs
AreValues headers.Other v xs = xs ≡ []
AreValues header v xs = xs ≡ item header v ∷ []

-- a header line in one piece, in UTF-8, and its values
--   line = token WS ":" WS value WS
pub record IsLine (line : List ℕ) (xs : List Item) : Type 0 where
  pub name : List ℕ
  pub gap : List ℕ
  pub left : List ℕ
  pub value : List ℕ
  pub right : List ℕ
  pub is_name : IsWord class.Token name
  pub spaces_gap : AreSpaces gap
  pub spaces_left : AreSpaces left
  pub spaces_right : AreSpaces right
  pub trimmed : IsTrimmed value
  pub are_values : AreValues (header_named name) value xs
  pub whole : line ≡ name ++ (gap ++ byte ":" ∷ (left ++ (value ++ right)))
  pub is_text : IsUtf8 line

-- the values of header lines, in order
abbrev pub AreItems : List (List ℕ) → List Item → Type 0
AreItems [] xs = xs ≡ []
AreItems (line ∷ lines) xs = (first others : List Item) × IsLine line first × AreItems lines others × (xs ≡ first ++ others)
