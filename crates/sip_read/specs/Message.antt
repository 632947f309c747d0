-- Which datagrams are which message, and which are none (RFC 3261 sections 7, 18 and 20). Each relation says that there is some way to cut the bytes.
use Rattle.std.specs.Prelude.{◌≡◌, ℕ, ◌<◌, ◌≤◌, List, [], ◌∷◌, ◌++◌, map, length, take, nat_lt, ◌==◌, Option, Some, None, Result, Ok, Err, find}
use Rattle.std.specs.Str.{byte}
use Rattle.sip_text.specs.declared.field.Field.{Field}
use Rattle.sip_text.specs.declared.field.Field.TheVariants as field
use Rattle.sip_text.specs.declared.scan.Class.TheVariants as class
use Rattle.sip_text.specs.Bytes.{is_in}
use Rattle.sip_text.specs.Grammar.{AllPassing, number_of}
use Rattle.event_headers.specs.Headers.{IsEvent, EventFits, IsExpires, Fits, IsAccept, RangesFit}
use Rattle.sip_read.specs.declared.error.HeaderName.{HeaderName}
use Rattle.sip_read.specs.declared.error.HeaderName.TheVariants as names
use Rattle.sip_read.specs.declared.error.ReadError.{ReadError}
use Rattle.sip_read.specs.declared.error.ReadError.TheVariants as errors
use Rattle.sip_read.specs.declared.datagram.Header.TheVariants as headers
use Rattle.sip_read.specs.declared.message.Head.{Head}
use Rattle.sip_read.specs.declared.message.Message.{Message}
use Rattle.sip_read.specs.declared.message.Message.TheVariants as messages
use Rattle.sip_read.specs.declared.message.Request.{Request}
use Rattle.sip_read.specs.declared.message.Response.{Response}
use Rattle.sip_read.specs.Addresses.{IsContact}
use Rattle.sip_read.specs.FirstLine.{First, request, status, IsFirstLine}
use Rattle.sip_read.specs.Folding.{HasLines}
use Rattle.sip_read.specs.Items.{Item, values_of, AreItems}
use Rattle.sip_read.specs.ReferSub.{IsReferSub}
use Rattle.sip_read.specs.Vias.{Hop, via_of}

-- ---- the datagram cut

-- no UDP datagram has more bytes
abbrev pub IsShort : List ℕ → Type 0
IsShort bytes = length bytes ≤ 65535

-- a first line, which ends at the first CRLF: no control character but HT stands before that
--   first-line CRLF section
abbrev pub HasFirst : List ℕ → First → List ℕ → Type 0
HasFirst bytes first section = IsShort bytes × ((line : List ℕ) × AllPassing (is_in class.Line) line × IsFirstLine line first × (bytes ≡ line ++ byte "\r" ∷ byte "\n" ∷ section))

-- header lines, each with its values, an empty line, and the rest
abbrev pub HasItems : List ℕ → List Item → List ℕ → Type 0
HasItems section xs rest = (lines : List (List ℕ)) × HasLines section lines rest × AreItems lines xs

-- a first line, header lines and an empty line, and the rest
abbrev pub HasHead : List ℕ → First → List Item → List ℕ → Type 0
HasHead bytes first xs rest = (section : List ℕ) × HasFirst bytes first section × HasItems section xs rest

-- ---- what has to stand, and what may stand once

-- how many values of a header there are
abbrev pub count : List Item → HeaderName → ℕ
count xs names.Via = length (values_of headers.Via xs)
count xs names.From = length (values_of headers.From xs)
count xs names.To = length (values_of headers.To xs)
count xs names.CallId = length (values_of headers.CallId xs)
count xs names.CSeq = length (values_of headers.CSeq xs)
count xs names.ContentLength = length (values_of headers.ContentLength xs)

-- the first header that may stand once and stands twice
abbrev pub doubled : List Item → Option HeaderName
doubled xs = find (λ n. nat_lt 1 (count xs n)) (names.From ∷ names.To ∷ names.CallId ∷ names.CSeq ∷ names.ContentLength ∷ [])

-- the first header that has to stand and doesn't
abbrev pub absent : List Item → Option HeaderName
absent xs = find (λ n. count xs n == 0) (names.Via ∷ names.From ∷ names.To ∷ names.CallId ∷ names.CSeq ∷ [])

-- what requests and responses have
pub record IsHead (xs : List Item) (head : Head) : Type 0 where
  pub top : Hop
  pub others : List Hop
  pub hops : values_of headers.Via xs ≡ top ∷ others
  pub vias : head.vias ≡ top.text ∷ map (λ h. h.text) others
  pub top_via : head.top ≡ via_of top
  pub from : values_of headers.From xs ≡ head.from ∷ []
  pub to : values_of headers.To xs ≡ head.to ∷ []
  pub call_id : values_of headers.CallId xs ≡ head.call_id ∷ []
  pub cseq : values_of headers.CSeq xs ≡ record { number = head.cseq; method = head.cseq_method } ∷ []

-- the body: what the Content-Length leaves of the rest
abbrev pub IsBody : List (List ℕ) → List ℕ → List ℕ → Type 0
IsBody [] rest body = body ≡ rest
IsBody (d ∷ []) rest body = (number_of d ≤ length rest) × (body ≡ take (number_of d) rest)
IsBody (d ∷ e ∷ ds) rest body = ⊥

-- ---- what may stand

-- of the values of a header that may stand once: none is Absent, one in the grammar is its value, and anything else is Bad
abbrev pub IsField : {A : Type 0} → (List ℕ → A → Type 0) → List (List ℕ) → Field A → Type 0
IsField Is [] f = f ≡ field.Absent
IsField Is (v ∷ []) field.Absent = ⊥
IsField {A} Is (v ∷ []) field.Bad = (x : A) → Is v x → ⊥
IsField Is (v ∷ []) (field.Value x) = Is v x
IsField Is (v ∷ w ∷ vs) f = f ≡ field.Bad

-- a text in the grammar Is of a header says this value, and the numbers in it fit
abbrev pub IsKept : {A : Type 0} → (List ℕ → A → Type 0) → (A → Type 0) → List ℕ → A → Type 0
IsKept Is FitsIn v x = Is v x × FitsIn x

-- texts with commas between them
abbrev pub with_commas : List ℕ → List (List ℕ) → List ℕ
with_commas text [] = text
with_commas text (v ∷ vs) = with_commas (text ++ byte "," ∷ v) vs

-- Accept: its lines joined with commas are one value
abbrev pub joined_lines : List (List ℕ) → List (List ℕ)
joined_lines [] = []
joined_lines (v ∷ vs) = with_commas v vs ∷ []

-- ---- messages

pub record IsRequest (bytes : List ℕ) (r : Request) : Type 0 where
  pub items : List Item
  pub rest : List ℕ
  pub cut : HasHead bytes (request r.method r.uri) items rest
  pub head : IsHead items r.head
  pub event : IsField (IsKept IsEvent EventFits) (values_of headers.Event items) r.event
  pub expires : IsField (IsKept IsExpires Fits) (values_of headers.Expires items) r.expires
  pub accept : IsField (IsKept IsAccept RangesFit) (joined_lines (values_of headers.Accept items)) r.accept
  pub contact : IsField IsContact (values_of headers.Contact items) r.contact
  pub refer_to : IsField IsContact (values_of headers.ReferTo items) r.refer_to
  pub refer_sub : IsField IsReferSub (values_of headers.ReferSub items) r.refer_sub
  pub require : r.require ≡ values_of headers.Require items
  pub record_routes : r.record_routes ≡ values_of headers.RecordRoute items
  pub body : IsBody (values_of headers.ContentLength items) rest r.body

pub record IsResponse (bytes : List ℕ) (r : Response) : Type 0 where
  pub items : List Item
  pub rest : List ℕ
  pub cut : HasHead bytes (status r.status r.reason) items rest
  pub head : IsHead items r.head
  pub body : List ℕ
  pub is_body : IsBody (values_of headers.ContentLength items) rest body

-- the bytes are this message
abbrev pub Reads : List ℕ → Message → Type 0
Reads bytes (messages.Request r) = IsRequest bytes r
Reads bytes (messages.Response r) = IsResponse bytes r

-- ---- errors, each where the earlier ones are not so

-- the cut of a message none of whose headers stands too often
abbrev pub HasSingle : List ℕ → First → List Item → List ℕ → Type 0
HasSingle bytes first xs rest = HasHead bytes first xs rest × (doubled xs ≡ None)

-- the bytes are wrong in this way
abbrev pub Wrong : List ℕ → ReadError → Type 0
Wrong bytes errors.TooLong = IsShort bytes → ⊥
Wrong bytes errors.NotSip = IsShort bytes × ((first : First) (section : List ℕ) → HasFirst bytes first section → ⊥)
Wrong bytes errors.BadLine = (first : First) × (section : List ℕ) × HasFirst bytes first section × ((xs : List Item) (rest : List ℕ) → HasItems section xs rest → ⊥)
Wrong bytes (errors.Twice n) = (first : First) × (xs : List Item) × (rest : List ℕ) × HasHead bytes first xs rest × (doubled xs ≡ Some n)
Wrong bytes (errors.Missing n) = (first : First) × (xs : List Item) × (rest : List ℕ) × HasSingle bytes first xs rest × (absent xs ≡ Some n)
Wrong bytes errors.ShortBody = (first : First) × (xs : List Item) × (rest : List ℕ) × HasSingle bytes first xs rest × (absent xs ≡ None) × ((d : List ℕ) × (values_of headers.ContentLength xs ≡ d ∷ []) × (length rest < number_of d))
Wrong bytes errors.NoMemory = ⊥

-- what the bytes are: this message, or wrong in this way
abbrev pub Says : List ℕ → Result Message ReadError → Type 0
Says bytes (Ok m) = Reads bytes m
Says bytes (Err e) = Wrong bytes e

-- each datagram is one message or wrong in one way, and in no other
abbrev pub IsExact : Type 0
IsExact = (bytes : List ℕ) → (r : Result Message ReadError) × Says bytes r × ((other : Result Message ReadError) → Says bytes other → r ≡ other)

-- ---- what a call answers

-- want of memory, or this error
abbrev pub Tells : {Y : Type 0} → ReadError → Result Y ReadError → Type 0
Tells errors.NoMemory said = Unit {0}
Tells e said = said ≡ Err e

-- want of memory, or what is said, where an answer's value is seen by view
abbrev pub Answers : {X Y : Type 0} → (X → Y) → Result X ReadError → Result Y ReadError → Type 0
Answers view (Ok x) said = said ≡ Ok (view x)
Answers view (Err e) said = Tells e said

-- want of memory, or what the bytes say
abbrev pub IsReading : List ℕ → Result Message ReadError → Type 0
IsReading bytes (Err errors.NoMemory) = Unit {0}
IsReading bytes answer = Says bytes answer
