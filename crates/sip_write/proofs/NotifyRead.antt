-- A written NOTIFY is read as the request with its values.
use Rattle.std.proofs.Math.Seq.{take-length}
use Rattle.std.proofs.Common.{◌≡◌, ◌≢◌, ℕ, suc, ◌<◌, ◌≤◌, ◌+◌, ◌^◌, Bool, true, false, List, [], ◌∷◌, ◌++◌, length, take, map, Option, Some, None, option_map, refl, sym, ap, subst, ◌∙◌, append_assoc, append-nil, arith, codes, decimal, inl, inr}
use Rattle.std.specs.Prelude.{All, IfSome, slice_index}
use Rattle.std.proofs.lemmas.Bool.Decides.{nat_tests}
use Rattle.std.proofs.lemmas.List.{length-append}
use Rattle.sip_text.specs.declared.scan.Class.TheVariants as class
use Rattle.sip_text.specs.Bytes.{is_in}
use Rattle.sip_text.specs.Grammar.{AllPassing, IsWord, Parameter, IsParameter, AreParameters, has_name, values_named}
use Rattle.sip_text.specs.Grammar.{IsToken, IsSmallToken}
use Rattle.event_headers.specs.Headers.{IsEventValue, IsStateValue, Fits}
use Rattle.event_headers.specs.Values.{EventValue, StateValue}
use Rattle.event_headers.specs.Written.{parameter_text, event_text, state_text}
use Rattle.sip_text.proofs.NotEmpty.{cons_some, some_behind, some_before}
use Rattle.sip_text.proofs.Numerals.{spelled}
use Rattle.sip_text.proofs.Trims.{all-append}
use Rattle.event_headers.proofs.WrittenTexts.{event_again_read}
use Rattle.sip_read.specs.declared.value.Sequence.{Sequence}
use Rattle.sip_read.specs.declared.datagram.Header.TheVariants as headers
use Rattle.sip_text.specs.declared.address.Addr.{Addr}
use Rattle.sip_read.specs.declared.message.Party.{Party}
use Rattle.sip_read.specs.Addresses.{IsParty, IsContact}
use Rattle.sip_read.specs.Calls.{is_visible, IsSequence}
use Rattle.sip_read.specs.FirstLine.{request, IsRequestLine}
use Rattle.sip_read.specs.Items.{Item, item}
use Rattle.sip_read.specs.Message.{HasHead}
use Rattle.sip_read.specs.Vias.{Hop, IsHop}
use Rattle.sip_read.proofs.PlainLines.{on_wire, IsPlain, ArePlain, plain_head}
use Rattle.sip_text.specs.Addresses.{addr_text, ip_text}
use Rattle.sip_write.specs.Lines.{joined, header, contact_text}
use Rattle.sip_write.specs.Notify.{NotifyText, request_line, via_text, dialog_lines, event_lines, notify_lines, notify_text}
use Rattle.sip_write.specs.ReadAgain.{IsAddr, IsFieldText, IsNotify, branch_text, NotifyIsReadAgain}
use Rattle.sip_write.proofs.FieldTexts.{all_within, visible_line, token_visible, digit_visible, uri_visible, field_more, visible_field, spaced_field, decimal_visible, literal_name, plain}

-- ---- the whole as lines

-- the lines, the empty line, and what follows
pub wire : (lines : List (List ℕ)) (rest : List ℕ) → joined (lines ++ [] ∷ []) ++ rest ≡ on_wire lines ++ 13 ∷ 10 ∷ rest
unfolding joined
wire [] rest = refl
wire (line ∷ lines) rest =
    append_assoc line (13 ∷ 10 ∷ joined (lines ++ [] ∷ [])) rest
    ∙ ap (λ (l : List ℕ). line ++ 13 ∷ 10 ∷ l) (wire lines rest)
    ∙ sym (append_assoc line (13 ∷ 10 ∷ on_wire lines) (13 ∷ 10 ∷ rest))

pub joined_first : (line : List ℕ) (lines : List (List ℕ)) (rest : List ℕ) → joined (line ∷ lines) ++ rest ≡ line ++ 13 ∷ 10 ∷ (joined lines ++ rest)
unfolding joined
joined_first line lines rest = append_assoc line (13 ∷ 10 ∷ joined lines) rest

-- those between the first and the empty one
abbrev pub middle_lines : NotifyText → List (List ℕ)
middle_lines n =
    header (codes "Via") (via_text n) ∷ header (codes "Max-Forwards") (codes "70")
    ∷ (map (header (codes "Route")) n.routes ++ (dialog_lines n ++ (event_lines n ++ header (codes "Content-Type") n.content_type ∷ header (codes "Content-Length") (decimal (length n.body)) ∷ [])))

pub notify_is : (n : NotifyText) → notify_text n ≡ request_line n.target ++ 13 ∷ 10 ∷ (on_wire (middle_lines n) ++ 13 ∷ 10 ∷ n.body)
unfolding notify_text notify_lines
notify_is n =
    let routes : List (List ℕ) = map (header (codes "Route")) n.routes in
    let behind : List (List ℕ) = dialog_lines n ++ (event_lines n ++ header (codes "Content-Type") n.content_type ∷ header (codes "Content-Length") (decimal (length n.body)) ∷ []) in
    let split : notify_lines n ≡ request_line n.target ∷ (middle_lines n ++ [] ∷ []) =
    ap (λ (ls : List (List ℕ)). request_line n.target ∷ header (codes "Via") (via_text n) ∷ header (codes "Max-Forwards") (codes "70") ∷ ls) (sym (append_assoc routes behind ([] ∷ []))) in
    ap (λ (ls : List (List ℕ)). joined ls ++ n.body) split ∙ joined_first (request_line n.target) (middle_lines n ++ [] ∷ []) n.body ∙ ap (λ (l : List ℕ). request_line n.target ++ 13 ∷ 10 ∷ l) (wire (middle_lines n) n.body)

-- ---- addresses

addr_bytes : (p : ℕ → Bool) → ((x : ℕ) → is_in class.Digit x ≡ true → p x ≡ true) → p 46 ≡ true → p 58 ≡ true → (a : Addr) → IsAddr a → AllPassing p (addr_text a)
addr_bytes p f dot colon a is =
    let ip : List ℕ = ip_text a.ip in
    all-append p ip (58 ∷ decimal a.port) ip_all (behind 58 colon (decimal a.port) (number a.port (omega (arith, is.port)))) where
      behind : (c : ℕ) → p c ≡ true → (t : List ℕ) → AllPassing p t → AllPassing p (c ∷ t)
      behind c e t all = rw e all

      number : (n : ℕ) → n < 2 ^ 64 → AllPassing p (decimal n)
      number n small = all_within (is_in class.Digit) p f (decimal n) (spelled n small).0.0

      byte : (i : ℕ) → AllPassing p (decimal (slice_index a.ip i))
      byte i = number (slice_index a.ip i) (omega (arith, is.bytes i))

      dotted : (t u : List ℕ) → AllPassing p t → AllPassing p u → AllPassing p (t ++ 46 ∷ u)
      dotted t u x y = all-append p t (46 ∷ u) x (behind 46 dot u y)

      ip_all : AllPassing p (ip_text a.ip)
      ip_all = dotted (decimal (slice_index a.ip 0)) _ (byte 0) (dotted (decimal (slice_index a.ip 1)) _ (byte 1) (dotted (decimal (slice_index a.ip 2)) _ (byte 2) (byte 3)))

pub addr_visible : (a : Addr) → IsAddr a → AllPassing is_visible (addr_text a)
addr_visible a is = addr_bytes is_visible digit_visible refl refl a is

addr_some : (a : Addr) → addr_text a ≢ []
addr_some a = some_behind (ip_text a.ip) (58 ∷ decimal a.port) (cons_some 58 (decimal a.port))

digit_host : (x : ℕ) → is_in class.Digit x ≡ true → is_in class.Host x ≡ true
digit_host x e = grind (arith, nat_tests)

digit_uri : (x : ℕ) → is_in class.Digit x ≡ true → is_in class.Uri x ≡ true
digit_uri x e = grind (arith, nat_tests)

pub token_value : (x : ℕ) → is_in class.Token x ≡ true → is_in class.Value x ≡ true
token_value x e = grind (arith, nat_tests)

pub digit_value : (x : ℕ) → is_in class.Digit x ≡ true → is_in class.Value x ≡ true
digit_value x e = grind (arith, nat_tests)

-- ---- Via

abbrev hop : NotifyText → Hop
hop n = record { text = via_text n; sent_by = addr_text n.me; branch = Some (branch_text n); bare_rport = false }

abbrev branch : NotifyText → Parameter
branch n = record { name = codes "branch"; value = Some (branch_text n) }

branch_bytes : (p : ℕ → Bool) → AllPassing p (codes "z9hG4bK-") → p 45 ≡ true → ((x : ℕ) → is_in class.Token x ≡ true → p x ≡ true) → ((x : ℕ) → is_in class.Digit x ≡ true → p x ≡ true) → (n : NotifyText)
    → AllPassing (is_in class.Token) n.local_tag → n.number < 2 ^ 64 → AllPassing p (branch_text n)
branch_bytes p cookie dash token digit n tag small =
    let number : AllPassing p (decimal n.number) = all_within (is_in class.Digit) p digit (decimal n.number) (spelled n.number small).0.0 in
    let behind : AllPassing p (45 ∷ decimal n.number) = rw dash number in
    all-append p (codes "z9hG4bK-") (n.local_tag ++ 45 ∷ decimal n.number) cookie (all-append p n.local_tag (45 ∷ decimal n.number) (all_within (is_in class.Token) p token n.local_tag tag) behind)

branch_is : (n : NotifyText) → AllPassing (is_in class.Token) n.local_tag → n.number < 2 ^ 64 → IsParameter (59 ∷ (codes "branch" ++ 61 ∷ branch_text n)) (branch n)
branch_is n tag small = record {
  before = [];
  behind = [];
  assigned = 61 ∷ branch_text n;
  spaces_before = refl;
  spaces_behind = refl;
  name = literal_name 98 (codes "ranch") refl;
  value = ([], [], refl, refl, inr (branch_bytes (is_in class.Value) refl refl token_value digit_value n tag small, cons_some 122 _), refl);
  whole = refl;
}

hop_is : (n : NotifyText) → IsAddr n.me → AllPassing (is_in class.Token) n.local_tag → n.number < 2 ^ 64 → IsHop (via_text n) (hop n)
hop_is n me tag small = record {
  protocol = codes "SIP/2.0/UDP ";
  behind = 59 ∷ (codes "branch" ++ 61 ∷ branch_text n);
  parameters = branch n ∷ [];
  is_protocol = record {
    first = codes "SIP/";
    second = codes "2.0/";
    transport = codes "UDP";
    gap = 32 ∷ [];
    sip = record { name = codes "SIP"; left = []; right = []; is_word = literal_name 83 (codes "IP") refl; same = refl; spaces_left = refl; spaces_right = refl; whole = refl };
    version = record { name = codes "2.0"; left = []; right = []; is_word = literal_name 50 (codes ".0") refl; same = refl; spaces_left = refl; spaces_right = refl; whole = refl };
    is_transport = literal_name 85 (codes "DP") refl;
    spaces = (refl, cons_some 32 []);
    whole = refl;
  };
  host = (addr_bytes (is_in class.Host) digit_host refl refl n.me me, addr_some n.me);
  are = (59 ∷ (codes "branch" ++ 61 ∷ branch_text n), [], branch_is n tag small, refl, sym (append-nil _));
  branch = refl;
  bare_rport = refl;
  same = refl;
  whole = refl;
}

via_field : (n : NotifyText) → IsAddr n.me → AllPassing (is_in class.Token) n.local_tag → n.number < 2 ^ 64 → IsFieldText (via_text n)
via_field n me tag small =
    let behind : AllPassing is_visible (59 ∷ (codes "branch" ++ 61 ∷ branch_text n)) = branch_bytes is_visible refl refl token_visible digit_visible n tag small in
    spaced_field (codes "SIP/2.0/UDP") (addr_text n.me ++ 59 ∷ (codes "branch" ++ 61 ∷ branch_text n)) refl (cons_some 83 (codes "IP/2.0/UDP"))
    (all-append is_visible (addr_text n.me) _ (addr_visible n.me me) behind)
    (some_before (addr_text n.me) _ (addr_some n.me))

via_line : (n : NotifyText) → IsAddr n.me → AllPassing (is_in class.Token) n.local_tag → n.number < 2 ^ 64 → IsPlain (header (codes "Via") (via_text n)) (item headers.Via (hop n) ∷ [])
via_line n me tag small = plain (codes "Via") (via_text n) (item headers.Via (hop n) ∷ []) (literal_name 86 (codes "ia") refl) (via_field n me tag small) ((hop n, hop_is n me tag small, refl), refl)

-- ---- the party of this server

parameters_more : (ps : List Parameter) (text more : List ℕ) (p : Parameter) → AreParameters text ps → IsParameter more p → AreParameters (text ++ more) (ps ++ p ∷ [])
parameters_more [] text more p are is = (more, [], is, refl, ap (λ (t : List ℕ). t ++ more) are ∙ sym (append-nil more))
parameters_more (q ∷ ps) text more p are is = (are.0, are.1 ++ more, are.2, parameters_more ps are.1 more p are.3 is, ap (λ (t : List ℕ). t ++ more) are.4 ∙ append_assoc are.0 are.1 more)

named-append : (name : List ℕ) (ps qs : List Parameter) → values_named name (ps ++ qs) ≡ values_named name ps ++ values_named name qs
named-append name [] qs = refl
named-append name (p ∷ ps) qs = step (named-append name ps qs) (has_name name p) refl where
  step : values_named name (ps ++ qs) ≡ values_named name ps ++ values_named name qs → (b : Bool) → has_name name p ≡ b
      → values_named name (p ∷ (ps ++ qs)) ≡ values_named name (p ∷ ps) ++ values_named name qs
  step more true e = rw e (ap (λ (l : List (Option (List ℕ))). p.value ∷ l) more)
  step more false e = rw e more

tag_is : (tag : List ℕ) → IsWord class.Token tag → IsParameter (parameter_text (codes "tag") (Some tag)) (record { name = codes "tag"; value = Some tag })
tag_is tag w = record {
  before = [];
  behind = [];
  assigned = 61 ∷ tag;
  spaces_before = refl;
  spaces_behind = refl;
  name = literal_name 116 (codes "ag") refl;
  value = ([], [], refl, refl, inr (all_within (is_in class.Token) (is_in class.Value) token_value tag w.0, w.1), refl);
  whole = refl;
}

-- a party without a tag, and a tag behind it
pub tagged : (party tag : List ℕ) → IsParty party (record { text = party; tag = None }) → IsWord class.Token tag
    → IsParty (party ++ parameter_text (codes "tag") (Some tag)) (record { text = party ++ parameter_text (codes "tag") (Some tag); tag = Some tag })
tagged party tag is w = record {
  address = is.address;
  uri = is.uri;
  behind = is.behind ++ parameter_text (codes "tag") (Some tag);
  parameters = is.parameters ++ record { name = codes "tag"; value = Some tag } ∷ [];
  is_address = is.is_address;
  are = parameters_more is.parameters is.behind (parameter_text (codes "tag") (Some tag)) (record { name = codes "tag"; value = Some tag }) is.are (tag_is tag w);
  tag = (named-append (codes "tag") is.parameters (record { name = codes "tag"; value = Some tag } ∷ []) ∙ ap (λ (l : List (Option (List ℕ))). l ++ Some tag ∷ []) is.tag, w);
  same = refl;
  whole = ap (λ (t : List ℕ). t ++ parameter_text (codes "tag") (Some tag)) is.whole ∙ append_assoc is.address is.behind (parameter_text (codes "tag") (Some tag));
}

pub tag_visible : (tag : List ℕ) → IsWord class.Token tag → AllPassing is_visible (parameter_text (codes "tag") (Some tag))
tag_visible tag w = all_within (is_in class.Token) is_visible token_visible tag w.0

-- ---- the event and the state

parameter_visible : (name : List ℕ) → AllPassing is_visible name → (o : Option (List ℕ)) → IfSome o (AllPassing is_visible) → AllPassing is_visible (parameter_text name o)
parameter_visible name all None h = refl
parameter_visible name all (Some v) h = all-append is_visible name (61 ∷ v) all h

some_token : (o : Option (List ℕ)) → IfSome o IsToken → IfSome o (AllPassing is_visible)
some_token None h = tt
some_token (Some v) h = all_within (is_in class.Token) is_visible token_visible v h.0

some_small : (o : Option (List ℕ)) → IfSome o IsSmallToken → IfSome o (AllPassing is_visible)
some_small None h = tt
some_small (Some v) h = all_within (is_in class.Token) is_visible token_visible v h.0.0

some_number : (o : Option ℕ) → IfSome o Fits → IfSome (option_map decimal o) (AllPassing is_visible)
some_number None h = tt
some_number (Some n) h = decimal_visible n (omega (arith, h))

pub event_visible : (e : EventValue) → IsEventValue e → AllPassing is_visible (event_text e)
event_visible e h =
    all-append is_visible e.«package» (parameter_text (codes "id") e.id) (all_within (is_in class.Token) is_visible token_visible e.«package» h.0.0) (parameter_visible (codes "id") refl e.id (some_token e.id h.1))

pub state_visible : (s : StateValue) → IsStateValue s → AllPassing is_visible (state_text s)
state_visible s h =
    let expires = parameter_visible (codes "expires") refl (option_map decimal s.expires) (some_number s.expires h.1) in
    let reason = parameter_visible (codes "reason") refl s.reason (some_small s.reason h.2) in
    let retry_after = parameter_visible (codes "retry-after") refl (option_map decimal s.retry_after) (some_number s.retry_after h.3) in
    all-append is_visible s.word _ (all_within (is_in class.Token) is_visible token_visible s.word h.0.0.0)
    (all-append is_visible (parameter_text (codes "expires") (option_map decimal s.expires)) _ expires
    (all-append is_visible (parameter_text (codes "reason") s.reason) _ reason retry_after))

-- ---- the lines

-- such lines one by one, each with one value or with none
pub data Laid : List (List ℕ) → List Item → Type 0 where
  done : Laid [] []
  one : {line : List ℕ} {lines : List (List ℕ)} {x : Item} {xs : List Item} → IsPlain line (x ∷ []) → Laid lines xs → Laid (line ∷ lines) (x ∷ xs)
  none : {line : List ℕ} {lines : List (List ℕ)} {xs : List Item} → IsPlain line [] → Laid lines xs → Laid (line ∷ lines) xs

pub laid_plain : {lines : List (List ℕ)} {xs : List Item} → Laid lines xs → ArePlain lines xs
laid_plain done = refl
laid_plain (one {line} {lines} {x} {xs} is h) = (x ∷ [], xs, is, laid_plain h, refl)
laid_plain (none {line} {lines} {xs} is h) = ([], xs, is, laid_plain h, refl)

pub first_field : (t : List ℕ) (ts : List (List ℕ)) → All IsFieldText (t ∷ ts) → IsFieldText t
first_field t ts h = h 0 t (omega arith)

pub other_fields : (t : List ℕ) (ts : List (List ℕ)) → All IsFieldText (t ∷ ts) → All IsFieldText ts
other_fields t ts h = λ k d lt. h (suc k) d (omega (arith, lt))

routes_laid : (routes : List (List ℕ)) (lines : List (List ℕ)) (xs : List Item) → All IsFieldText routes → Laid lines xs → Laid (map (header (codes "Route")) routes ++ lines) xs
routes_laid [] lines xs h are = are
routes_laid (r ∷ routes) lines xs h are = none (plain (codes "Route") r [] (literal_name 82 (codes "oute") refl) (first_field r routes h) refl) (routes_laid routes lines xs (other_fields r routes h) are)

abbrev local_party : NotifyText → Party
local_party n = record { text = n.local ++ parameter_text (codes "tag") (Some n.local_tag); tag = Some n.local_tag }

abbrev sequence : NotifyText → Sequence
sequence n = record { number = n.number; method = codes "NOTIFY" }

abbrev items : NotifyText → Party → List Item
items n remote =
    item headers.Via (hop n) ∷ item headers.From (local_party n) ∷ item headers.To remote ∷ item headers.CallId n.call_id ∷ item headers.CSeq (sequence n) ∷ item headers.Contact (contact_text n.me) ∷ item headers.Event (event_text n.event)
    ∷ item headers.ContentLength (decimal (length n.body)) ∷ []

sequence_is : (n : NotifyText) → n.number < 2 ^ 31 → IsSequence (decimal n.number ++ codes " NOTIFY") (sequence n)
sequence_is n small =
    let s = spelled n.number (omega arith) in
    record { digits = decimal n.number; gap = 32 ∷ []; are_digits = s.0; are_spaces = (refl, cons_some 32 []); method = literal_name 78 (codes "OTIFY") refl; number = sym s.1; small = small; whole = refl }

pub contact_visible : (a : Addr) → IsAddr a → AllPassing is_visible (contact_text a)
contact_visible a is = all-append is_visible (addr_text a) (62 ∷ []) (addr_visible a is) refl

contact_is : (a : Addr) → IsAddr a → IsContact (contact_text a) (codes "sip:" ++ addr_text a)
contact_is a is = record {
  address = contact_text a;
  behind = [];
  parameters = [];
  is_address = inl ([], [], inr refl, refl, (115, codes "ip", addr_text a, refl, refl, addr_some a, refl, addr_bytes (is_in class.Uri) digit_uri refl refl a is), refl);
  are = refl;
  whole = sym (append-nil (contact_text a));
}

unfoldable pub tail_lines : NotifyText → List (List ℕ)
tail_lines n = dialog_lines n ++ (event_lines n ++ header (codes "Content-Type") n.content_type ∷ header (codes "Content-Length") (decimal (length n.body)) ∷ [])

tail_items : NotifyText → Party → List Item
tail_items n remote =
    item headers.From (local_party n) ∷ item headers.To remote ∷ item headers.CallId n.call_id ∷ item headers.CSeq (sequence n) ∷ item headers.Contact (contact_text n.me) ∷ item headers.Event (event_text n.event) ∷ item headers.ContentLength (decimal (length n.body)) ∷ []

tail_laid : (n : NotifyText) (remote : Party) → IsNotify n remote → length n.body < 2 ^ 64 → Laid (tail_lines n) (tail_items n remote)
unfolding tail_lines tail_items
tail_laid n remote h small =
    let number : n.number < 2 ^ 64 = omega (arith, h.number) in
    let size = spelled (length n.body) small in
    let s = spelled n.number number in
    let from_field = field_more n.local (parameter_text (codes "tag") (Some n.local_tag)) h.local_text (visible_field _ (tag_visible n.local_tag h.local_tag)) in
    let cseq_field = spaced_field (decimal n.number) (codes "NOTIFY") (decimal_visible n.number number) s.0.1 refl (cons_some 78 (codes "OTIFY")) in
    one (plain (codes "From") _ (item headers.From (local_party n) ∷ []) (literal_name 70 (codes "rom") refl) from_field (local_party n, tagged n.local n.local_tag h.local h.local_tag, refl))
    (one (plain (codes "To") n.remote (item headers.To remote ∷ []) (literal_name 84 (codes "o") refl) h.remote_text (remote, h.is_remote, refl))
    (one (plain (codes "Call-ID") n.call_id (item headers.CallId n.call_id ∷ []) (literal_name 67 (codes "all-ID") refl) (visible_field n.call_id h.call_id.0) (h.call_id, refl))
    (one (plain (codes "CSeq") _ (item headers.CSeq (sequence n) ∷ []) (literal_name 67 (codes "Seq") refl) cseq_field (sequence n, sequence_is n h.number, refl))
    (one (plain (codes "Contact") (contact_text n.me) (item headers.Contact (contact_text n.me) ∷ []) (literal_name 67 (codes "ontact") refl) (visible_field _ (contact_visible n.me h.me)) refl)
    (one (plain (codes "Event") (event_text n.event) (item headers.Event (event_text n.event) ∷ []) (literal_name 69 (codes "vent") refl) (visible_field _ (event_visible n.event h.event)) refl)
    (none (plain (codes "Subscription-State") (state_text n.state) [] (literal_name 83 (codes "ubscription-State") refl) (visible_field _ (state_visible n.state h.state)) refl)
    (none (plain (codes "Content-Type") n.content_type [] (literal_name 67 (codes "ontent-Type") refl) h.content_type refl)
    (one (plain (codes "Content-Length") (decimal (length n.body)) (item headers.ContentLength (decimal (length n.body)) ∷ []) (literal_name 67 (codes "ontent-Length") refl) (visible_field _ (decimal_visible (length n.body) small)) (size.0, refl))
    done))))))))

lines_plain : (n : NotifyText) (remote : Party) → IsNotify n remote → length n.body < 2 ^ 64 → ArePlain (middle_lines n) (items n remote)
unfolding tail_lines tail_items
lines_plain n remote h small =
    let number : n.number < 2 ^ 64 = omega (arith, h.number) in
    let max : IsPlain (header (codes "Max-Forwards") (codes "70")) [] = plain (codes "Max-Forwards") (codes "70") [] (literal_name 77 (codes "ax-Forwards") refl) (visible_field (codes "70") refl) refl in
    laid_plain (one (via_line n h.me h.local_tag.0 number) (none max (routes_laid n.routes (tail_lines n) (tail_items n remote) h.routes (tail_laid n remote h small))))

request_line_is : (target : List ℕ) → IsWord class.Uri target → IsRequestLine (request_line target) (codes "NOTIFY") target
request_line_is target w = record { version = codes "SIP/2.0"; is_method = literal_name 78 (codes "OTIFY") refl; is_uri = w; sip = refl; whole = refl }

request_line_bytes : (target : List ℕ) → IsWord class.Uri target → AllPassing (is_in class.Line) (request_line target)
request_line_bytes target w = all-append (is_in class.Line) target (codes " SIP/2.0") (all_within is_visible (is_in class.Line) visible_line target (all_within (is_in class.Uri) is_visible uri_visible target w.0)) refl

pub reads_again : NotifyIsReadAgain
reads_again n remote h small =
    let line : List ℕ = request_line n.target in
    let wired : List ℕ = on_wire (middle_lines n) in
    let whole : notify_text n ≡ line ++ 13 ∷ 10 ∷ (wired ++ 13 ∷ 10 ∷ n.body) = notify_is n in
    let sizes : length (notify_text n) ≡ length line + length (13 ∷ 10 ∷ (wired ++ 13 ∷ 10 ∷ n.body)) = ap length whole ∙ length-append line (13 ∷ 10 ∷ (wired ++ 13 ∷ 10 ∷ n.body)) in
    let body : length n.body ≤ 65535 = omega (arith, sizes, small, length-append wired (13 ∷ 10 ∷ n.body)) in
    let fits : length (line ++ 13 ∷ 10 ∷ (wired ++ 13 ∷ 10 ∷ n.body)) ≤ 65535 = omega (arith, ap length whole, small) in
    let head = plain_head line (request (codes "NOTIFY") n.target) (middle_lines n) (items n remote) n.body (request_line_bytes n.target h.target) (request_line_is n.target h.target)
    (lines_plain n remote h (omega (arith, body))) fits in
    let size = spelled (length n.body) (omega (arith, body)) in
    record {
      items = items n remote;
      rest = n.body;
      cut = subst (λ (t : List ℕ). HasHead t (request (codes "NOTIFY") n.target) (items n remote) n.body) (sym whole) head;
      head = record { top = hop n; others = []; hops = refl; vias = refl; top_via = refl; from = refl; to = refl; call_id = refl; cseq = refl };
      event = event_again_read n.event h.event;
      expires = refl;
      accept = refl;
      contact = contact_is n.me h.me;
      refer_to = refl;
      refer_sub = refl;
      require = refl;
      record_routes = refl;
      body = (omega (arith, size.1), sym (ap (λ (k : ℕ). take k n.body) size.1 ∙ take-length n.body));
    }
