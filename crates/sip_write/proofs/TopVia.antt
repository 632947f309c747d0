-- The top Via of an answer is a Via value with the same sent-by and branch.
use Rattle.std.proofs.Common.{◌≡◌, ℕ, Bool, true, false, List, [], ◌∷◌, ◌++◌, Some, refl, sym, ap, subst, ◌∙◌, append_assoc, append-nil, arith, codes, decimal, cond, inr}
use Rattle.std.specs.Prelude.{◌&&◌, not, bytes_eq, is_some, slice_index}
use Rattle.std.specs.List.{list_any, flat_map}
use Rattle.std.specs.Str.{str_eq_ignore_ascii_case, str_to_ascii_lowercase}
use Rattle.std.proofs.lemmas.Slice.Eq.{bytes_eq-Decides}
use Rattle.sip_text.specs.declared.scan.Class.TheVariants as class
use Rattle.sip_text.specs.Bytes.{is_in, is_space, is_token_byte}
use Rattle.sip_text.specs.Grammar.{AllPassing, IsWord, Parameter, IsParameter, AreParameters, has_name}
use Rattle.sip_text.proofs.NotEmpty.{some_before, ends_more}
use Rattle.sip_text.proofs.Numerals.{spelled}
use Rattle.sip_text.proofs.Pieces.{and_both}
use Rattle.sip_text.proofs.Trims.{all-append}
use Rattle.sip_text.specs.declared.address.Addr.{Addr}
use Rattle.sip_read.specs.Vias.{Hop, branch_of, is_bare_rport, IsSlashed, IsProtocol, IsHop}
use Rattle.sip_write.specs.Laws.{is_front_byte, IsViaFront, ArePieces}
use Rattle.sip_text.specs.Addresses.{ip_text}
use Rattle.sip_write.specs.ReadAgain.{IsAddr, TopViaIsReadAgain}
use Rattle.sip_write.specs.Via.{lead_of, host_of, Parts, parts_of, marked_parameter, marked_parts, top_via_text, is_received as is_received_piece, is_bare_rport as is_bare_piece}
use Rattle.sip_write.proofs.FieldTexts.{all_within, literal_name}
use Rattle.sip_write.proofs.NotifyRead.{digit_value}
use Rattle.sip_write.proofs.ViaNames.{lead_and_name, tells}
use Rattle.sip_write.proofs.ViaPieces.{of_class, word_ends, cuts}

-- ---- the front

slashed_front : (word text : List ℕ) → IsSlashed word text → AllPassing is_front_byte text
slashed_front word text is =
    let name = of_class is_token_byte refl refl is.name is.is_word.0 in
    let left = of_class is_space refl refl is.left is.spaces_left in
    let right = of_class is_space refl refl is.right is.spaces_right in
    subst (AllPassing is_front_byte) (sym is.whole) (all-append is_front_byte is.name (is.left ++ 47 ∷ is.right) name (all-append is_front_byte is.left (47 ∷ is.right) left right))

protocol_front : (text : List ℕ) → IsProtocol text → AllPassing is_front_byte text
protocol_front text is =
    let transport = of_class is_token_byte refl refl is.transport is.is_transport.0 in
    let gap = of_class is_space refl refl is.gap is.spaces.0 in
    subst (AllPassing is_front_byte) (sym is.whole)
    (all-append is_front_byte is.first (is.second ++ (is.transport ++ is.gap)) (slashed_front (codes "SIP") is.first is.sip)
    (all-append is_front_byte is.second (is.transport ++ is.gap) (slashed_front (codes "2.0") is.second is.version)
    (all-append is_front_byte is.transport is.gap transport gap)))

pub via_front : (protocol sent_by : List ℕ) → IsProtocol protocol → IsWord class.Host sent_by → IsViaFront (protocol ++ sent_by)
via_front protocol sent_by is host = record {
  bytes = all-append is_front_byte protocol sent_by (protocol_front protocol is) (of_class (is_in class.Host) refl refl sent_by host.0);
  ends = ends_more protocol sent_by host.1 (word_ends (is_in class.Host) (record { sp = refl; ht = refl }) sent_by host.0 host.1);
}

-- ---- the parameters

parameters-append : (ps qs : List Parameter) (x y : List ℕ) → AreParameters x ps → AreParameters y qs → AreParameters (x ++ y) (ps ++ qs)
parameters-append [] qs x y a b = subst (λ (t : List ℕ). AreParameters (t ++ y) qs) (sym a) b
parameters-append (p ∷ ps) qs x y a b = (a.0, a.1 ++ y, a.2, parameters-append ps qs a.1 y a.3 b, ap (λ (t : List ℕ). t ++ y) a.4 ∙ append_assoc a.0 a.1 y)

alone : (text : List ℕ) (p : Parameter) → IsParameter text p → AreParameters text (p ∷ [])
alone text p is = (text, [], is, refl, sym (append-nil text))

abbrev rport_of : Addr → Parameter
rport_of source = record { name = codes "rport"; value = Some (decimal source.port) }

abbrev received_of : Addr → Parameter
received_of source = record { name = codes "received"; value = Some (ip_text source.ip) }

-- what a parameter becomes
marked_as : Addr → Bool → Bool → Parameter → List Parameter
marked_as source true bare p = []
marked_as source false true p = rport_of source ∷ []
marked_as source false false p = p ∷ []

abbrev mark : Addr → Parameter → List Parameter
mark source p = marked_as source (has_name (codes "received") p) (is_bare_rport p) p

port_digits : (source : Addr) → IsAddr source → IsWord class.Digit (decimal source.port)
port_digits source is = (spelled source.port (omega (arith, is.port))).0

rport_is : (source : Addr) (piece : List ℕ) (p : Parameter) → IsAddr source → IsParameter piece p → IsParameter (lead_of piece ++ (codes "rport=" ++ decimal source.port)) (rport_of source)
rport_is source piece p addr is =
    let digits = port_digits source addr in
    record {
      before = is.before;
      behind = is.behind;
      assigned = 61 ∷ decimal source.port;
      spaces_before = is.spaces_before;
      spaces_behind = is.spaces_behind;
      name = literal_name 114 (codes "port") refl;
      value = ([], [], refl, refl, inr (all_within (is_in class.Digit) (is_in class.Value) digit_value (decimal source.port) digits.0, digits.1), refl);
      whole = ap (λ (t : List ℕ). t ++ (codes "rport=" ++ decimal source.port)) (lead_and_name piece p is).0 ∙ append_assoc is.before (59 ∷ is.behind) (codes "rport=" ++ decimal source.port);
    }

piece_marked : (source : Addr) (piece : List ℕ) (p : Parameter) → IsAddr source → IsParameter piece p → AreParameters (marked_parameter source piece) (mark source p)
unfolding marked_parameter marked_as
piece_marked source piece p addr is =
    let told = tells piece p is in
    step (has_name (codes "received") p) (is_bare_rport p) told.0 told.1 where
      step : (r b : Bool) → is_received_piece piece ≡ r → is_bare_piece piece ≡ b → AreParameters (marked_parameter source piece) (marked_as source r b p)
      step true b e f = rw e refl
      step false true e f = rw (e, f) (alone (lead_of piece ++ (codes "rport=" ++ decimal source.port)) (rport_of source) (rport_is source piece p addr is))
      step false false e f = rw (e, f) (alone piece p is)

pieces_marked : (source : Addr) (pieces : List (List ℕ)) (ps : List Parameter) → IsAddr source → ArePieces pieces ps → AreParameters (flat_map (marked_parameter source) pieces) (flat_map (mark source) ps)
pieces_marked source [] [] addr h = refl
pieces_marked source [] (p ∷ ps) addr h = absurd h
pieces_marked source (piece ∷ pieces) [] addr h = absurd h
pieces_marked source (piece ∷ pieces) (p ∷ ps) addr h =
    parameters-append (mark source p) (flat_map (mark source) ps) (marked_parameter source piece) (flat_map (marked_parameter source) pieces) (piece_marked source piece p addr h.0) (pieces_marked source pieces ps addr h.1)

ip_value : (source : Addr) → IsAddr source → IsWord class.Value (ip_text source.ip)
ip_value source is = (all, some_before (decimal (slice_index source.ip 0)) _ (byte 0).1) where
  byte : (i : ℕ) → IsWord class.Digit (decimal (slice_index source.ip i))
  byte i = (spelled (slice_index source.ip i) (omega (arith, is.bytes i))).0

  value : (i : ℕ) → AllPassing (is_in class.Value) (decimal (slice_index source.ip i))
  value i = all_within (is_in class.Digit) (is_in class.Value) digit_value (decimal (slice_index source.ip i)) (byte i).0

  dotted : (t u : List ℕ) → AllPassing (is_in class.Value) t → AllPassing (is_in class.Value) u → AllPassing (is_in class.Value) (t ++ 46 ∷ u)
  dotted t u x y = all-append (is_in class.Value) t (46 ∷ u) x y

  all : AllPassing (is_in class.Value) (ip_text source.ip)
  all = dotted (decimal (slice_index source.ip 0)) _ (value 0) (dotted (decimal (slice_index source.ip 1)) _ (value 1) (dotted (decimal (slice_index source.ip 2)) _ (value 2) (value 3)))

received_is : (source : Addr) → IsAddr source → IsParameter (codes ";received=" ++ ip_text source.ip) (received_of source)
received_is source addr = record {
  before = [];
  behind = [];
  assigned = 61 ∷ ip_text source.ip;
  spaces_before = refl;
  spaces_behind = refl;
  name = literal_name 114 (codes "eceived") refl;
  value = ([], [], refl, refl, inr (ip_value source addr), refl);
  whole = refl;
}

abbrev marks : Addr → List Parameter → List Parameter
marks source ps = flat_map (mark source) ps ++ received_of source ∷ []

-- ---- what stays

-- two names
other_name : (name : List ℕ) (p : Parameter) → has_name name p ≡ true → str_eq_ignore_ascii_case name (codes "branch") ≡ false → has_name (codes "branch") p ≡ false
other_name name p e apart =
    let same : str_to_ascii_lowercase p.name ≡ str_to_ascii_lowercase name = (bytes_eq-Decides (str_to_ascii_lowercase p.name) (str_to_ascii_lowercase name)).0 e in
    ap (λ (t : List ℕ). bytes_eq t (str_to_ascii_lowercase (codes "branch"))) same ∙ apart

branch_stays : (source : Addr) (ps : List Parameter) → branch_of (marks source ps) ≡ branch_of ps
unfolding marked_as
branch_stays source [] = refl
branch_stays source (p ∷ ps) = step (branch_stays source ps) (has_name (codes "received") p) refl (is_bare_rport p) refl where
  kept : branch_of (marks source ps) ≡ branch_of ps → (b : Bool) → has_name (codes "branch") p ≡ b → branch_of (p ∷ marks source ps) ≡ branch_of (p ∷ ps)
  kept more true e = rw e refl
  kept more false e = rw e more

  step : branch_of (marks source ps) ≡ branch_of ps → (r : Bool) → has_name (codes "received") p ≡ r → (b : Bool) → is_bare_rport p ≡ b
      → branch_of ((marked_as source r b p ++ flat_map (mark source) ps) ++ received_of source ∷ []) ≡ branch_of (p ∷ ps)
  step more true e b f = let apart = other_name (codes "received") p e refl in rw apart more
  step more false e true f =
      let apart = other_name (codes "rport") p (and_both (has_name (codes "rport") p) (not (is_some p.value)) f).0 refl in
      rw apart more
  step more false e false f = kept more (has_name (codes "branch") p) refl

none_bare : (source : Addr) (ps : List Parameter) → list_any is_bare_rport (marks source ps) ≡ false
unfolding marked_as
none_bare source [] = refl
none_bare source (p ∷ ps) = step (none_bare source ps) (has_name (codes "received") p) (is_bare_rport p) refl where
  step : list_any is_bare_rport (marks source ps) ≡ false → (r b : Bool) → is_bare_rport p ≡ b
      → list_any is_bare_rport ((marked_as source r b p ++ flat_map (mark source) ps) ++ received_of source ∷ []) ≡ false
  step more true b f = more
  step more false true f = more
  step more false false f = rw f more

-- ---- the whole value

marked_is_hop : (source : Addr) (text : List ℕ) (h : Hop) → IsAddr source → IsHop text h
    → IsHop (marked_parts source (parts_of text)) (record { text = marked_parts source (parts_of text); sent_by = h.sent_by; branch = h.branch; bare_rport = false })
unfolding marked_parts
marked_is_hop source text h addr is =
    let front : List ℕ = is.protocol ++ h.sent_by in
    let cut = cuts front is.behind is.parameters (via_front is.protocol h.sent_by is.is_protocol is.host) is.are in
    let parts : parts_of text ≡ record { front = front; parameters = cut.0 } = ap parts_of (is.whole ∙ sym (append_assoc is.protocol h.sent_by is.behind)) ∙ cut.2 in
    let behind : List ℕ = flat_map (marked_parameter source) cut.0 ++ (codes ";received=" ++ ip_text source.ip) in
    let are : AreParameters behind (marks source is.parameters) =
    parameters-append (flat_map (mark source) is.parameters) (received_of source ∷ []) (flat_map (marked_parameter source) cut.0) (codes ";received=" ++ ip_text source.ip)
    (pieces_marked source cut.0 is.parameters addr cut.1) (alone (codes ";received=" ++ ip_text source.ip) (received_of source) (received_is source addr)) in
    record {
      protocol = is.protocol;
      behind = behind;
      parameters = marks source is.parameters;
      is_protocol = is.is_protocol;
      host = is.host;
      are = are;
      branch = is.branch ∙ sym (branch_stays source is.parameters);
      bare_rport = sym (none_bare source is.parameters);
      same = refl;
      whole = ap (λ (q : Parts). q.front ++ (flat_map (marked_parameter source) q.parameters ++ (codes ";received=" ++ ip_text source.ip))) parts ∙ append_assoc is.protocol h.sent_by behind;
    }

no_port : (b c : Bool) → (not b && c) ≡ true → b ≡ false
no_port true c e = absurd cc
no_port false c e = refl

pub top_again : TopViaIsReadAgain
unfolding top_via_text
top_again source text h addr is = step (not h.bare_rport && bytes_eq (host_of h.sent_by) (ip_text source.ip)) refl where
  step : (b : Bool) → (not h.bare_rport && bytes_eq (host_of h.sent_by) (ip_text source.ip)) ≡ b
      → IsHop (cond b text (marked_parts source (parts_of text))) (record { text = cond b text (marked_parts source (parts_of text)); sent_by = h.sent_by; branch = h.branch; bare_rport = false })
  step true e =
      let none : h.bare_rport ≡ false = no_port h.bare_rport _ e in
      record {
        protocol = is.protocol;
        behind = is.behind;
        parameters = is.parameters;
        is_protocol = is.is_protocol;
        host = is.host;
        are = is.are;
        branch = is.branch;
        bare_rport = sym none ∙ is.bare_rport;
        same = refl;
        whole = is.whole;
      }
  step false e = marked_is_hop source text h addr is
