-- The top Via of an answer stands in a header line.
use Rattle.std.proofs.Common.{◌≡◌, ◌≢◌, ℕ, Bool, true, false, List, [], ◌∷◌, ◌++◌, reverse, refl, sym, ap, subst, ◌∙◌, append_assoc, arith, codes, decimal, cond}
use Rattle.std.specs.Prelude.{◌&&◌, not, bytes_eq, slice_index}
use Rattle.std.specs.List.{list_all, flat_map}
use Rattle.std.specs.Str.{IsUtf8}
use Rattle.std.proofs.lemmas.List.Folds.{list_all-append}
use Rattle.std.proofs.lemmas.Str.{IsUtf8-append, IsUtf8-nil}
use Rattle.std.proofs.lemmas.Bool.Decides.{nat_tests}
use Rattle.sip_text.specs.declared.scan.Class.TheVariants as class
use Rattle.sip_text.specs.Bytes.{is_in, is_space, is_token_byte}
use Rattle.sip_text.specs.Grammar.{AllPassing, AreSpaces, Stops, Parameter, IsParameter}
use Rattle.sip_text.proofs.NotEmpty.{ends_more}
use Rattle.sip_text.proofs.Numerals.{spelled}
use Rattle.sip_text.proofs.Pieces.{and_both, word_stops_spaces}
use Rattle.sip_text.proofs.Trims.{all-append}
use Rattle.sip_text.proofs.Utf8.{is_wide, split_text, text_from_ascii, space_small}
use Rattle.sip_text.specs.declared.address.Addr.{Addr}
use Rattle.sip_read.specs.Calls.{is_visible}
use Rattle.sip_read.specs.Vias.{Hop, via_of, IsHop}
use Rattle.sip_write.specs.declared.quoting.Quoting.{Quoting}
use Rattle.sip_write.specs.declared.quoting.Quoting.TheVariants.{Outside}
use Rattle.sip_write.specs.Laws.{ArePieces}
use Rattle.sip_text.specs.Addresses.{ip_text}
use Rattle.sip_write.specs.ReadAgain.{IsAddr, IsFieldText}
use Rattle.sip_write.specs.Via.{Parts, lead_of, host_of, quoting_after, begins_parameter, with_blank, with_character, parts_from, parts_of, is_received, is_bare_rport, marked_parameter, marked_parts, top_via_text}
use Rattle.sip_write.proofs.FieldTexts.{all_within, visible_line, visible_text, visible_field, digit_visible}
use Rattle.sip_write.proofs.TopVia.{via_front}
use Rattle.sip_write.proofs.ViaNames.{lead_and_name}
use Rattle.sip_write.proofs.ViaPieces.{cuts}

-- ---- the parts are the whole text

abbrev flat : List (List ℕ) → List ℕ
flat pieces = flat_map (λ p. p) pieces

abbrev whole_of : Parts → List ℕ
whole_of parts = parts.front ++ flat parts.parameters

blank_whole : (c : ℕ) (front : List ℕ) (ps : List (List ℕ)) → whole_of (with_blank c front ps) ≡ c ∷ (front ++ flat ps)
blank_whole c [] [] = refl
blank_whole c [] (p ∷ ps) = refl
blank_whole c (x ∷ front) ps = refl

character_whole : (q : Quoting) (c : ℕ) (parts : Parts) → whole_of (with_character q c parts) ≡ c ∷ whole_of parts
unfolding with_character
character_whole q c parts = step (begins_parameter q c) (is_space c) where
  step : (b s : Bool) → whole_of (cond b (record { front = []; parameters = (c ∷ parts.front) ∷ parts.parameters }) (cond s (with_blank c parts.front parts.parameters) (record parts { front = c ∷ parts.front }))) ≡ c ∷ whole_of parts
  step true s = refl
  step false true = blank_whole c parts.front parts.parameters
  step false false = refl

parts_whole : (q : Quoting) (text : List ℕ) → whole_of (parts_from q text) ≡ text
unfolding parts_from
parts_whole q [] = refl
parts_whole q (c ∷ text) = character_whole q c (parts_from (quoting_after q c) text) ∙ ap (λ (l : List ℕ). c ∷ l) (parts_whole (quoting_after q c) text)

-- ---- texts without control characters

pub record IsInLine (text : List ℕ) : Type 0 where
  pub bytes : AllPassing (is_in class.Line) text
  pub is_text : IsUtf8 text

in_line_more : (x y : List ℕ) → IsInLine x → IsInLine y → IsInLine (x ++ y)
in_line_more x y a b = record { bytes = all-append (is_in class.Line) x y a.bytes b.bytes; is_text = IsUtf8-append x y a.is_text b.is_text }

visible_in_line : (t : List ℕ) → AllPassing is_visible t → IsInLine t
visible_in_line t all = record { bytes = all_within is_visible (is_in class.Line) visible_line t all; is_text = visible_text t all }

space_line : (x : ℕ) → is_in class.Space x ≡ true → is_in class.Line x ≡ true
space_line x e = grind (arith, nat_tests)

spaces_in_line : (t : List ℕ) → AreSpaces t → IsInLine t
spaces_in_line t all = record { bytes = all_within (is_in class.Space) (is_in class.Line) space_line t all; is_text = text_from_ascii (is_in class.Space) space_small t all }

pub space_narrow : (x : ℕ) → is_space x ≡ true → is_wide x ≡ false
space_narrow x e = grind (arith, nat_tests)

piece_narrow : (before rest : List ℕ) → AreSpaces before → Stops is_wide (before ++ 59 ∷ rest)
piece_narrow [] rest all = refl
piece_narrow (x ∷ before) rest all = space_narrow x (and_both (is_space x) (list_all is_space before) all).0

pub cut_in_line : (x y : List ℕ) → Stops is_wide y → IsInLine (x ++ y) → IsInLine x × IsInLine y
cut_in_line x y stops h =
    let texts = split_text x y stops h.is_text in
    let both = and_both (list_all (is_in class.Line) x) (list_all (is_in class.Line) y) (sym (list_all-append (is_in class.Line) x y) ∙ h.bytes) in
    (record { bytes = both.0; is_text = texts.0 }, record { bytes = both.1; is_text = texts.1 })

flat_narrow : (pieces : List (List ℕ)) (ps : List Parameter) → ArePieces pieces ps → Stops is_wide (flat pieces)
flat_narrow [] [] h = tt
flat_narrow [] (p ∷ ps) h = absurd h
flat_narrow (piece ∷ pieces) [] h = absurd h
flat_narrow (piece ∷ pieces) (p ∷ ps) h =
    let is = h.0 in
    subst (Stops is_wide) (sym (ap (λ (t : List ℕ). t ++ flat pieces) is.whole ∙ append_assoc is.before (59 ∷ (is.behind ++ (p.name ++ is.assigned))) (flat pieces)))
    (piece_narrow is.before ((is.behind ++ (p.name ++ is.assigned)) ++ flat pieces) is.spaces_before)

port_in_line : (source : Addr) → IsAddr source → IsInLine (codes "rport=" ++ decimal source.port)
port_in_line source addr = visible_in_line _ (all_within (is_in class.Digit) is_visible digit_visible (decimal source.port) (spelled source.port (omega (arith, addr.port))).0.0)

piece_in_line : (source : Addr) (piece : List ℕ) (p : Parameter) → IsAddr source → IsParameter piece p → IsInLine piece → IsInLine (marked_parameter source piece)
unfolding marked_parameter
piece_in_line source piece p addr is line = step (is_received piece) (is_bare_rport piece) where
  lead : IsInLine (lead_of piece)
  lead = subst IsInLine (sym (lead_and_name piece p is).0) (in_line_more is.before (59 ∷ is.behind) (spaces_in_line is.before is.spaces_before) (in_line_more (59 ∷ []) is.behind (visible_in_line (59 ∷ []) refl) (spaces_in_line is.behind is.spaces_behind)))

  step : (r b : Bool) → IsInLine (cond r [] (cond b (lead_of piece ++ (codes "rport=" ++ decimal source.port)) piece))
  step true b = record { bytes = refl; is_text = IsUtf8-nil }
  step false true = in_line_more (lead_of piece) (codes "rport=" ++ decimal source.port) lead (port_in_line source addr)
  step false false = line

pieces_in_line : (source : Addr) (pieces : List (List ℕ)) (ps : List Parameter) → IsAddr source → ArePieces pieces ps → IsInLine (flat pieces) → IsInLine (flat_map (marked_parameter source) pieces)
pieces_in_line source [] ps addr h line = record { bytes = refl; is_text = IsUtf8-nil }
pieces_in_line source (piece ∷ pieces) [] addr h line = absurd h
pieces_in_line source (piece ∷ pieces) (p ∷ ps) addr h line =
    let k = cut_in_line piece (flat pieces) (flat_narrow pieces ps h.1) line in
    in_line_more (marked_parameter source piece) (flat_map (marked_parameter source) pieces) (piece_in_line source piece p addr h.0 k.0) (pieces_in_line source pieces ps addr h.1 k.1)

-- ---- its ends

ip_visible : (source : Addr) → IsAddr source → AllPassing is_visible (ip_text source.ip)
ip_visible source is = dotted (decimal (slice_index source.ip 0)) _ (byte 0) (dotted (decimal (slice_index source.ip 1)) _ (byte 1) (dotted (decimal (slice_index source.ip 2)) _ (byte 2) (byte 3))) where
  byte : (i : ℕ) → AllPassing is_visible (decimal (slice_index source.ip i))
  byte i = all_within (is_in class.Digit) is_visible digit_visible (decimal (slice_index source.ip i)) (spelled (slice_index source.ip i) (omega (arith, is.bytes i))).0.0

  dotted : (t u : List ℕ) → AllPassing is_visible t → AllPassing is_visible u → AllPassing is_visible (t ++ 46 ∷ u)
  dotted t u x y = all-append is_visible t (46 ∷ u) x y

pub hop_starts : (text : List ℕ) (h : Hop) → IsHop text h → Stops is_space text
hop_starts text h is =
    let slashed = is.is_protocol.sip in
    let rest : List ℕ = is.is_protocol.second ++ (is.is_protocol.transport ++ is.is_protocol.gap) in
    let tail : List ℕ = ((slashed.left ++ 47 ∷ slashed.right) ++ rest) ++ (h.sent_by ++ is.behind) in
    let whole : text ≡ slashed.name ++ tail =
    is.whole ∙ ap (λ (t : List ℕ). t ++ (h.sent_by ++ is.behind)) (is.is_protocol.whole ∙ ap (λ (t : List ℕ). t ++ rest) slashed.whole ∙ append_assoc slashed.name (slashed.left ++ 47 ∷ slashed.right) rest)
    ∙ append_assoc slashed.name ((slashed.left ++ 47 ∷ slashed.right) ++ rest) (h.sent_by ++ is.behind) in
    subst (Stops is_space) (sym whole) (word_stops_spaces is_token_byte (record { sp = refl; ht = refl }) slashed.name tail slashed.is_word.0 slashed.is_word.1)

received_field : (source : Addr) → IsAddr source → IsFieldText (codes ";received=" ++ ip_text source.ip)
received_field source addr = visible_field _ (ip_visible source addr)

marked_field : (source : Addr) (text : List ℕ) (h : Hop) → IsAddr source → IsHop text h → IsFieldText text → Stops is_space (marked_parts source (parts_of text)) → IsFieldText (marked_parts source (parts_of text))
unfolding marked_parts
marked_field source text h addr is field starts =
    let front : List ℕ = is.protocol ++ h.sent_by in
    let cut = cuts front is.behind is.parameters (via_front is.protocol h.sent_by is.is_protocol is.host) is.are in
    let parts : parts_of text ≡ record { front = front; parameters = cut.0 } = ap parts_of (is.whole ∙ sym (append_assoc is.protocol h.sent_by is.behind)) ∙ cut.2 in
    let same : front ++ flat cut.0 ≡ text = sym (ap whole_of parts) ∙ parts_whole Outside text in
    let all : IsInLine (front ++ flat cut.0) = subst IsInLine (sym same) (record { bytes = field.bytes; is_text = field.is_text }) in
    let k = cut_in_line front (flat cut.0) (flat_narrow cut.0 is.parameters cut.1) all in
    let received = received_field source addr in
    let received_text : List ℕ = codes ";received=" ++ ip_text source.ip in
    let received_line : IsInLine received_text = record { bytes = received.bytes; is_text = received.is_text } in
    let marked : List ℕ = flat_map (marked_parameter source) cut.0 in
    let pieces : IsInLine marked = pieces_in_line source cut.0 is.parameters addr cut.1 k.1 in
    let line : IsInLine (front ++ (marked ++ received_text)) = in_line_more front (marked ++ received_text) k.0 (in_line_more marked received_text pieces received_line) in
    let ends : Stops is_space (reverse (front ++ (marked ++ received_text))) = ends_more front (marked ++ received_text) (some marked) (ends_more marked received_text (some []) received.trimmed.1) in
    let whole : marked_parts source (parts_of text) ≡ front ++ (marked ++ received_text) = ap (λ (q : Parts). q.front ++ (flat_map (marked_parameter source) q.parameters ++ received_text)) parts in
    record { bytes = subst (AllPassing (is_in class.Line)) (sym whole) line.bytes; is_text = subst IsUtf8 (sym whole) line.is_text; trimmed = (starts, subst (λ (t : List ℕ). Stops is_space (reverse t)) (sym whole) ends) } where
      some : (x : List ℕ) → x ++ (codes ";received=" ++ ip_text source.ip) ≢ []
      some [] e = cc
      some (c ∷ x) e = cc

pub top_field : (source : Addr) (text : List ℕ) (h : Hop) → IsAddr source → IsHop text h → IsFieldText text → Stops is_space (top_via_text source (via_of h) text) → IsFieldText (top_via_text source (via_of h) text)
unfolding top_via_text
top_field source text h addr is field starts = step (not h.bare_rport && bytes_eq (host_of h.sent_by) (ip_text source.ip)) starts where
  step : (b : Bool) → Stops is_space (cond b text (marked_parts source (parts_of text))) → IsFieldText (cond b text (marked_parts source (parts_of text)))
  step true s = field
  step false s = marked_field source text h addr is field s
