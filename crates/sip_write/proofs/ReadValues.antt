-- The values of a message that was read: each stands in a header line, in its grammar.
use Rattle.std.proofs.Common.{◌≡◌, ◌≢◌, ℕ, zero, suc, ◌<◌, ◌^◌, Bool, true, false, List, [], ◌∷◌, ◌++◌, ◌⊎◌, reverse, Option, Some, None, inl, inr, refl, sym, ap, subst, ◌∙◌, append_assoc, append-nil, arith}
use Rattle.std.specs.Prelude.{All, IfSome}
use Rattle.std.specs.List.{list_all, filter_map}
use Rattle.std.proofs.lemmas.Bool.Decides.{nat_tests}
use Rattle.std.proofs.lemmas.List.Folds.{list_all-append}
use Rattle.sip_text.specs.declared.field.Field.{Field}
use Rattle.sip_text.specs.declared.field.Field.TheVariants as field
use Rattle.sip_text.specs.declared.scan.Class.{Class}
use Rattle.sip_text.specs.declared.scan.Class.TheVariants as class
use Rattle.sip_text.specs.Bytes.{is_in, is_space, is_within}
use Rattle.sip_text.specs.Grammar.{AllPassing, AreSpaces, IsWord, Stops, IsValue, Parameter, IsAssigned, IsParameter, AreParameters, AreElements}
use Rattle.sip_text.specs.Grammar.{IsToken}
use Rattle.sip_text.proofs.NotEmpty.{cons_some, some_behind, ends_more}
use Rattle.sip_text.proofs.Pieces.{and_both}
use Rattle.sip_text.proofs.Trims.{all-append, stops_front}
use Rattle.sip_text.proofs.Utf8.{is_wide, text_after_ascii}
use Rattle.sip_read.specs.declared.value.Sequence.{Sequence}
use Rattle.sip_read.specs.declared.datagram.Header.{Header}
use Rattle.sip_read.specs.declared.datagram.Header.TheVariants as headers
use Rattle.sip_read.specs.declared.value.Listed.TheVariants as listed
use Rattle.sip_read.specs.declared.message.Head.{Head}
use Rattle.sip_read.specs.declared.message.Party.{Party}
use Rattle.sip_read.specs.Addresses.{IsUri, IsAddress, IsParty, IsContact, IsRoute}
use Rattle.sip_read.specs.Calls.{IsCallId}
use Rattle.sip_read.specs.Folding.{Unfolds, unbroken, continued, AreLines}
use Rattle.sip_read.specs.Headers.{header_named}
use Rattle.sip_read.specs.Items.{Item, value_in, IsElement, AreValues, IsLine, AreItems}
use Rattle.sip_read.specs.Message.{IsField}
use Rattle.sip_read.specs.Vias.{Hop, IsHop}
use Rattle.sip_write.specs.AnswerAgain.{IsViaField, IsRouteField, IsPartyField, IsAnswer}
use Rattle.sip_write.specs.ReadAgain.{IsFieldText}
use Rattle.sip_write.specs.RequestRead.{WhatIsReadIsInItsGrammar, AnswerToWhatWasReadIsReadAgain}
use Rattle.sip_write.proofs.AnswerRead.{answer_again}
use Rattle.sip_write.proofs.FieldTexts.{all_within}
use Rattle.sip_write.proofs.TopViaText.{IsInLine, cut_in_line, space_narrow}
use Rattle.sip_write.proofs.ViaPieces.{word_ends}

-- ---- lines

passing_parts : (p : ℕ → Bool) (x y : List ℕ) → AllPassing p (x ++ y) → AllPassing p x × AllPassing p y
passing_parts p x y h = and_both (list_all p x) (list_all p y) (sym (list_all-append p x y) ∙ h)

-- a line in one piece has no control character but HT
unfolded_in_line : {wire line : List ℕ} → Unfolds wire line → AllPassing (is_in class.Line) line
unfolded_in_line (unbroken all) = all
unfolded_in_line (continued first before left right after h ends spaces word stops all whole is) =
    subst (AllPassing (is_in class.Line)) (sym is)
    (all-append (is_in class.Line) before (32 ∷ after) (passing_parts (is_in class.Line) before left (unfolded_in_line h)).0 all)

-- ---- texts that don't end with a blank

abbrev HasEnd : List ℕ → Type 0
HasEnd text = Stops is_space (reverse text) × (text ≢ [])

end_behind : (x y : List ℕ) → HasEnd y → HasEnd (x ++ y)
end_behind x y h = (ends_more x y h.1 h.0, some_behind x y h.1)

word_end : (text : List ℕ) → IsWord class.Token text → HasEnd text
word_end text w = (word_ends (is_in class.Token) (record { sp = refl; ht = refl }) text w.0 w.1, w.1)

value_end : (text : List ℕ) → IsValue text → HasEnd text
value_end text (inl q) = subst HasEnd (sym q.2) (end_behind (34 ∷ q.0) (34 ∷ []) (refl, cons_some 34 []))
value_end text (inr w) = (word_ends (is_in class.Value) (record { sp = refl; ht = refl }) text w.0 w.1, w.1)

assigned_end : (name text : List ℕ) (value : Option (List ℕ)) → IsWord class.Token name → IsAssigned text value → HasEnd (name ++ text)
assigned_end name text None w is = subst HasEnd (sym (ap (λ (t : List ℕ). name ++ t) is ∙ append-nil name)) (word_end name w)
assigned_end name text (Some v) w is =
    end_behind name text (subst HasEnd (sym is.5) (end_behind is.0 (61 ∷ (is.1 ++ v)) (end_behind (61 ∷ is.1) v (value_end v is.4))))

parameter_end : (text : List ℕ) (p : Parameter) → IsParameter text p → HasEnd text
parameter_end text p is =
    subst HasEnd (sym is.whole)
    (end_behind is.before (59 ∷ (is.behind ++ (p.name ++ is.assigned)))
    (end_behind (59 ∷ is.behind) (p.name ++ is.assigned) (assigned_end p.name is.assigned p.value is.name is.value)))

parameters_end : (text : List ℕ) (ps : List Parameter) → AreParameters text ps → (x : List ℕ) → HasEnd x → HasEnd (x ++ text)
parameters_end text [] are x h = subst HasEnd (sym (ap (λ (t : List ℕ). x ++ t) are ∙ append-nil x)) h
parameters_end text (p ∷ ps) are x h =
    subst HasEnd (append_assoc x are.0 are.1 ∙ ap (λ (t : List ℕ). x ++ t) (sym are.4))
    (parameters_end are.1 ps are.3 (x ++ are.0) (end_behind x are.0 (parameter_end are.0 p are.2)))

hop_end : (text : List ℕ) (h : Hop) → IsHop text h → HasEnd text
hop_end text h is =
    subst HasEnd (sym is.whole)
    (end_behind is.protocol (h.sent_by ++ is.behind)
    (parameters_end is.behind is.parameters is.are h.sent_by (word_ends (is_in class.Host) (record { sp = refl; ht = refl }) h.sent_by is.host.0 is.host.1, is.host.1)))

route_end : (text : List ℕ) → IsRoute text → HasEnd text
route_end text is =
    subst HasEnd (sym is.whole)
    (end_behind is.display (is.spaces ++ 60 ∷ (is.uri ++ 62 ∷ is.behind))
    (end_behind is.spaces (60 ∷ (is.uri ++ 62 ∷ is.behind))
    (end_behind (60 ∷ is.uri) (62 ∷ is.behind) (parameters_end is.behind is.parameters is.are (62 ∷ []) (refl, cons_some 62 [])))))

-- ---- values in their grammars

abbrev IsSequenceField : Sequence → Type 0
IsSequenceField s = (s.number < 2 ^ 31) × IsWord class.Token s.method

record IsGood (x : Item) : Type 0 where
  via : IfSome (value_in headers.Via x) IsViaField
  from : IfSome (value_in headers.From x) IsPartyField
  to : IfSome (value_in headers.To x) IsPartyField
  call_id : IfSome (value_in headers.CallId x) IsCallId
  cseq : IfSome (value_in headers.CSeq x) IsSequenceField
  require : IfSome (value_in headers.Require x) IsToken
  route : IfSome (value_in headers.RecordRoute x) IsRouteField

abbrev AreGood : List Item → Type 0
AreGood [] = Unit {0}
AreGood (x ∷ xs) = IsGood x × AreGood xs

good-append : (xs ys : List Item) → AreGood xs → AreGood ys → AreGood (xs ++ ys)
good-append [] ys a b = b
good-append (x ∷ xs) ys a b = (a.0, good-append xs ys a.1 b)

field_of : (text : List ℕ) → IsInLine text → Stops is_space text → Stops is_space (reverse text) → IsFieldText text
field_of text line begins ends = record { bytes = line.bytes; is_text = line.is_text; trimmed = (begins, ends) }

hop_good : (text : List ℕ) (x : Item) → IsElement listed.Via text x → IsInLine text → Stops is_space text → IsGood x
hop_good text x is line begins =
    let same : text ≡ (is.0).text = sym (is.1).same in
    let field : IsFieldText text = field_of text line begins (hop_end text is.0 is.1).0 in
    let both : IsViaField is.0 = (subst (λ (t : List ℕ). IsHop t is.0) same is.1, subst IsFieldText same field) in
    subst IsGood (sym is.2) (record { via = both; from = tt; to = tt; call_id = tt; cseq = tt; require = tt; route = tt })

require_good : (text : List ℕ) (x : Item) → IsElement listed.Require text x → IsInLine text → Stops is_space text → IsGood x
require_good text x is line begins = subst IsGood (sym is.1) (record { via = tt; from = tt; to = tt; call_id = tt; cseq = tt; require = is.0; route = tt })

route_good : (text : List ℕ) (x : Item) → IsElement listed.RecordRoute text x → IsInLine text → Stops is_space text → IsGood x
route_good text x is line begins =
    subst IsGood (sym is.1) (record { via = tt; from = tt; to = tt; call_id = tt; cseq = tt; require = tt; route = (is.0, field_of text line begins (route_end text is.0).0) })

-- ---- lists at commas

mark_narrow : (mark : ℕ) (before rest : List ℕ) → is_wide mark ≡ false → AreSpaces before → Stops is_wide (before ++ mark ∷ rest)
mark_narrow mark [] rest narrow all = narrow
mark_narrow mark (x ∷ before) rest narrow all = space_narrow x (and_both (is_space x) (list_all is_space before) all).0

-- SP, HT, or what stands between values
abbrev is_between : ℕ → Bool
is_between b = is_within 9 126 b

between_small : (x : ℕ) → is_between x ≡ true → x < 128
between_small x e = grind (arith, nat_tests)

space_between : (x : ℕ) → is_in class.Space x ≡ true → is_between x ≡ true
space_between x e = grind (arith, nat_tests)

token_between : (x : ℕ) → is_in class.Token x ≡ true → is_between x ≡ true
token_between x e = grind (arith, nat_tests)

spaces_between : (t : List ℕ) → AreSpaces t → AllPassing is_between t
spaces_between t all = all_within (is_in class.Space) is_between space_between t all

line_behind : (x y : List ℕ) → AllPassing is_between x → IsInLine (x ++ y) → IsInLine y
line_behind x y small line = record {
  bytes = (passing_parts (is_in class.Line) x y line.bytes).1;
  is_text = text_after_ascii is_between between_small x y small line.is_text;
}

module _ (P : List ℕ → Item → Type 0) (good : (text : List ℕ) (x : Item) → P text x → IsInLine text → Stops is_space text → IsGood x) where
  elements_good : (text : List ℕ) (xs : List Item) → AreElements P text xs → IsInLine text → AreGood xs
  elements_good text [] are line = absurd are
  elements_good text (x ∷ []) are line = (good text x are.0 line are.1, tt)
  elements_good text (x ∷ y ∷ xs) are line =
      let left : List ℕ = are.1 in
      let right : List ℕ = are.2 in
      let others : List ℕ = are.3 in
      let tail : List ℕ = left ++ 44 ∷ (right ++ others) in
      let cut = cut_in_line are.0 tail (mark_narrow 44 left (right ++ others) refl are.6) (subst IsInLine are.9 line) in
      let gap : AllPassing is_between (left ++ 44 ∷ right) = all-append is_between left (44 ∷ right) (spaces_between left are.6) (spaces_between right are.7) in
      let rest : IsInLine others = line_behind (left ++ 44 ∷ right) others gap (subst IsInLine (sym (append_assoc left (44 ∷ right) others)) cut.1) in
      (good are.0 x are.4 cut.0 (stops_front is_space are.0 tail (subst (Stops is_space) are.9 are.5)), elements_good others (y ∷ xs) are.8 rest)

-- ---- header lines

party_good : (text : List ℕ) (p : Party) → IsParty text p → IsFieldText text → IsPartyField p
party_good text p is field = (subst (λ (t : List ℕ). IsParty t p) (sym is.same) is, subst IsFieldText (sym is.same) field)

values_good : (k : Header) (v : List ℕ) (xs : List Item) → IsFieldText v → AreValues k v xs → AreGood xs
values_good headers.Via v xs field are = elements_good (IsElement listed.Via) hop_good v xs are (record { bytes = field.bytes; is_text = field.is_text })
values_good headers.Require v xs field are = elements_good (IsElement listed.Require) require_good v xs are (record { bytes = field.bytes; is_text = field.is_text })
values_good headers.RecordRoute v xs field are = elements_good (IsElement listed.RecordRoute) route_good v xs are (record { bytes = field.bytes; is_text = field.is_text })
values_good headers.From v xs field are =
    subst AreGood (sym are.2) (record { via = tt; from = party_good v are.0 are.1 field; to = tt; call_id = tt; cseq = tt; require = tt; route = tt }, tt)
values_good headers.To v xs field are =
    subst AreGood (sym are.2) (record { via = tt; from = tt; to = party_good v are.0 are.1 field; call_id = tt; cseq = tt; require = tt; route = tt }, tt)
values_good headers.CallId v xs field are = subst AreGood (sym are.1) (record { via = tt; from = tt; to = tt; call_id = are.0; cseq = tt; require = tt; route = tt }, tt)
values_good headers.CSeq v xs field are =
    subst AreGood (sym are.2) (record { via = tt; from = tt; to = tt; call_id = tt; cseq = ((are.1).small, (are.1).method); require = tt; route = tt }, tt)
values_good headers.ContentLength v xs field are = subst AreGood (sym are.1) (record { via = tt; from = tt; to = tt; call_id = tt; cseq = tt; require = tt; route = tt }, tt)
values_good headers.Other v xs field are = subst AreGood (sym are) tt
values_good k v xs field are = subst AreGood (sym are) (record { via = tt; from = tt; to = tt; call_id = tt; cseq = tt; require = tt; route = tt }, tt)

line_good : (line : List ℕ) (xs : List Item) → IsLine line xs → AllPassing (is_in class.Line) line → AreGood xs
line_good line xs is bytes =
    let before : List ℕ = is.name ++ (is.gap ++ 58 ∷ is.left) in
    let whole : line ≡ before ++ (is.value ++ is.right) =
    is.whole ∙ sym (append_assoc is.name (is.gap ++ 58 ∷ is.left) (is.value ++ is.right)
    ∙ ap (λ (t : List ℕ). is.name ++ t) (append_assoc is.gap (58 ∷ is.left) (is.value ++ is.right))) in
    let small : AllPassing is_between before =
    all-append is_between is.name (is.gap ++ 58 ∷ is.left) (all_within (is_in class.Token) is_between token_between is.name is.is_name.0)
    (all-append is_between is.gap (58 ∷ is.left) (spaces_between is.gap is.spaces_gap) (spaces_between is.left is.spaces_left)) in
    let all : IsInLine line = record { bytes = bytes; is_text = is.is_text } in
    let behind : IsInLine (is.value ++ is.right) = line_behind before (is.value ++ is.right) small (subst IsInLine whole all) in
    let value : IsInLine is.value = (cut_in_line is.value is.right (narrow is.right is.spaces_right) behind).0 in
    values_good (header_named is.name) is.value xs (field_of is.value value is.trimmed.0 is.trimmed.1) is.are_values where
      narrow : (t : List ℕ) → AreSpaces t → Stops is_wide t
      narrow [] spaces = tt
      narrow (x ∷ t) spaces = space_narrow x (and_both (is_space x) (list_all is_space t) spaces).0

lines_good : (wire : List ℕ) (lines : List (List ℕ)) (xs : List Item) → AreLines wire lines → AreItems lines xs → AreGood xs
lines_good wire [] xs a is = subst AreGood (sym is) tt
lines_good wire (line ∷ lines) xs a is =
    subst AreGood (sym is.4) (good-append is.0 is.1 (line_good line is.0 is.2 (unfolded_in_line a.2)) (lines_good a.1 lines is.1 a.4 is.3))

-- ---- what is found among all values

all_cons : {X : Type 0} (P : X → Type 0) (x : X) (xs : List X) → P x → All P xs → All P (x ∷ xs)
all_cons P x xs first others zero d lt = first
all_cons P x xs first others (suc k) d lt = others k d (omega (arith, lt))

module _ {Y : Type 0} (f : Item → Option Y) (Q : Y → Type 0) (kept : (x : Item) → IsGood x → IfSome (f x) Q) where
  one_found : (x : Item) (xs : List Item) (o : Option Y) → f x ≡ o → IsGood x → All Q (filter_map f xs) → All Q (filter_map f (x ∷ xs))
  one_found x xs None e h others = rw e others
  one_found x xs (Some y) e h others = rw e (all_cons Q y (filter_map f xs) (subst (λ (o : Option Y). IfSome o Q) e (kept x h)) others)

  found_good : (xs : List Item) → AreGood xs → All Q (filter_map f xs)
  found_good [] h = λ k d lt. absurd (omega (arith, lt))
  found_good (x ∷ xs) h = one_found x xs (f x) refl h.0 (found_good xs h.1)

first_good : {Y : Type 0} (Q : Y → Type 0) (y : Y) (ys zs : List Y) → zs ≡ y ∷ ys → All Q zs → Q y
first_good Q y ys zs e h = (subst (All Q) e h) 0 y (omega arith)

others_good : {Y : Type 0} (Q : Y → Type 0) (y : Y) (ys zs : List Y) → zs ≡ y ∷ ys → All Q zs → All Q ys
others_good Q y ys zs e h = λ k d lt. (subst (All Q) e h) (suc k) d (omega (arith, lt))

-- ---- Contact

abbrev value_or : List ℕ → Field (List ℕ) → List ℕ
value_or other field.Absent = other
value_or other field.Bad = other
value_or other (field.Value x) = x

bare_uri : (x : ℕ) → is_in class.Bare x ≡ true → is_in class.Uri x ≡ true
bare_uri x e = grind (arith, nat_tests)

uri_some : (k : Class) (uri : List ℕ) → IsUri k uri → uri ≢ []
uri_some k uri is = subst (λ (t : List ℕ). t ≢ []) (sym is.6) (cons_some is.0 (is.1 ++ 58 ∷ is.2))

address_word : (text uri : List ℕ) → IsAddress text uri → IsWord class.Uri uri
address_word text uri (inl is) = ((is.4).7, uri_some class.Uri uri is.4)
address_word text uri (inr is) = (all_within (is_in class.Bare) (is_in class.Uri) bare_uri uri (is.0).7, uri_some class.Bare uri is.0)

contact_word : (vs : List (List ℕ)) (f : Field (List ℕ)) (uri : List ℕ) → IsField IsContact vs f → f ≡ field.Value uri → IsWord class.Uri uri
contact_word [] f uri h e = absurd cc
contact_word (v ∷ []) field.Absent uri h e = absurd h
contact_word (v ∷ []) field.Bad uri h e = absurd cc
contact_word (v ∷ []) (field.Value x) uri h e = subst (IsWord class.Uri) (ap (value_or x) e) (address_word h.address x h.is_address)
contact_word (v ∷ w ∷ vs) f uri h e = absurd cc

-- ---- requests

pub read_in_grammar : WhatIsReadIsInItsGrammar
read_in_grammar bytes r is =
    let cut = is.cut.2 in
    let good : AreGood is.items = lines_good (cut.1).0 cut.0 is.items (cut.1).1 cut.2 in
    let head = is.head in
    let hops = found_good (value_in headers.Via) IsViaField (λ x g. g.via) is.items good in
    let sequences = first_good IsSequenceField _ [] _ head.cseq (found_good (value_in headers.CSeq) IsSequenceField (λ x g. g.cseq) is.items good) in
    record {
      top = head.top;
      others = head.others;
      vias = head.vias;
      top_via = head.top_via;
      is_top = first_good IsViaField head.top head.others _ head.hops hops;
      are_others = others_good IsViaField head.top head.others _ head.hops hops;
      from = first_good IsPartyField _ [] _ head.from (found_good (value_in headers.From) IsPartyField (λ x g. g.from) is.items good);
      to = first_good IsPartyField _ [] _ head.to (found_good (value_in headers.To) IsPartyField (λ x g. g.to) is.items good);
      call_id = first_good IsCallId _ [] _ head.call_id (found_good (value_in headers.CallId) IsCallId (λ x g. g.call_id) is.items good);
      number = sequences.0;
      method = sequences.1;
      record_routes = subst (All IsRouteField) (sym is.record_routes) (found_good (value_in headers.RecordRoute) IsRouteField (λ x g. g.route) is.items good);
      require = subst (All IsToken) (sym is.require) (found_good (value_in headers.Require) IsToken (λ x g. g.require) is.items good);
      contact = λ uri e. contact_word _ r.contact uri is.contact e;
    }

pub answer_to_read : AnswerToWhatWasReadIsReadAgain
answer_to_read bytes r a reads is small =
    let g = read_in_grammar bytes r reads in
    let whole : IsAnswer a g.top g.others = record {
      source = is.source;
      vias = ap (λ (h : Head). h.vias) is.head ∙ g.vias;
      top_via = ap (λ (h : Head). h.top) is.head ∙ g.top_via;
      is_top = g.is_top;
      are_others = g.are_others;
      from = subst (λ (h : Head). IsPartyField h.from) (sym is.head) g.from;
      to = subst (λ (h : Head). IsPartyField h.to) (sym is.head) g.to;
      tag = is.tag;
      call_id = subst (λ (h : Head). IsCallId h.call_id) (sym is.head) g.call_id;
      number = subst (λ (h : Head). h.cseq < 2 ^ 31) (sym is.head) g.number;
      method = subst (λ (h : Head). IsWord class.Token h.cseq_method) (sym is.head) g.method;
      record_routes = routes a.record_routes r.record_routes is.record_routes g.record_routes;
      contact = is.contact;
      expires = is.expires;
      min_expires = is.min_expires;
      allow = is.allow;
      allow_events = is.allow_events;
      unsupported = is.unsupported;
    } in
    (g.top, g.others, g.vias, g.top_via, answer_again a g.top g.others whole small) where
      routes : (xs ys : List (List ℕ)) → (xs ≡ []) ⊎ (xs ≡ ys) → All IsRouteField ys → All IsRouteField xs
      routes xs ys (inl e) h = subst (All IsRouteField) (sym e) (λ k d lt. absurd (omega (arith, lt)))
      routes xs ys (inr e) h = subst (All IsRouteField) (sym e) h
