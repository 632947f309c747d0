-- Header lines one after the other.
use Rattle.std.proofs.Common.{◌≡◌, ℕ, Bool, true, false, eqb, cond, List, [], ◌∷◌, ◌++◌, Option, Some, None, option_map, refl, sym, ap, subst, ◌∙◌, arith}
use Rattle.std.specs.List.{list_all}
use Rattle.std.specs.Str.{IsUtf8, is_utf8}
use Rattle.std.proofs.lemmas.Str.{IsUtf8-from_is_utf8, is_utf8-from_IsUtf8}
use Rattle.std.proofs.lemmas.Bool.{eqb-true}
use Rattle.std.proofs.lemmas.List.{append-nil}
use Rattle.sip_text.specs.declared.scan.Class.TheVariants as class
use Rattle.sip_text.specs.Bytes.{is_in, is_space}
use Rattle.sip_text.specs.Reading.{◌>>=◌, all_of}
use Rattle.sip_text.specs.Grammar.{AreSpaces, IsTrimmed}
use Rattle.sip_text.proofs.Pieces.{bind_some, some_is, and_both}
use Rattle.sip_text.proofs.Utf8.{text_after_ascii, text_before_ascii, token_small, space_small}
use Rattle.sip_text.proofs.Words.{all_takes, all_again}
use Rattle.sip_read.specs.declared.datagram.Header.{Header}
use Rattle.sip_read.specs.declared.datagram.Header.TheVariants as headers
use Rattle.sip_read.specs.declared.value.Listed.TheVariants as listed
use Rattle.sip_read.specs.AddressesComputed.{party_of}
use Rattle.sip_read.specs.Headers.{header_named}
use Rattle.sip_read.specs.Items.{Item, item, AreValues, IsLine, AreItems}
use Rattle.sip_read.specs.ItemsComputed.{alone, line_values, line_items, items_of}
use Rattle.sip_read.specs.LinesComputed.{header_of}
use Rattle.sip_read.specs.ValuesComputed.{call_id_of, sequence_of}
use Rattle.sip_read.proofs.Calls.{call_id_takes, call_id_again, sequence_takes, sequence_again}
use Rattle.sip_read.proofs.Elements.{listed_take, listed_again}
use Rattle.sip_read.proofs.Lines.{header_takes, header_again}
use Rattle.sip_read.proofs.Parties.{party_takes, party_again}

-- ---- the values of a line

alone_some : {A : Type 0} (f : A → Item) (o : Option A) (xs : List Item) → alone (option_map f o) ≡ Some xs → (x : A) × (o ≡ Some x) × (xs ≡ f x ∷ [])
alone_some f (Some x) xs e = (x, refl, sym (some_is (f x ∷ []) xs e))
alone_some f None xs e = absurd cc

raw : (x : Item) (xs : List Item) → alone (Some x) ≡ Some xs → xs ≡ x ∷ []
raw x xs e = sym (some_is (x ∷ []) xs e)

pub values_take : (n : Header) (v : List ℕ) (xs : List Item) → IsTrimmed v → line_values n v ≡ Some xs → AreValues n v xs
values_take headers.Via v xs t e = listed_take listed.Via v xs t.0 e
values_take headers.From v xs t e = let m = alone_some (item headers.From) (party_of v) xs e in (m.0, party_takes v m.0 m.1, m.2)
values_take headers.To v xs t e = let m = alone_some (item headers.To) (party_of v) xs e in (m.0, party_takes v m.0 m.1, m.2)
values_take headers.CallId v xs t e = let m = alone_some (item headers.CallId) (call_id_of v) xs e in let w = call_id_takes v m.0 m.1 in (w.1, m.2 ∙ ap (λ (l : List ℕ). item headers.CallId l ∷ []) w.0)
values_take headers.CSeq v xs t e = let m = alone_some (item headers.CSeq) (sequence_of v) xs e in (m.0, sequence_takes v m.0 m.1, m.2)
values_take headers.ContentLength v xs t e = let m = alone_some (item headers.ContentLength) (all_of (is_in class.Digit) v) xs e in let w = all_takes class.Digit v m.0 m.1 in (w.1, m.2 ∙ ap (λ (l : List ℕ). item headers.ContentLength l ∷ []) w.0)
values_take headers.Require v xs t e = listed_take listed.Require v xs t.0 e
values_take headers.RecordRoute v xs t e = listed_take listed.RecordRoute v xs t.0 e
values_take headers.Other v xs t e = sym (some_is [] xs e)
values_take header v xs t e = raw (item header v) xs e

pub values_again : (n : Header) (v : List ℕ) (xs : List Item) → IsUtf8 v → AreValues n v xs → line_values n v ≡ Some xs
values_again headers.Via v xs u h = listed_again listed.Via v xs u h
values_again headers.From v xs u h = rw (party_again v h.0 u h.1, h.2) refl
values_again headers.To v xs u h = rw (party_again v h.0 u h.1, h.2) refl
values_again headers.CallId v xs u h = rw (call_id_again v h.0, h.1) refl
values_again headers.CSeq v xs u h = rw (sequence_again v h.0 h.1, h.2) refl
values_again headers.ContentLength v xs u h = rw (all_again class.Digit v h.0, h.1) refl
values_again headers.Require v xs u h = listed_again listed.Require v xs u h
values_again headers.RecordRoute v xs u h = listed_again listed.RecordRoute v xs u h
values_again headers.Other v xs u h = rw h refl
values_again header v xs u h = rw h refl

-- ---- a line

-- the value of a line is a text where the line is one
before_spaces : (v right : List ℕ) → AreSpaces right → IsUtf8 (v ++ right) → IsUtf8 v
before_spaces v [] all u = subst IsUtf8 (append-nil v) u
before_spaces v (c ∷ right) all u = text_before_ascii v c right (space_small c (and_both (is_space c) (list_all is_space right) all).0) u

value_text : (line : List ℕ) (xs : List Item) (h : IsLine line xs) → IsUtf8 h.value
value_text line xs h =
    let a = text_after_ascii (is_in class.Token) token_small h.name (h.gap ++ 58 ∷ (h.left ++ (h.value ++ h.right))) h.is_name.0 (subst IsUtf8 h.whole h.is_text) in
    let b = text_after_ascii is_space space_small h.gap (58 ∷ (h.left ++ (h.value ++ h.right))) h.spaces_gap a in
    let c = text_after_ascii (λ n. eqb n 58) (λ n e. omega (arith, eqb-true n 58 e)) (58 ∷ []) (h.left ++ (h.value ++ h.right)) refl b in
    before_spaces h.value h.right h.spaces_right (text_after_ascii is_space space_small h.left (h.value ++ h.right) h.spaces_left c)

pub line_takes : (line : List ℕ) (xs : List Item) → line_items line ≡ Some xs → IsLine line xs
unfolding line_items
line_takes line xs e = step (is_utf8 line) refl e where
  step : (b : Bool) → is_utf8 line ≡ b → cond b (header_of line >>= λ h. line_values (header_named h.0) h.1) None ≡ Some xs → IsLine line xs
  step false no_text e = absurd cc
  step true text e =
      let b = bind_some (header_of line) (λ h. line_values (header_named h.0) h.1) xs e in
      let h = header_takes line b.0.0 b.0.1 b.1 in
      record {
        name = b.0.0;
        gap = h.gap;
        left = h.trims.left;
        value = b.0.1;
        right = h.trims.right;
        is_name = h.is_name;
        spaces_gap = h.spaces_gap;
        spaces_left = h.trims.spaces_left;
        spaces_right = h.trims.spaces_right;
        trimmed = h.trims.trimmed;
        are_values = values_take (header_named b.0.0) b.0.1 xs h.trims.trimmed b.2;
        whole = h.whole ∙ ap (λ (l : List ℕ). b.0.0 ++ (h.gap ++ 58 ∷ l)) h.trims.whole;
        is_text = IsUtf8-from_is_utf8 line text;
      }

pub line_again : (line : List ℕ) (xs : List Item) → IsLine line xs → line_items line ≡ Some xs
unfolding line_items
line_again line xs h =
    let header : header_of line ≡ Some (h.name, h.value) = header_again line h.name h.value (record {
      gap = h.gap;
      after = h.left ++ (h.value ++ h.right);
      is_name = h.is_name;
      spaces_gap = h.spaces_gap;
      trims = record { left = h.left; right = h.right; spaces_left = h.spaces_left; spaces_right = h.spaces_right; trimmed = h.trimmed; whole = refl };
      whole = h.whole;
    }) in
    rw (is_utf8-from_IsUtf8 line h.is_text, header) (values_again (header_named h.name) h.value xs (value_text line xs h) h.are_values)

-- ---- lines

abbrev found : List Item → Option (List Item)
found xs = Some xs

pub items_take : (lines : List (List ℕ)) (xs : List Item) → items_of lines ≡ Some xs → AreItems lines xs
unfolding items_of
items_take [] xs e = sym (some_is [] xs e)
items_take (line ∷ lines) xs e =
    let b = bind_some (line_items line) (λ x. items_of lines >>= λ ys. found (x ++ ys)) xs e in
    let d = bind_some (items_of lines) (λ ys. found (b.0 ++ ys)) xs b.2 in
    (b.0, d.0, line_takes line b.0 b.1, items_take lines d.0 d.1, sym (some_is (b.0 ++ d.0) xs d.2))

pub items_again : (lines : List (List ℕ)) (xs : List Item) → AreItems lines xs → items_of lines ≡ Some xs
unfolding items_of
items_again [] xs h = rw h refl
items_again (line ∷ lines) xs h = rw (line_again line h.0 h.2, items_again lines h.1 h.3, h.4) refl
