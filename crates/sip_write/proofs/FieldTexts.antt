-- Texts that stand in header lines, and lines of them.
use Rattle.std.proofs.Common.{◌≡◌, ◌≢◌, ℕ, ◌<◌, ◌^◌, Bool, true, List, [], ◌∷◌, ◌++◌, reverse, refl, sym, subst, arith, decimal}
use Rattle.std.specs.List.{list_all}
use Rattle.std.specs.Str.{IsUtf8}
use Rattle.std.proofs.lemmas.Bool.Decides.{nat_tests}
use Rattle.std.proofs.lemmas.List.{reverse-append}
use Rattle.std.proofs.lemmas.Str.{IsUtf8-append}
use Rattle.sip_text.specs.declared.scan.Class.TheVariants as class
use Rattle.sip_text.specs.Bytes.{is_in, is_space, is_within}
use Rattle.sip_text.specs.Grammar.{AllPassing, IsWord, Stops}
use Rattle.sip_text.proofs.NotEmpty.{cons_some, ends_more}
use Rattle.sip_text.proofs.Pieces.{and_both, no_space, NoSpace}
use Rattle.sip_text.proofs.Numerals.{spelled}
use Rattle.sip_text.proofs.Trims.{all-append, all-reverse}
use Rattle.sip_text.proofs.Utf8.{text_from_ascii, token_small}
use Rattle.sip_read.specs.Calls.{is_visible}
use Rattle.sip_read.specs.Headers.{header_named}
use Rattle.sip_read.specs.Items.{Item, AreValues}
use Rattle.sip_read.proofs.PlainLines.{IsPlain, named_line, named_begins}
use Rattle.sip_write.specs.Lines.{header}
use Rattle.sip_write.specs.ReadAgain.{IsFieldText}

-- ---- bytes

pub all_within : (p q : ℕ → Bool) → ((x : ℕ) → p x ≡ true → q x ≡ true) → (t : List ℕ) → AllPassing p t → AllPassing q t
all_within p q f [] all = refl
all_within p q f (x ∷ t) all = let b = and_both (p x) (list_all p t) all in rw (f x b.0) (all_within p q f t b.1)

pub visible_line : (x : ℕ) → is_visible x ≡ true → is_in class.Line x ≡ true
visible_line x e = grind (arith, nat_tests)

pub visible_small : (x : ℕ) → is_visible x ≡ true → x < 128
visible_small x e = grind (arith, nat_tests)

pub token_visible : (x : ℕ) → is_in class.Token x ≡ true → is_visible x ≡ true
token_visible x e = grind (arith, nat_tests)

pub token_line : (x : ℕ) → is_in class.Token x ≡ true → is_in class.Line x ≡ true
token_line x e = visible_line x (token_visible x e)

pub digit_visible : (x : ℕ) → is_in class.Digit x ≡ true → is_visible x ≡ true
digit_visible x e = grind (arith, nat_tests)

pub uri_visible : (x : ℕ) → is_in class.Uri x ≡ true → is_visible x ≡ true
uri_visible x e = grind (arith, nat_tests)

-- visible, or SP
printed_small : (x : ℕ) → is_within 32 126 x ≡ true → x < 128
printed_small x e = grind (arith, nat_tests)

pub printed_text : (t : List ℕ) → AllPassing (is_within 32 126) t → IsUtf8 t
printed_text t all = text_from_ascii (is_within 32 126) printed_small t all

visible_none : NoSpace is_visible
visible_none = record { sp = refl; ht = refl }

-- ---- the ends of texts

pub stops_both : (p : ℕ → Bool) (x y : List ℕ) → Stops p x → Stops p y → Stops p (x ++ y)
stops_both p [] y a b = b
stops_both p (c ∷ x) y a b = a

pub ends_both : (p : ℕ → Bool) (x y : List ℕ) → Stops p (reverse x) → Stops p (reverse y) → Stops p (reverse (x ++ y))
ends_both p x y a b = subst (Stops p) (sym (reverse-append x y)) (stops_both p (reverse y) (reverse x) b a)

stops_visible : (t : List ℕ) → AllPassing is_visible t → Stops is_space t
stops_visible [] all = tt
stops_visible (x ∷ t) all = no_space is_visible visible_none x (and_both (is_visible x) (list_all is_visible t) all).0

-- ---- texts in header lines

pub field_more : (x y : List ℕ) → IsFieldText x → IsFieldText y → IsFieldText (x ++ y)
field_more x y a b = record {
  bytes = all-append (is_in class.Line) x y a.bytes b.bytes;
  is_text = IsUtf8-append x y a.is_text b.is_text;
  trimmed = (stops_both is_space x y a.trimmed.0 b.trimmed.0, ends_both is_space x y a.trimmed.1 b.trimmed.1);
}

pub visible_text : (t : List ℕ) → AllPassing is_visible t → IsUtf8 t
visible_text t all = text_from_ascii is_visible visible_small t all

pub visible_field : (t : List ℕ) → AllPassing is_visible t → IsFieldText t
visible_field t all = record {
  bytes = all_within is_visible (is_in class.Line) visible_line t all;
  is_text = visible_text t all;
  trimmed = (stops_visible t all, stops_visible (reverse t) (all-reverse is_visible t all));
}

-- a blank between two visible texts
pub spaced_field : (x y : List ℕ) → AllPassing is_visible x → x ≢ [] → AllPassing is_visible y → y ≢ [] → IsFieldText (x ++ 32 ∷ y)
spaced_field x [] a some_x b some_y = absurd (some_y refl)
spaced_field [] (d ∷ y) a some_x b some_y = absurd (some_x refl)
spaced_field (c ∷ x) (d ∷ y) a some_x b some_y =
    let line_x = all_within is_visible (is_in class.Line) visible_line (c ∷ x) a in
    let line_y = all_within is_visible (is_in class.Line) visible_line (d ∷ y) b in
    let text_y : IsUtf8 (32 ∷ d ∷ y) = IsUtf8-append (32 ∷ []) (d ∷ y) (printed_text (32 ∷ []) refl) (visible_text (d ∷ y) b) in
    record {
      bytes = all-append (is_in class.Line) (c ∷ x) (32 ∷ d ∷ y) line_x line_y;
      is_text = IsUtf8-append (c ∷ x) (32 ∷ d ∷ y) (visible_text (c ∷ x) a) text_y;
      trimmed = (stops_visible (c ∷ []) (one_visible c x a), ends_more (c ∷ x) (32 ∷ d ∷ y) (cons_some 32 (d ∷ y)) (ends_more (32 ∷ []) (d ∷ y) (cons_some d y) (stops_visible (reverse (d ∷ y)) (all-reverse is_visible (d ∷ y) b))));
    } where
      one_visible : (c : ℕ) (x : List ℕ) → AllPassing is_visible (c ∷ x) → AllPassing is_visible (c ∷ [])
      one_visible c x a = rw (and_both (is_visible c) (list_all is_visible x) a).0 refl

-- a comma and SP before a text
pub comma_space : (y : List ℕ) → IsFieldText y → y ≢ [] → IsFieldText (44 ∷ 32 ∷ y)
comma_space y b some = record {
  bytes = b.bytes;
  is_text = IsUtf8-append (44 ∷ 32 ∷ []) y (printed_text (44 ∷ 32 ∷ []) refl) b.is_text;
  trimmed = (refl, ends_more (44 ∷ 32 ∷ []) y some b.trimmed.1);
}

-- ---- numbers

pub decimal_visible : (n : ℕ) → n < 2 ^ 64 → AllPassing is_visible (decimal n)
decimal_visible n small = all_within (is_in class.Digit) is_visible digit_visible (decimal n) (spelled n small).0.0

-- ---- lines

pub literal_name : (c : ℕ) (name : List ℕ) → AllPassing (is_in class.Token) (c ∷ name) → IsWord class.Token (c ∷ name)
literal_name c name all = (all, cons_some c name)

-- `name: value`
pub plain : (name value : List ℕ) (xs : List Item) → IsWord class.Token name → IsFieldText value → AreValues (header_named name) value xs → IsPlain (header name value) xs
plain name value xs w f are =
    let behind : IsUtf8 (58 ∷ 32 ∷ value) = IsUtf8-append (58 ∷ 32 ∷ []) value (printed_text (58 ∷ 32 ∷ []) refl) f.is_text in
    record {
      in_line = all-append (is_in class.Line) name (58 ∷ 32 ∷ value) (all_within (is_in class.Token) (is_in class.Line) token_line name w.0) f.bytes;
      begins = named_begins name (58 ∷ 32 ∷ value) w;
      is = named_line name value xs w f.trimmed are (IsUtf8-append name (58 ∷ 32 ∷ value) (text_from_ascii (is_in class.Token) token_small name w.0) behind);
    }
