-- Messages whose header lines stand in one piece each, as a writer lays them out: from the pieces to the relation.
use Rattle.std.proofs.Common.{◌≡◌, ℕ, ◌≤◌, List, [], ◌∷◌, ◌++◌, length, refl, sym, ap}
use Rattle.std.specs.List.{list_all}
use Rattle.std.specs.Str.{IsUtf8}
use Rattle.std.proofs.lemmas.List.{append-nil}
use Rattle.sip_text.specs.declared.scan.Class.TheVariants as class
use Rattle.sip_text.specs.Bytes.{is_in}
use Rattle.sip_text.specs.Grammar.{AllPassing, IsWord, IsTrimmed}
use Rattle.sip_text.proofs.Pieces.{NoSpace, no_space, and_both}
use Rattle.sip_read.specs.FirstLine.{First, IsFirstLine}
use Rattle.sip_read.specs.Folding.{unbroken, BeginsLine, AreLines}
use Rattle.sip_read.specs.Headers.{header_named}
use Rattle.sip_read.specs.Items.{Item, AreValues, IsLine, AreItems}
use Rattle.sip_read.specs.Message.{HasItems, HasHead}

-- lines, each with its CRLF
abbrev pub on_wire : List (List ℕ) → List ℕ
on_wire [] = []
on_wire (line ∷ lines) = line ++ 13 ∷ 10 ∷ on_wire lines

-- a header line that stands in one piece, and its values
pub record IsPlain (line : List ℕ) (xs : List Item) : Type 0 where
  pub in_line : AllPassing (is_in class.Line) line
  pub begins : BeginsLine line
  pub is : IsLine line xs

-- such lines, and their values in order
abbrev pub ArePlain : List (List ℕ) → List Item → Type 0
ArePlain [] xs = xs ≡ []
ArePlain (line ∷ lines) xs = (first others : List Item) × IsPlain line first × ArePlain lines others × (xs ≡ first ++ others)

plain_lines : (lines : List (List ℕ)) (xs : List Item) → ArePlain lines xs → AreLines (on_wire lines) lines
plain_lines [] xs h = refl
plain_lines (line ∷ lines) xs h = (line, on_wire lines, unbroken h.2.in_line, h.2.begins, plain_lines lines h.1 h.3, refl)

plain_items : (lines : List (List ℕ)) (xs : List Item) → ArePlain lines xs → AreItems lines xs
plain_items [] xs h = h
plain_items (line ∷ lines) xs h = (h.0, h.1, h.2.is, plain_items lines h.1 h.3, h.4)

-- header lines in one piece each, an empty line, and the rest
pub plain_section : (lines : List (List ℕ)) (xs : List Item) (rest : List ℕ) → ArePlain lines xs → HasItems (on_wire lines ++ 13 ∷ 10 ∷ rest) xs rest
plain_section lines xs rest h = (lines, (on_wire lines, plain_lines lines xs h, refl), plain_items lines xs h)

-- a first line before them
pub plain_head : (line : List ℕ) (first : First) (lines : List (List ℕ)) (xs : List Item) (rest : List ℕ) → AllPassing (is_in class.Line) line → IsFirstLine line first → ArePlain lines xs
    → length (line ++ 13 ∷ 10 ∷ (on_wire lines ++ 13 ∷ 10 ∷ rest)) ≤ 65535 → HasHead (line ++ 13 ∷ 10 ∷ (on_wire lines ++ 13 ∷ 10 ∷ rest)) first xs rest
plain_head line first lines xs rest all is h small = (on_wire lines ++ 13 ∷ 10 ∷ rest, (small, (line, all, is, refl)), plain_section lines xs rest h)

token : NoSpace (is_in class.Token)
token = record { sp = refl; ht = refl }

-- `name: value`
pub named_line : (name value : List ℕ) (xs : List Item) → IsWord class.Token name → IsTrimmed value → AreValues (header_named name) value xs → IsUtf8 (name ++ 58 ∷ 32 ∷ value) → IsLine (name ++ 58 ∷ 32 ∷ value) xs
named_line name value xs w t are u = record {
  name = name;
  gap = [];
  left = 32 ∷ [];
  value = value;
  right = [];
  is_name = w;
  spaces_gap = refl;
  spaces_left = refl;
  spaces_right = refl;
  trimmed = t;
  are_values = are;
  whole = ap (λ (l : List ℕ). name ++ 58 ∷ 32 ∷ l) (sym (append-nil value));
  is_text = u;
}

pub named_begins : (name behind : List ℕ) → IsWord class.Token name → BeginsLine (name ++ behind)
named_begins [] behind w = absurd (w.1 refl)
named_begins (x ∷ name) behind w = (x, name ++ behind, refl, no_space (is_in class.Token) token x (and_both (is_in class.Token x) (list_all (is_in class.Token) name) w.0).0)
