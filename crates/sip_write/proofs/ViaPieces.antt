-- The parameters of a Via value are the pieces that it is cut into.
use Rattle.std.proofs.Common.{◌≡◌, ◌≢◌, ℕ, Bool, true, false, eqb, List, [], ◌∷◌, ◌++◌, reverse, Option, Some, None, refl, sym, ap, subst, ◌∙◌, append_assoc, inl, inr}
use Rattle.std.specs.Prelude.{not}
use Rattle.std.specs.List.{list_all}
use Rattle.std.proofs.lemmas.List.{append-nil}
use Rattle.std.proofs.lemmas.Bool.{ne_eqb}
use Rattle.sip_text.specs.declared.scan.Class.TheVariants as class
use Rattle.sip_text.specs.Bytes.{is_space, is_token_byte, is_value_byte}
use Rattle.sip_text.specs.Grammar.{AllPassing, AreSpaces, IsWord, Stops, IsInside, nothing, plain, escaped, IsQuoted, IsValue, IsAssigned, Parameter, AreParameters}
use Rattle.sip_text.proofs.NotEmpty.{cons_some, some_behind, ends_more}
use Rattle.sip_text.proofs.Pieces.{and_both, no_space, NoSpace, apart}
use Rattle.sip_write.specs.declared.quoting.Quoting.{Quoting}
use Rattle.sip_write.specs.declared.quoting.Quoting.TheVariants.{Outside, Inside}
use Rattle.sip_write.specs.Via.{Parts, parts_of, quoting_after}
use Rattle.sip_write.specs.Laws.{is_front_byte, ArePieces, CutsIntoParameters}
use Rattle.sip_write.proofs.Cuts.{IsUncut, leads, leads-append, uncut-append, whole_front, cut_front}

-- a text that is read outside quoted strings from its front to its end, without a cut
record IsOpen (q : Quoting) (text : List ℕ) : Type 0 where
  uncut : IsUncut q text
  to : leads q text ≡ q

open-append : (q : Quoting) (x y : List ℕ) → IsOpen q x → IsOpen q y → IsOpen q (x ++ y)
open-append q x y h k = record {
  uncut = uncut-append q x y h.uncut (subst (λ (p : Quoting). IsUncut p y) (sym h.to) k.uncut);
  to = leads-append q x y ∙ ap (λ (p : Quoting). leads p y) h.to ∙ k.to;
}

-- characters that are no quotes and no semicolons
front_open : (x : List ℕ) → AllPassing is_front_byte x → IsOpen Outside x
front_open [] all = record { uncut = tt; to = refl }
front_open (c ∷ x) all =
    let both = and_both (is_front_byte c) (list_all is_front_byte x) all in
    let parts = and_both (not (eqb c 34)) (not (eqb c 59)) both.0 in
    let quote : eqb c 34 ≡ false = not_true (eqb c 34) parts.0 in
    let semicolon : eqb c 59 ≡ false = not_true (eqb c 59) parts.1 in
    let rest = front_open x both.1 in
    let stays : quoting_after Outside c ≡ Outside = rw quote refl in
    record {
      uncut = (semicolon, subst (λ (p : Quoting). IsUncut p x) (sym stays) rest.uncut);
      to = ap (λ (p : Quoting). leads p x) stays ∙ rest.to;
    } where
      not_true : (b : Bool) → not b ≡ true → b ≡ false
      not_true true e = absurd cc
      not_true false e = refl

-- what stands between quotes
inside_open : {x : List ℕ} → IsInside x → IsOpen Inside x
inside_open nothing = record { uncut = tt; to = refl }
inside_open (plain {x} {text} a b i) =
    let rest = inside_open i in
    let stays : quoting_after Inside x ≡ Inside = rw (ne_eqb x 34 a, ne_eqb x 92 b) refl in
    record { uncut = (refl, subst (λ (p : Quoting). IsUncut p text) (sym stays) rest.uncut); to = ap (λ (p : Quoting). leads p text) stays ∙ rest.to }
inside_open (escaped i) = let rest = inside_open i in record { uncut = (refl, (refl, rest.uncut)); to = rest.to }

quoted_open : (text : List ℕ) → IsQuoted text → IsOpen Outside text
quoted_open text q =
    let inside : List ℕ = q.0 in
    let k : IsOpen Inside inside = inside_open q.1 in
    let close : IsUncut (leads Inside inside) (34 ∷ []) = subst (λ (p : Quoting). IsUncut p (34 ∷ [])) (sym k.to) (refl, tt) in
    let whole : IsOpen Outside (34 ∷ (inside ++ 34 ∷ [])) = record {
      uncut = (refl, uncut-append Inside inside (34 ∷ []) k.uncut close);
      to = leads-append Inside inside (34 ∷ []) ∙ ap (λ (p : Quoting). leads p (34 ∷ [])) k.to;
    } in
    subst (IsOpen Outside) (sym q.2) whole

-- ---- classes

pub of_class : (p : ℕ → Bool) → p 34 ≡ false → p 59 ≡ false → (x : List ℕ) → AllPassing p x → AllPassing is_front_byte x
of_class p h k [] all = refl
of_class p h k (c ∷ x) all =
    let both = and_both (p c) (list_all p x) all in
    rw (apart p 34 h c both.0, apart p 59 k c both.0) (of_class p h k x both.1)

class_open : (p : ℕ → Bool) → p 34 ≡ false → p 59 ≡ false → (x : List ℕ) → AllPassing p x → IsOpen Outside x
class_open p h k x all = front_open x (of_class p h k x all)

-- ---- the end of a text

pub word_ends : (p : ℕ → Bool) → NoSpace p → (x : List ℕ) → AllPassing p x → x ≢ [] → Stops is_space (reverse x)
word_ends p none [] all some = absurd (some refl)
word_ends p none (c ∷ []) all some = no_space p none c (and_both (p c) true all).0
word_ends p none (c ∷ d ∷ x) all some =
    ends_more (c ∷ []) (d ∷ x) (cons_some d x) (word_ends p none (d ∷ x) (and_both (p c) (list_all p (d ∷ x)) all).1 (cons_some d x))

-- ---- values and parameters

-- a text without a cut that ends with no blank
record IsSolid (text : List ℕ) : Type 0 where
  open_text : IsOpen Outside text
  some : text ≢ []
  ends : Stops is_space (reverse text)

solid_more : (x y : List ℕ) → IsOpen Outside x → IsSolid y → IsSolid (x ++ y)
solid_more x y open_x k = record { open_text = open-append Outside x y open_x k.open_text; some = some_behind x y k.some; ends = ends_more x y k.some k.ends }

word_solid : (p : ℕ → Bool) → p 34 ≡ false → p 59 ≡ false → NoSpace p → (x : List ℕ) → AllPassing p x → x ≢ [] → IsSolid x
word_solid p h k none x all some = record { open_text = class_open p h k x all; some = some; ends = word_ends p none x all some }

quoted_solid : (x : List ℕ) → IsQuoted x → IsSolid x
quoted_solid x q =
    let ends : Stops is_space (reverse (34 ∷ (q.0 ++ 34 ∷ []))) = ends_more (34 ∷ q.0) (34 ∷ []) (cons_some 34 []) refl in
    record {
      open_text = quoted_open x q;
      some = subst (λ (l : List ℕ). l ≢ []) (sym q.2) (cons_some 34 (q.0 ++ 34 ∷ []));
      ends = subst (λ (l : List ℕ). Stops is_space (reverse l)) (sym q.2) ends;
    }

value_solid : (v : List ℕ) → IsValue v → IsSolid v
value_solid v (inl q) = quoted_solid v q
value_solid v (inr w) = word_solid is_value_byte refl refl (record { sp = refl; ht = refl }) v w.0 w.1

spaces_open : (x : List ℕ) → AreSpaces x → IsOpen Outside x
spaces_open x all = class_open is_space refl refl x all

named_solid : (name assigned : List ℕ) (v : Option (List ℕ)) → IsWord class.Token name → IsAssigned assigned v → IsSolid (name ++ assigned)
named_solid name assigned None w e =
    subst (λ (t : List ℕ). IsSolid (name ++ t)) (sym e) (subst IsSolid (sym (append-nil name)) (word_solid is_token_byte refl refl (record { sp = refl; ht = refl }) name w.0 w.1))
named_solid name assigned (Some v) w (a, b, spaces_a, spaces_b, value, whole) =
    let behind : IsSolid (61 ∷ (b ++ v)) = solid_more (61 ∷ []) (b ++ v) (front_open (61 ∷ []) refl) (solid_more b v (spaces_open b spaces_b) (value_solid v value)) in
    subst (λ (t : List ℕ). IsSolid (name ++ t)) (sym whole)
    (solid_more name (a ++ 61 ∷ (b ++ v)) (class_open is_token_byte refl refl name w.0) (solid_more a (61 ∷ (b ++ v)) (spaces_open a spaces_a) behind))

abbrev parts_with : List ℕ → List (List ℕ) → Parts
parts_with front parameters = record { front = front; parameters = parameters }

parameters_cut : (ps : List Parameter) (front behind : List ℕ) → IsOpen Outside front → Stops is_space (reverse front) → AreParameters behind ps
    → (pieces : List (List ℕ)) × ArePieces pieces ps × (parts_of (front ++ behind) ≡ record { front = front; parameters = pieces })
parameters_cut [] front behind open_front ends e =
    ([], tt, ap (λ (b : List ℕ). parts_of (front ++ b)) e ∙ ap parts_of (append-nil front) ∙ whole_front Outside front open_front.uncut)
parameters_cut (p ∷ ps) front behind open_front ends (first, rest, is, more, whole) =
    let body : List ℕ = is.behind ++ (p.name ++ is.assigned) in
    let solid : IsSolid body = solid_more is.behind (p.name ++ is.assigned) (spaces_open is.behind is.spaces_behind) (named_solid p.name is.assigned p.value is.name is.value) in
    let k = parameters_cut ps body rest solid.open_text solid.ends more in
    let text : front ++ behind ≡ front ++ (is.before ++ 59 ∷ (body ++ rest)) =
    ap (λ (b : List ℕ). front ++ b) (whole ∙ ap (λ (f : List ℕ). f ++ rest) is.whole ∙ append_assoc is.before (59 ∷ body) rest) in
    let at = cut_front Outside front is.before (body ++ rest) open_front.uncut open_front.to is.spaces_before ends in (
      first ∷ k.0,
      (is, k.1),
      ap parts_of text ∙ at ∙ ap (λ (q : Parts). parts_with front ((is.before ++ 59 ∷ q.front) ∷ q.parameters)) k.2
          ∙ ap (λ (f : List ℕ). parts_with front (f ∷ k.0)) (sym is.whole),
    )

pub cuts : CutsIntoParameters
cuts front behind ps is are = parameters_cut ps front behind (front_open front is.bytes) is.ends are
