-- What the loops over elements and over lines gather.
use Rattle.std.proofs.Common.{◌≡◌, ℕ, zero, suc, ◌≤◌, ◌<◌, true, false, eqb, cond, List, [], ◌∷◌, ◌++◌, length, Option, Some, None, option_map, refl, sym, ap, ◌∙◌, arith}
use Rattle.std.specs.Str.{is_utf8}
use Rattle.sip_text.specs.Reading.{◌>>=◌, after_comma, elements_at, elements_of}
use Rattle.sip_text.proofs.Pieces.{bind_same, some_is}
use Rattle.sip_text.proofs.CommaLists.{comma_shortens}
use Rattle.sip_read.specs.declared.value.Listed.{Listed}
use Rattle.sip_read.specs.Items.{Item}
use Rattle.sip_read.specs.ItemsComputed.{element_at, alone, line_values, line_items, items_of, section_of}
use Rattle.sip_read.specs.declared.error.ReadError.{ReadError}
use Rattle.sip_read.specs.declared.error.ReadError.TheVariants as errors
use Rattle.sip_read.specs.GatheredComputed.{Gathered, with_item, with_element, with_items, gather}
use Rattle.sip_read.specs.Headers.{header_named}
use Rattle.sip_read.specs.declared.datagram.Header.{Header}
use Rattle.sip_read.specs.LineAnswers.{IsBad}
use Rattle.sip_read.specs.LinesComputed.{line_at, header_of, header_line, unfolded_of, lines_at, lines_of}
use Rattle.sip_read.proofs.Continuations.{unfolded_shortens}
use Rattle.sip_read.proofs.Elements.{element_shortens}
use Rattle.sip_read.proofs.Sections.{step_of, no_lines, enough}

-- ---- elements

abbrev found : List Item → Option (List Item)
found xs = Some xs

abbrev goes : Listed → ℕ → Item → List ℕ → Option (List Item)
goes k n x r = cond {A = Option (List Item)} (eqb (length r) 0) (found (x ∷ [])) (after_comma r >>= λ q. elements_at (element_at k) n q >>= λ xs. found (x ∷ xs))

fuel : (k : Listed) (n m : ℕ) (t : List ℕ) → length t < n → length t < m → elements_at (element_at k) n t ≡ elements_at (element_at k) m t
unfolding elements_at
fuel k zero m t a b = absurd (omega (arith, a))
fuel k (suc n) zero t a b = absurd (omega (arith, b))
fuel k (suc n) (suc m) t a b = bind_same (element_at k t) (λ y. goes k n y.0 y.1) (λ y. goes k m y.0 y.1)
    (λ y e. ap (λ (o : Option (List Item)). cond {A = Option (List Item)} (eqb (length y.1) 0) (found (y.0 ∷ [])) o)
    (bind_same (after_comma y.1) (λ q. elements_at (element_at k) n q >>= λ xs. found (y.0 ∷ xs)) (λ q. elements_at (element_at k) m q >>= λ xs. found (y.0 ∷ xs))
    (λ q c. ap (λ (o : Option (List Item)). o >>= λ xs. found (y.0 ∷ xs)) (fuel k n m q (omega (arith, a, element_shortens k t y.0 y.1 e, comma_shortens y.1 q c)) (omega (arith, b, element_shortens k t y.0 y.1 e, comma_shortens y.1 q c))))))

-- what the elements of the text add to what was gathered
abbrev pub adding : Listed → Gathered → List ℕ → Option Gathered
adding k g t = option_map (with_items g) (elements_of (element_at k) t)

later : (g : Gathered) (x : Item) (o : Option (List Item)) → option_map (with_items g) (o >>= λ xs. found (x ∷ xs)) ≡ option_map (with_items (with_item g x)) o
later g x None = refl
later g x (Some xs) = refl

none_before : {A B : Type 0} (f : A → B) (o : Option A) → option_map f o ≡ None → o ≡ None
none_before f None e = refl
none_before f (Some x) e = absurd cc

some_before : {A B : Type 0} (f : A → B) (o : Option A) (y : B) → option_map f o ≡ Some y → (x : A) × (o ≡ Some x) × (f x ≡ y)
some_before f None y e = absurd cc
some_before f (Some x) y e = (x, refl, some_is (f x) y e)

pub bad_before : {A B : Type 0} (f : A → B) (o : Option A) (e : ReadError) → IsBad e (option_map f o) → IsBad e o
bad_before f o errors.BadLine h = none_before f o h
bad_before f o errors.NoMemory h = tt
bad_before f o e h = absurd h

bad_as : {A B : Type 0} (o : Option A) (p : Option B) → (o ≡ None → p ≡ None) → (e : ReadError) → IsBad e o → IsBad e p
bad_as o p f errors.BadLine h = f h
bad_as o p f errors.NoMemory h = tt
bad_as o p f e h = absurd h

module _ (k : Listed) (g : Gathered) (t : List ℕ) (total : Option Gathered) (so_far : adding k g t ≡ total) where
  no_elements : elements_of (element_at k) t ≡ None → total ≡ None
  no_elements e = sym so_far ∙ ap (option_map (with_items g)) e

  no_element : element_at k t ≡ None → total ≡ None
  unfolding elements_at
  no_element e = let z : elements_of (element_at k) t ≡ None = rw e refl in no_elements z

  pub bad_element : (e : ReadError) → IsBad e (with_element g (element_at k t)) → IsBad e total
  bad_element e h = bad_as (element_at k t) total no_element e (bad_before (λ x. (with_item g x.0, x.1)) (element_at k t) e h)

  module _ (g' : Gathered) (r : List ℕ) (with_one : with_element g (element_at k t) ≡ Some (g', r)) where
    record One : Type 0 where
      x : Item
      is : element_at k t ≡ Some (x, r)
      adds : with_item g x ≡ g'

    one : One
    one =
        let b = some_before (λ (x : Item × List ℕ). (with_item g x.0, x.1)) (element_at k t) (g', r) with_one in
        record {
          x = b.0.0;
          is = b.1 ∙ ap (λ (l : List ℕ). Some (b.0.0, l)) (ap (λ (q : Gathered × List ℕ). q.1) b.2);
          adds = ap (λ (q : Gathered × List ℕ). q.0) b.2;
        }

    pub rest_shortens : length r ≤ length t
    rest_shortens = element_shortens k t one.x r one.is

    pub is_done : eqb (length r) 0 ≡ true → total ≡ Some g'
    unfolding elements_at
    is_done empty =
        let z : elements_of (element_at k) t ≡ Some (one.x ∷ []) = rw (one.is, empty) refl in
        sym so_far ∙ ap (option_map (with_items g)) z ∙ ap (λ (h : Gathered). Some h) one.adds

    pub fails_comma : eqb (length r) 0 ≡ false → after_comma r ≡ None → total ≡ None
    unfolding elements_at
    fails_comma some e = let z : elements_of (element_at k) t ≡ None = rw (one.is, some, e) refl in no_elements z

    pub goes_on : eqb (length r) 0 ≡ false → (q : List ℕ) → after_comma r ≡ Some q → adding k g' q ≡ total
    unfolding elements_at
    goes_on some q c =
        let x = one.x in
        let enough : elements_at (element_at k) (length t) q ≡ elements_of (element_at k) q = fuel k (length t) (suc (length q)) q (omega (arith, rest_shortens, comma_shortens r q c)) (omega arith) in
        let z : elements_of (element_at k) t ≡ (elements_of (element_at k) q >>= λ xs. found (x ∷ xs)) = rw (one.is, some, c) (ap (λ (o : Option (List Item)). o >>= λ xs. found (x ∷ xs)) enough) in
        ap (λ (h : Gathered). adding k h q) (sym one.adds) ∙ sym (later g x (elements_of (element_at k) q)) ∙ ap (option_map (with_items g)) (sym z) ∙ so_far

-- ---- a line

pub bad_alone : {A : Type 0} (f : A → Item) (o : Option A) (g : Gathered) (e : ReadError) → IsBad e o → IsBad e (option_map (with_items g) (alone (option_map f o)))
bad_alone f o g e h = bad_as o (option_map (with_items g) (alone (option_map f o))) (λ none. rw none refl) e h

-- the values of a header, if the line is of one
abbrev values_of : Option (Header × List ℕ) → Option (List Item)
values_of o = o >>= λ h. line_values h.0 h.1

by_header : (line : List ℕ) → is_utf8 line ≡ true → line_items line ≡ values_of (header_line line)
unfolding line_items header_line
by_header line text = rw text (step (header_of line)) where
  step : (o : Option (List ℕ × List ℕ)) → (o >>= λ h. line_values (header_named h.0) h.1) ≡ values_of (o >>= λ h. Some (header_named h.0, h.1))
  step None = refl
  step (Some h) = refl

pub line_is : (line : List ℕ) (header : Header) (value : List ℕ) → is_utf8 line ≡ true → header_line line ≡ Some (header, value) → line_items line ≡ line_values header value
line_is line header value text is = by_header line text ∙ ap values_of is

pub no_line : (line : List ℕ) → is_utf8 line ≡ true → header_line line ≡ None → line_items line ≡ None
no_line line text is = by_header line text ∙ ap values_of is

-- ---- lines

with_both : (g : Gathered) (xs ys : List Item) → with_items g (xs ++ ys) ≡ with_items (with_items g xs) ys
with_both g [] ys = refl
with_both g (x ∷ xs) ys = with_both (with_item g x) xs ys

abbrev Read : Type 0
Read = Option (List Item × List ℕ)

abbrev section_found : List Item → List ℕ → Read
section_found xs r = Some (xs, r)

abbrev no_section : Read
no_section = None

abbrev lines_found : List (List ℕ) → List ℕ → Option (List (List ℕ) × List ℕ)
lines_found ls r = Some (ls, r)

after_line : (o : Option (List (List ℕ) × List ℕ)) (line : List ℕ) → ((o >>= λ l. lines_found (line ∷ l.0) l.1) >>= λ h. items_of h.0 >>= λ xs. section_found xs h.1) ≡ (line_items line >>= λ xs. (o >>= λ h. items_of h.0 >>= λ ys. section_found ys h.1) >>= λ q. section_found (xs ++ q.0) q.1)
unfolding items_of
after_line None line = step (line_items line) where
  step : (o : Option (List Item)) → no_section ≡ (o >>= λ xs. no_section >>= λ q. section_found (xs ++ q.0) q.1)
  step None = refl
  step (Some xs) = refl
after_line (Some h) line = step (line_items line) (items_of h.0) where
  step : (o p : Option (List Item)) → ((o >>= λ x. p >>= λ ys. found (x ++ ys)) >>= λ xs. section_found xs h.1) ≡ (o >>= λ xs. (p >>= λ ys. section_found ys h.1) >>= λ q. section_found (xs ++ q.0) q.1)
  step None p = refl
  step (Some xs) None = refl
  step (Some xs) (Some ys) = refl

abbrev pair : Gathered → List ℕ → Gathered × List ℕ
pair g r = (g, r)

gathers : (g : Gathered) (xs : List Item) (o : Read) → option_map (λ q. pair (with_items g q.0) q.1) (o >>= λ q. section_found (xs ++ q.0) q.1) ≡ option_map (λ q. pair (with_items (with_items g xs) q.0) q.1) o
gathers g xs None = refl
gathers g xs (Some q) = ap (λ (h : Gathered). Some (pair h q.1)) (with_both g xs q.0)

none_gathered : (g : Gathered) (o : Read) → o ≡ None → option_map (λ q. pair (with_items g q.0) q.1) o ≡ None
none_gathered g o e = rw e refl

module _ (g : Gathered) (t : List ℕ) (total : Option (Gathered × List ℕ)) (so_far : gather g t ≡ total) where
  pub fails_line : line_at t ≡ None → total ≡ None
  fails_line e = let z : section_of t ≡ None = rw (no_lines t e (length t)) refl in sym so_far ∙ none_gathered g (section_of t) z

  module _ (first s : List ℕ) (is : line_at t ≡ Some (first, s)) where
    pub ends : eqb (length first) 0 ≡ true → total ≡ Some (g, s)
    unfolding items_of
    ends empty =
        let k : lines_of t ≡ Some ([], s) = step_of t first s is ∙ rw empty refl in
        let z : section_of t ≡ Some ([], s) = rw k refl in
        sym so_far ∙ ap (option_map (λ q. pair (with_items g q.0) q.1)) z

    pub fails_unfolding : eqb (length first) 0 ≡ false → unfolded_of first s ≡ None → total ≡ None
    fails_unfolding some e =
        let k : lines_of t ≡ None = step_of t first s is ∙ rw (some, e) refl in
        let z : section_of t ≡ None = rw k refl in
        sym so_far ∙ none_gathered g (section_of t) z

    module _ (some : eqb (length first) 0 ≡ false) (line r : List ℕ) (e : unfolded_of first s ≡ Some (line, r)) where
      unfolds : section_of t ≡ (line_items line >>= λ xs. section_of r >>= λ q. section_found (xs ++ q.0) q.1)
      unfolds =
          let same : lines_at (length s) r ≡ lines_of r = enough (length s) (length r) r (unfolded_shortens first s line r e) (omega arith) in
          let k : lines_of t ≡ (lines_of r >>= λ o. lines_found (line ∷ o.0) o.1) = step_of t first s is ∙ rw (some, e) (ap (λ (o : Option (List (List ℕ) × List ℕ)). o >>= λ o. lines_found (line ∷ o.0) o.1) same) in
          ap (λ (o : Option (List (List ℕ) × List ℕ)). o >>= λ h. items_of h.0 >>= λ xs. section_found xs h.1) k ∙ after_line (lines_of r) line

      fails_values : line_items line ≡ None → total ≡ None
      fails_values none = let z : section_of t ≡ None = unfolds ∙ rw none refl in sym so_far ∙ none_gathered g (section_of t) z

      pub bad_line : (e : ReadError) → IsBad e (option_map (with_items g) (line_items line)) → IsBad e total
      bad_line e h = bad_as (line_items line) total fails_values e (bad_before (with_items g) (line_items line) e h)

      pub line_goes_on : (g' : Gathered) → option_map (with_items g) (line_items line) ≡ Some g' → gather g' r ≡ total
      line_goes_on g' adds =
          let b = some_before (with_items g) (line_items line) g' adds in
          let z : section_of t ≡ (section_of r >>= λ q. section_found (b.0 ++ q.0) q.1) = unfolds ∙ ap (λ (o : Option (List Item)). o >>= λ xs. section_of r >>= λ q. section_found (xs ++ q.0) q.1) b.1 in
          ap (λ (h : Gathered). gather h r) (sym b.2) ∙ sym (gathers g b.0 (section_of r)) ∙ ap (option_map (λ q. pair (with_items g q.0) q.1)) (sym z) ∙ so_far
