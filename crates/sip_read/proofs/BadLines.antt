-- Each cause of a bad line leaves no header lines.
use Rattle.std.proofs.Common.{◌≡◌, ◌≢◌, ℕ, zero, suc, Bool, true, false, eqb, cond, List, [], ◌∷◌, ◌++◌, length, Option, Some, None, refl, sym, ap, subst, ◌∙◌, append_assoc, append-nil, arith}
use Rattle.std.proofs.lemmas.Bool.{eqb-true, ne_eqb}
use Rattle.std.proofs.lemmas.List.{drop_at}
use Rattle.sip_text.specs.declared.scan.Class.TheVariants as class
use Rattle.sip_text.specs.Bytes.{is_in, is_space}
use Rattle.sip_text.specs.Grammar.{AllPassing, Stops}
use Rattle.sip_text.specs.Reading.{◌>>=◌, after_byte}
use Rattle.sip_text.proofs.Pieces.{bind_some, some_is, prefix_again}
use Rattle.sip_read.specs.Folding.{Unfolds, BeginsLine, AreLines}
use Rattle.sip_read.specs.Headers.{header_named}
use Rattle.sip_read.specs.Items.{Item, AreValues, IsLine, AreItems}
use Rattle.sip_read.specs.LinesComputed.{line_at, header_of, begins_space, joined, continued_at, continued_of, unfolded_of, lines_at}
use Rattle.sip_read.specs.Message.{HasItems}
use Rattle.sip_read.specs.BadLines.{AreWireLines, HasLine, IsNamed, HasBadLine, ends_early, stray, continues_none, unnamed, no_text, bad_value, EachIsABadLine}
use Rattle.sip_read.proofs.Continuations.{line_found, wire_begins}
use Rattle.sip_read.proofs.Lines.{line_again, header_again}
use Rattle.sip_read.proofs.Sections.{lines_again, lines_begin, begins_some}

abbrev Read : Type 0
Read = Option (List ℕ × List ℕ)

abbrev found : List ℕ → List ℕ → Read
found l r = Some (l, r)

abbrev lines_found : List (List ℕ) → List ℕ → Option (List (List ℕ) × List ℕ)
lines_found lines r = Some (lines, r)

-- ---- where lines end early

-- so many lines that aren't empty, and then none
abbrev Stuck : ℕ → List ℕ → Type 0
Stuck zero t = line_at t ≡ None
Stuck (suc n) t = (first r : List ℕ) × (line_at t ≡ Some (first, r)) × (first ≢ []) × Stuck n r

some_line : (first : List ℕ) → first ≢ [] → eqb (length first) 0 ≡ false
some_line [] h = absurd (h refl)
some_line (x ∷ xs) h = ne_eqb (length (x ∷ xs)) 0 (λ e. omega (arith, e))

continued_stuck : (m : ℕ) (line t whole r : List ℕ) (k : ℕ) → Stuck k t → continued_at m line t ≡ Some (whole, r) → (j : ℕ) × Stuck j r
unfolding continued_at
continued_stuck zero line t whole r k stuck e = (k, subst (Stuck k) (ap (λ (q : List ℕ × List ℕ). q.1) (some_is (line, t) (whole, r) e)) stuck)
continued_stuck (suc m) line t whole r zero stuck e = step (begins_space t) e where
  step : (b : Bool) → cond {A = Read} b (line_at t >>= λ p. continued_at m (joined line p.0) p.1) (found line t) ≡ Some (whole, r) → (j : ℕ) × Stuck j r
  step false e = (zero, subst (Stuck zero) (ap (λ (q : List ℕ × List ℕ). q.1) (some_is (line, t) (whole, r) e)) stuck)
  step true e = let none = rw stuck at e in absurd cc
continued_stuck (suc m) line t whole r (suc k) stuck e = step (begins_space t) e (continued_stuck m (joined line stuck.0) stuck.1 whole r k stuck.4) where
  step : (b : Bool) → cond {A = Read} b (line_at t >>= λ p. continued_at m (joined line p.0) p.1) (found line t) ≡ Some (whole, r)
      → (continued_at m (joined line stuck.0) stuck.1 ≡ Some (whole, r) → (j : ℕ) × Stuck j r) → (j : ℕ) × Stuck j r
  step false e f = (suc k, subst (Stuck (suc k)) (ap (λ (q : List ℕ × List ℕ). q.1) (some_is (line, t) (whole, r) e)) stuck)
  step true e f = f (rw stuck.2 at e)

unfolded_stuck : (first behind line r : List ℕ) (k : ℕ) → Stuck k behind → unfolded_of first behind ≡ Some (line, r) → (j : ℕ) × Stuck j r
unfolding unfolded_of
unfolded_stuck first behind line r k stuck e = step (begins_space first) e where
  step : (b : Bool) → cond {A = Read} b None (continued_of first behind) ≡ Some (line, r) → (j : ℕ) × Stuck j r
  step true e = absurd cc
  step false e = continued_stuck (length behind) first behind line r k stuck e

lines_stuck : (n k : ℕ) (t : List ℕ) → Stuck k t → lines_at n t ≡ None
unfolding lines_at
lines_stuck zero k t stuck = refl
lines_stuck (suc n) zero t stuck = rw stuck refl
lines_stuck (suc n) (suc k) t stuck = rw (stuck.2, some_line stuck.0 stuck.3) (step (unfolded_of stuck.0 stuck.1) refl (λ j r h. lines_stuck n j r h)) where
  step : (o : Read) → unfolded_of stuck.0 stuck.1 ≡ o → ((j : ℕ) (r : List ℕ) → Stuck j r → lines_at n r ≡ None)
      → (o >>= λ line. lines_at n line.1 >>= λ others. lines_found (line.0 ∷ others.0) others.1) ≡ None
  step None e f = refl
  step (Some l) e f = let j = unfolded_stuck stuck.0 stuck.1 l.0 l.1 k stuck.4 e in rw (f j.0 l.1 j.1) refl

wire_stuck : (lines : List (List ℕ)) (wire t : List ℕ) → AreWireLines wire lines → line_at t ≡ None → (k : ℕ) × Stuck k (wire ++ t)
wire_stuck [] wire t h none = (zero, ap (λ (l : List ℕ). line_at (l ++ t)) h ∙ none)
wire_stuck (line ∷ lines) wire t h none =
    let others : List ℕ = h.0 in
    let more = wire_stuck lines others t h.3 none in
    let at : wire ++ t ≡ line ++ 13 ∷ 10 ∷ (others ++ t) = ap (λ (l : List ℕ). l ++ t) h.4 ∙ append_assoc line (13 ∷ 10 ∷ others) t in
    (suc more.0, (line, others ++ t, ap line_at at ∙ line_again line (others ++ t) h.1, h.2, more.1))

-- ---- no CRLF behind a text

no_crlf : (rest l : List ℕ) → ((more : List ℕ) → rest ≡ 13 ∷ 10 ∷ more → ⊥) → (after_byte 13 rest >>= λ lf. after_byte 10 lf >>= λ r. found l r) ≡ None
no_crlf [] l none = refl
no_crlf (x ∷ []) l none = step (eqb x 13) where
  step : (b : Bool) → (cond {A = Option (List ℕ)} b (Some []) None >>= λ lf. after_byte 10 lf >>= λ r. found l r) ≡ None
  step true = refl
  step false = refl
no_crlf (x ∷ y ∷ more) l none = step (eqb x 13) refl (eqb y 10) refl where
  step : (a : Bool) → eqb x 13 ≡ a → (b : Bool) → eqb y 10 ≡ b → (cond {A = Option (List ℕ)} a (Some (y ∷ more)) None >>= λ lf. after_byte 10 lf >>= λ r. found l r) ≡ None
  step false e b f = refl
  step true e false f = rw f refl
  step true e true f = absurd (none more (rw (eqb-true x 13 e, eqb-true y 10 f) refl))

no_line : (text rest : List ℕ) → AllPassing (is_in class.Line) text → Stops (is_in class.Line) rest → ((more : List ℕ) → rest ≡ 13 ∷ 10 ∷ more → ⊥) → line_at (text ++ rest) ≡ None
unfolding line_at
no_line text rest all stops none =
    rw (prefix_again (is_in class.Line) text rest all stops, drop_at text rest (length text) refl) (no_crlf rest _ none)

stuck_bad : (section : List ℕ) (k : ℕ) (xs : List Item) (rest : List ℕ) → Stuck k section → HasItems section xs rest → ⊥
stuck_bad section k xs rest stuck h =
    let some = lines_again h.0 section rest (length section) h.1 (omega arith) in
    let none = lines_stuck (length section) k section stuck in
    absurd (cc (some, none))

-- ---- a line among the others

begins_next : (lines : List (List ℕ)) (others wire line more : List ℕ) → AreLines others lines → Unfolds wire line → BeginsLine line → begins_space (others ++ (wire ++ more)) ≡ false
begins_next [] others wire line more h u b = let w = wire_begins u b in ap (λ (l : List ℕ). begins_space (l ++ (wire ++ more))) h ∙ ap (λ (l : List ℕ). begins_space (l ++ more)) w.2 ∙ w.3
begins_next (l ∷ lines) others wire line more h u b =
    let w = wire_begins h.2 h.3 in
    ap (λ (t : List ℕ). begins_space (t ++ (wire ++ more))) h.5 ∙ ap (λ (t : List ℕ). begins_space ((t ++ 13 ∷ 10 ∷ h.1) ++ (wire ++ more))) w.2 ∙ w.3

among : (lines : List (List ℕ)) (before wire line after : List ℕ) (n : ℕ) (ls : List (List ℕ)) (rest : List ℕ) (xs : List Item) → AreLines before lines → Unfolds wire line → BeginsLine line
    → begins_space after ≡ false → lines_at n (before ++ (wire ++ 13 ∷ 10 ∷ after)) ≡ Some (ls, rest) → AreItems ls xs → (ys : List Item) × IsLine line ys
unfolding lines_at
among lines before wire line after zero ls rest xs h u b stops e are = absurd cc
among [] before wire line after (suc n) ls rest xs h u b stops e are =
    let k = line_found wire line after u b stops in
    let at : line_at (before ++ (wire ++ 13 ∷ 10 ∷ after)) ≡ Some (k.first, k.behind) = ap (λ (l : List ℕ). line_at (l ++ (wire ++ 13 ∷ 10 ∷ after))) h ∙ k.begins in
    let one : lines_at (suc n) (before ++ (wire ++ 13 ∷ 10 ∷ after)) ≡ (lines_at n after >>= λ o. lines_found (line ∷ o.0) o.1) = rw (at, begins_some k.first k.some, k.unfolded) refl in
    let d = bind_some (lines_at n after) (λ o. lines_found (line ∷ o.0) o.1) (ls, rest) (sym one ∙ e) in
    let same : line ∷ d.0.0 ≡ ls = ap (λ (q : List (List ℕ) × List ℕ). q.0) (some_is (line ∷ d.0.0, d.0.1) (ls, rest) d.2) in
    let a : AreItems (line ∷ d.0.0) xs = subst (λ (l : List (List ℕ)). AreItems l xs) (sym same) are in
    (a.0, a.2)
among (l ∷ lines) before wire line after (suc n) ls rest xs h u b stops e are =
    let t : List ℕ = wire ++ 13 ∷ 10 ∷ after in
    let first : List ℕ = h.0 in
    let others : List ℕ = h.1 in
    let k = line_found first l (others ++ t) h.2 h.3 (begins_next lines others wire line (13 ∷ 10 ∷ after) h.4 u b) in
    let at : line_at (before ++ t) ≡ Some (k.first, k.behind) = ap line_at (ap (λ (q : List ℕ). q ++ t) h.5 ∙ append_assoc first (13 ∷ 10 ∷ others) t) ∙ k.begins in
    let one : lines_at (suc n) (before ++ t) ≡ (lines_at n (others ++ t) >>= λ o. lines_found (l ∷ o.0) o.1) = rw (at, begins_some k.first k.some, k.unfolded) refl in
    let d = bind_some (lines_at n (others ++ t)) (λ o. lines_found (l ∷ o.0) o.1) (ls, rest) (sym one ∙ e) in
    let same : l ∷ d.0.0 ≡ ls = ap (λ (q : List (List ℕ) × List ℕ). q.0) (some_is (l ∷ d.0.0, d.0.1) (ls, rest) d.2) in
    let a : AreItems (l ∷ d.0.0) xs = subst (λ (q : List (List ℕ)). AreItems q xs) (sym same) are in
    among lines others wire line after n d.0.0 d.0.1 a.1 h.4 u b stops d.1 a.3

no_space : (after : List ℕ) → Stops is_space after → begins_space after ≡ false
no_space [] h = refl
no_space (x ∷ xs) h = h

found_line : (section line : List ℕ) (xs : List Item) (rest : List ℕ) → HasLine section line → HasItems section xs rest → (ys : List Item) × IsLine line ys
found_line section line xs rest has h =
    let e : lines_at (length section) section ≡ Some (h.0, rest) = lines_again h.0 section rest (length section) h.1 (omega arith) in
    let at : lines_at (length section) (has.before ++ (has.wire ++ 13 ∷ 10 ∷ has.after)) ≡ Some (h.0, rest) = ap (lines_at (length section)) (sym has.whole) ∙ e in
    among has.lines has.before has.wire line has.after (length section) h.0 rest xs has.are_lines has.unfolds has.begins (no_space has.after has.ends) at h.2

-- ---- names and values

name_found : (line name value : List ℕ) → IsNamed line name value → header_of line ≡ Some (name, value)
name_found line name value h = header_again line name value (record {
  gap = h.gap;
  after = h.left ++ (value ++ h.right);
  is_name = h.is_name;
  spaces_gap = h.spaces_gap;
  trims = record { left = h.left; right = h.right; spaces_left = h.spaces_left; spaces_right = h.spaces_right; trimmed = h.trimmed; whole = refl };
  whole = h.whole;
})

named : (line : List ℕ) (xs : List Item) (h : IsLine line xs) → IsNamed line h.name h.value
named line xs h = record {
  gap = h.gap;
  left = h.left;
  right = h.right;
  is_name = h.is_name;
  spaces_gap = h.spaces_gap;
  spaces_left = h.spaces_left;
  spaces_right = h.spaces_right;
  trimmed = h.trimmed;
  whole = h.whole;
}

-- ---- the causes

no_items : (section : List ℕ) → HasBadLine section → (xs : List Item) (rest : List ℕ) → HasItems section xs rest → ⊥
no_items section (ends_early wire text lines are all whole) xs rest h =
    let none : line_at text ≡ None = ap line_at (sym (append-nil text)) ∙ no_line text [] all tt (λ more e. absurd cc) in
    let k = wire_stuck lines wire text are none in
    stuck_bad section k.0 xs rest (subst (Stuck k.0) (sym whole) k.1) h
no_items section (stray wire text after x lines are all control none whole) xs rest h =
    let k = wire_stuck lines wire (text ++ x ∷ after) are (no_line text (x ∷ after) all control none) in
    stuck_bad section k.0 xs rest (subst (Stuck k.0) (sym whole) k.1) h
no_items section (continues_none x others space whole) xs rest h =
    let lines = h.1 in
    let one : begins_space section ≡ false = ap begins_space lines.2 ∙ lines_begin lines.0 h.0 rest lines.1 in
    let two : begins_space section ≡ true = ap begins_space whole ∙ space in
    absurd (cc (one, two))
no_items section (unnamed line has none) xs rest h = let k = found_line section line xs rest has h in none k.1.name k.1.value (named line k.0 k.1)
no_items section (no_text line has none) xs rest h = let k = found_line section line xs rest has h in none k.1.is_text
no_items section (bad_value line name value has is none) xs rest h =
    let k = found_line section line xs rest has h in
    let same : (name, value) ≡ (k.1.name, k.1.value) = some_is (name, value) (k.1.name, k.1.value) (sym (name_found line name value is) ∙ name_found line k.1.name k.1.value (named line k.0 k.1)) in
    none k.0 (subst (λ (q : List ℕ × List ℕ). AreValues (header_named q.0) q.1 k.0) (sym same) k.1.are_values)

pub each_is_a_bad_line : EachIsABadLine
each_is_a_bad_line bytes section first has bad = (first, section, has, no_items section bad)
