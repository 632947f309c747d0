-- A header line with the lines that continue it.
use Rattle.std.proofs.Common.{◌≡◌, ◌≢◌, ℕ, zero, suc, ◌+◌, ◌≤◌, Bool, true, false, cond, List, [], ◌∷◌, ◌++◌, length, Option, Some, None, refl, sym, ap, subst, ◌∙◌, append_assoc, arith, inl, inr}
use Rattle.std.specs.List.{list_all}
use Rattle.sip_text.specs.declared.scan.Class.TheVariants as class
use Rattle.sip_text.specs.Bytes.{is_in, is_space}
use Rattle.sip_text.specs.Reading.{◌>>=◌, after_spaces, trim_end}
use Rattle.sip_read.specs.LinesComputed.{line_at, begins_space, joined, continued_at, continued_of, unfolded_of}
use Rattle.sip_text.specs.Grammar.{Stops, AllPassing, AreSpaces, IsWord}
use Rattle.sip_read.specs.Folding.{Unfolds, unbroken, continued, BeginsLine}
use Rattle.sip_text.proofs.Pieces.{bind_some, bind_same, some_is, and_both, spaces_taken, spaces_again, which_space, stops_after_drop}
use Rattle.sip_read.proofs.Lines.{line_takes, line_again, line_shortens}
use Rattle.sip_text.proofs.Trims.{trim_end_parts, trim_again, all-append}

abbrev Read : Type 0
Read = Option (List ℕ × List ℕ)

abbrev found : List ℕ → List ℕ → Read
found line r = Some (line, r)

pub enough : (n m : ℕ) (line t : List ℕ) → length t ≤ n → length t ≤ m → continued_at n line t ≡ continued_at m line t
unfolding continued_at
enough zero zero line t a b = refl
enough zero (suc m) line [] a b = refl
enough zero (suc m) line (x ∷ t) a b = absurd (omega (arith, a))
enough (suc n) zero line [] a b = refl
enough (suc n) zero line (x ∷ t) a b = absurd (omega (arith, b))
enough (suc n) (suc m) line t a b =
    ap (λ (o : Read). cond {A = Read} (begins_space t) o (found line t)) (bind_same (line_at t) (λ p. continued_at n (joined line p.0) p.1) (λ p. continued_at m (joined line p.0) p.1)
    (λ p e. enough n m (joined line p.0) p.1 (omega (arith, line_shortens t p.0 p.1 e)) (omega (arith, line_shortens t p.0 p.1 e))))

-- ---- for the loop

pub goes_on : (line t piece r : List ℕ) → begins_space t ≡ true → line_at t ≡ Some (piece, r) → continued_of line t ≡ continued_of (joined line piece) r
unfolding continued_at
goes_on line t piece r begins e =
    let len = line_shortens t piece r e in
    let k : length t ≡ suc (length r + 1 + length piece) = omega arith in
    rw (k, begins, e) (enough (length r + 1 + length piece) (length r) (joined line piece) r (omega arith) (omega arith))

pub fails : (line t : List ℕ) → begins_space t ≡ true → line_at t ≡ None → continued_of line t ≡ None
unfolding continued_at
fails line [] begins e = absurd cc
fails line (x ∷ t) begins e = rw (begins, e) refl

pub is_done : (line t : List ℕ) → begins_space t ≡ false → continued_of line t ≡ Some (line, t)
unfolding continued_at
is_done line [] begins = refl
is_done line (x ∷ t) begins = rw begins refl

pub continued_shortens : (n : ℕ) (line t whole r : List ℕ) → continued_at n line t ≡ Some (whole, r) → length r ≤ length t
unfolding continued_at
continued_shortens zero line t whole r e = let same : t ≡ r = ap (λ (q : List ℕ × List ℕ). q.1) (some_is (line, t) (whole, r) e) in omega (arith, ap length same)
continued_shortens (suc n) line t whole r e = step (begins_space t) e (λ piece q. continued_shortens n (joined line piece) q whole r) where
  step : (b : Bool) → cond {A = Read} b (line_at t >>= λ p. continued_at n (joined line p.0) p.1) (found line t) ≡ Some (whole, r) → ((piece q : List ℕ) → continued_at n (joined line piece) q ≡ Some (whole, r) → length r ≤ length q) → length r ≤ length t
  step false e f = let same : t ≡ r = ap (λ (q : List ℕ × List ℕ). q.1) (some_is (line, t) (whole, r) e) in omega (arith, ap length same)
  step true e f =
      let b = bind_some (line_at t) (λ p. continued_at n (joined line p.0) p.1) (whole, r) e in
      omega (arith, line_shortens t b.0.0 b.0.1 b.1, f b.0.0 b.0.1 b.2)

-- ---- what is found is unfolded

pub record TakesLine (t line r : List ℕ) : Type 0 where
  pub wire : List ℕ
  pub is : Unfolds wire line
  pub begins : BeginsLine line
  pub whole : t ≡ wire ++ 13 ∷ 10 ∷ r

all_back : (p : ℕ → Bool) (x y : List ℕ) → AllPassing p (x ++ y) → AllPassing p y
all_back p [] y h = h
all_back p (z ∷ x) y h = all_back p x y (and_both (p z) (list_all p (x ++ y)) h).1

begins_some : (t piece r spaces after : List ℕ) → begins_space t ≡ true → t ≡ piece ++ 13 ∷ 10 ∷ r → piece ≡ spaces ++ after → Stops is_space after → spaces ≢ []
begins_some t piece r spaces [] begins at parts stops none =
    let k : t ≡ 13 ∷ 10 ∷ r = at ∙ ap (λ (l : List ℕ). l ++ 13 ∷ 10 ∷ r) (parts ∙ ap (λ (l : List ℕ). l ++ []) none) in
    let f : begins_space t ≡ false = ap begins_space k in
    absurd cc
begins_some t piece r spaces (x ∷ after) begins at parts stops none =
    let k : t ≡ x ∷ (after ++ 13 ∷ 10 ∷ r) = at ∙ ap (λ (l : List ℕ). l ++ 13 ∷ 10 ∷ r) (parts ∙ ap (λ (l : List ℕ). l ++ x ∷ after) none) in
    let f : begins_space t ≡ false = ap begins_space k ∙ stops in
    absurd cc

joined_unfolds : (wire line t piece r : List ℕ) → Unfolds wire line → begins_space t ≡ true → t ≡ piece ++ 13 ∷ 10 ∷ r → AllPassing (is_in class.Line) piece → Unfolds (wire ++ 13 ∷ 10 ∷ piece) (joined line piece)
joined_unfolds wire line t piece r u begins at all =
    let e = trim_end_parts line in
    let s = spaces_taken piece in
    let stops = stops_after_drop is_space piece in
    continued wire (trim_end line) e.0 s.0 (after_spaces piece) (subst (Unfolds wire) e.3 u) e.2 e.1
    (s.1, begins_some t piece r s.0 (after_spaces piece) begins at s.2 stops) stops (all_back (is_in class.Line) s.0 (after_spaces piece) (subst (AllPassing (is_in class.Line)) s.2 all))
    (ap (λ (l : List ℕ). wire ++ 13 ∷ 10 ∷ l) s.2) refl

begins_kept : (line trimmed right after : List ℕ) → line ≡ trimmed ++ right → AreSpaces right → BeginsLine line → BeginsLine (trimmed ++ 32 ∷ after)
begins_kept line [] [] after e all b = (let m : b.0 ∷ b.1 ≡ [] = sym b.2 ∙ e in absurd cc)
begins_kept line [] (z ∷ right) after e all b =
    let k : b.0 ≡ z = (let m : b.0 ∷ b.1 ≡ z ∷ right = sym b.2 ∙ e in cc) in
    let f : is_space b.0 ≡ true = ap is_space k ∙ (and_both (is_space z) (list_all is_space right) all).0 in
    let g = b.3 in
    absurd cc
begins_kept line (z ∷ trimmed) right after e all b =
    let k : b.0 ≡ z = (let m : b.0 ∷ b.1 ≡ z ∷ (trimmed ++ right) = sym b.2 ∙ e in cc) in
    (z, trimmed ++ 32 ∷ after, refl, rw (← k) b.3)

joined_begins : (line piece : List ℕ) → BeginsLine line → BeginsLine (joined line piece)
joined_begins line piece b = let e = trim_end_parts line in begins_kept line (trim_end line) e.0 (after_spaces piece) e.3 e.1 b

pub continued_takes : (n : ℕ) (line t whole r wire : List ℕ) → Unfolds wire line → BeginsLine line → continued_at n line t ≡ Some (whole, r) → TakesLine (wire ++ 13 ∷ 10 ∷ t) whole r
unfolding continued_at
continued_takes zero line t whole r wire u dark e = subst (λ (q : List ℕ × List ℕ). TakesLine (wire ++ 13 ∷ 10 ∷ t) q.0 q.1) (some_is (line, t) (whole, r) e) (record { wire = wire; is = u; begins = dark; whole = refl })
continued_takes (suc n) line t whole r wire u dark e = step (begins_space t) refl e (λ l q w. continued_takes n l q whole r w) where
  step : (b : Bool) → begins_space t ≡ b → cond {A = Read} b (line_at t >>= λ p. continued_at n (joined line p.0) p.1) (found line t) ≡ Some (whole, r)
      → ((l q w : List ℕ) → Unfolds w l → BeginsLine l → continued_at n l q ≡ Some (whole, r) → TakesLine (w ++ 13 ∷ 10 ∷ q) whole r) → TakesLine (wire ++ 13 ∷ 10 ∷ t) whole r
  step false begins e f = subst (λ (q : List ℕ × List ℕ). TakesLine (wire ++ 13 ∷ 10 ∷ t) q.0 q.1) (some_is (line, t) (whole, r) e) (record { wire = wire; is = u; begins = dark; whole = refl })
  step true begins e f =
      let b = bind_some (line_at t) (λ p. continued_at n (joined line p.0) p.1) (whole, r) e in
      let k = line_takes t b.0.0 b.0.1 b.1 in
      let rest = f (joined line b.0.0) b.0.1 (wire ++ 13 ∷ 10 ∷ b.0.0) (joined_unfolds wire line t b.0.0 b.0.1 u begins k.0 k.1) (joined_begins line b.0.0 dark) b.2 in
      let at : wire ++ 13 ∷ 10 ∷ t ≡ (wire ++ 13 ∷ 10 ∷ b.0.0) ++ 13 ∷ 10 ∷ b.0.1 = ap (λ (l : List ℕ). wire ++ 13 ∷ 10 ∷ l) k.0 ∙ sym (append_assoc wire (13 ∷ 10 ∷ b.0.0) (13 ∷ 10 ∷ b.0.1)) in
      record { wire = rest.wire; is = rest.is; begins = rest.begins; whole = at ∙ rest.whole }

-- ---- what is unfolded is found

-- where reading begins, and that it comes to this line and this rest
record Leads (wire line r : List ℕ) : Type 0 where
  first : List ℕ
  behind : List ℕ
  begins : line_at (wire ++ 13 ∷ 10 ∷ r) ≡ Some (first, behind)
  comes : continued_of first behind ≡ continued_of line r
  same : BeginsLine line → BeginsLine first

spaces_in_line : (a : List ℕ) → AreSpaces a → AllPassing (is_in class.Line) a
spaces_in_line [] h = refl
spaces_in_line (x ∷ a) h =
    let both = and_both (is_space x) (list_all is_space a) h in
    let one : is_in class.Line x ≡ true = elim (which_space x both.0) [ inl w ↦ rw w refl | inr w ↦ rw w refl ] in
    rw one (spaces_in_line a both.1)

begins_before : (line before left after : List ℕ) → line ≡ before ++ 32 ∷ after → BeginsLine line → BeginsLine (before ++ left)
begins_before line [] left after e b =
    let k : b.0 ≡ 32 = (let m : b.0 ∷ b.1 ≡ 32 ∷ after = sym b.2 ∙ e in cc) in
    let f : is_space b.0 ≡ true = ap is_space k in
    let g = b.3 in
    absurd cc
begins_before line (z ∷ before) left after e b =
    let k : b.0 ≡ z = (let m : b.0 ∷ b.1 ≡ z ∷ (before ++ 32 ∷ after) = sym b.2 ∙ e in cc) in
    (z, before ++ left, refl, rw (← k) b.3)

word_begins : (right r : List ℕ) → IsWord class.Space right → begins_space (right ++ r) ≡ true
word_begins [] r w = absurd (w.1 refl)
word_begins (x ∷ right) r w = (and_both (is_space x) (list_all is_space right) w.0).0

leads : {wire line : List ℕ} → Unfolds wire line → (r : List ℕ) → Leads wire line r
leads (unbroken {line} all) r = record { first = line; behind = r; begins = line_again line r all; comes = refl; same = λ b. b }
leads (continued {wire} {line} first before left right after u before_ends spaces_left spaces_right after_begins all wire_is line_is) r =
    let t : List ℕ = (right ++ after) ++ 13 ∷ 10 ∷ r in
    let k = leads u t in
    let at : wire ++ 13 ∷ 10 ∷ r ≡ first ++ 13 ∷ 10 ∷ t = ap (λ (l : List ℕ). l ++ 13 ∷ 10 ∷ r) wire_is ∙ append_assoc first (13 ∷ 10 ∷ (right ++ after)) (13 ∷ 10 ∷ r) in
    let piece : line_at t ≡ Some (right ++ after, r) = line_again (right ++ after) r (all-append (is_in class.Line) right after (spaces_in_line right spaces_right.0) all) in
    let starts : begins_space t ≡ true = ap begins_space (append_assoc right after (13 ∷ 10 ∷ r)) ∙ word_begins right (after ++ 13 ∷ 10 ∷ r) spaces_right in
    let one : trim_end (before ++ left) ≡ before = trim_again before left spaces_left before_ends in
    let two : after_spaces (right ++ after) ≡ after = spaces_again right after spaces_right.0 after_begins in
    let is : joined (before ++ left) (right ++ after) ≡ line = ap (λ (l : List ℕ). l ++ 32 ∷ after_spaces (right ++ after)) one ∙ ap (λ (l : List ℕ). before ++ 32 ∷ l) two ∙ sym line_is in
    record {
      first = k.first;
      behind = k.behind;
      begins = ap line_at at ∙ k.begins;
      comes = k.comes ∙ goes_on (before ++ left) t (right ++ after) r starts piece ∙ ap (λ (l : List ℕ). continued_of l r) is;
      same = λ b. k.same (begins_before line before left after line_is b);
    }

pub wire_begins : {wire line : List ℕ} → Unfolds wire line → BeginsLine line → BeginsLine wire
wire_begins (unbroken {line} all) b = b
wire_begins (continued {wire} {line} first before left right after u before_ends spaces_left spaces_right after_begins all wire_is line_is) b =
    let k = wire_begins u (begins_before line before left after line_is b) in
    (k.0, k.1 ++ 13 ∷ 10 ∷ (right ++ after), wire_is ∙ ap (λ (l : List ℕ). l ++ 13 ∷ 10 ∷ (right ++ after)) k.2, k.3)

not_space : (line : List ℕ) → BeginsLine line → begins_space line ≡ false
not_space line b = rw b.2 b.3

-- how a line is found
pub record Finds (wire line r : List ℕ) : Type 0 where
  pub first : List ℕ
  pub behind : List ℕ
  pub begins : line_at (wire ++ 13 ∷ 10 ∷ r) ≡ Some (first, behind)
  pub some : BeginsLine first
  pub unfolded : unfolded_of first behind ≡ Some (line, r)

pub line_found : (wire line r : List ℕ) → Unfolds wire line → BeginsLine line → begins_space r ≡ false → Finds wire line r
unfolding unfolded_of
line_found wire line r u b stops =
    let k = leads u r in
    record { first = k.first; behind = k.behind; begins = k.begins; some = k.same b; unfolded = rw (not_space k.first (k.same b)) (k.comes ∙ is_done line r stops) }

pub unfolded_takes : (t first behind line r : List ℕ) → line_at t ≡ Some (first, behind) → (length first ≡ 0 → ⊥) → unfolded_of first behind ≡ Some (line, r) → TakesLine t line r
unfolding unfolded_of
unfolded_takes t [] behind line r e some f = absurd (some refl)
unfolded_takes t (x ∷ xs) behind line r e some f = step (is_space x) refl f where
  step : (b : Bool) → is_space x ≡ b → cond {A = Read} b None (continued_of (x ∷ xs) behind) ≡ Some (line, r) → TakesLine t line r
  step true is f = absurd cc
  step false isnt f =
      let k = line_takes t (x ∷ xs) behind e in
      let g = continued_takes (length behind) (x ∷ xs) behind line r (x ∷ xs) (unbroken k.1) (x, xs, refl, isnt) f in
      subst (λ (l : List ℕ). TakesLine l line r) (sym k.0) g

pub unfolded_shortens : (first behind line r : List ℕ) → unfolded_of first behind ≡ Some (line, r) → length r ≤ length behind
unfolding unfolded_of
unfolded_shortens first behind line r e = step (begins_space first) e where
  step : (b : Bool) → cond {A = Read} b None (continued_of first behind) ≡ Some (line, r) → length r ≤ length behind
  step true e = absurd cc
  step false e = continued_shortens (length behind) first behind line r e

-- a line that no line continues
pub not_continued : (first t : List ℕ) → begins_space first ≡ false → begins_space t ≡ false → unfolded_of first t ≡ Some (first, t)
unfolding unfolded_of
not_continued first t begins stops = rw begins (is_done first t stops)
