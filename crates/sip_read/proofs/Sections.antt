-- Unfolded lines one after the other.
use Rattle.std.proofs.Common.{◌≡◌, ℕ, zero, suc, ◌+◌, ◌≤◌, Bool, true, false, eqb, cond, List, [], ◌∷◌, ◌++◌, length, Option, Some, None, refl, sym, ap, subst, ◌∙◌, append_assoc, arith}
use Rattle.std.proofs.lemmas.Bool.{eqb-true, eqb-false, ne_eqb}
use Rattle.std.proofs.lemmas.List.{length-append, nil_from_length}
use Rattle.sip_text.specs.Reading.{◌>>=◌}
use Rattle.sip_read.specs.LinesComputed.{line_at, begins_space, unfolded_of, lines_at, lines_of}
use Rattle.sip_read.specs.Folding.{BeginsLine, AreLines, HasLines}
use Rattle.sip_text.proofs.Pieces.{bind_some, some_is, bind_same}
use Rattle.sip_read.proofs.Lines.{line_takes, line_again, line_shortens}
use Rattle.sip_read.proofs.Continuations.{line_found, unfolded_takes, unfolded_shortens, wire_begins}

abbrev Read : Type 0
Read = Option (List (List ℕ) × List ℕ)

abbrev pub found : List (List ℕ) → List ℕ → Read
found lines r = Some (lines, r)

abbrev pub goes : ℕ → List ℕ → List ℕ → Read
goes n first s = cond {A = Read} (eqb (length first) 0) (found [] s) (unfolded_of first s >>= λ line. lines_at n line.1 >>= λ others. found (line.0 ∷ others.0) others.1)

-- ---- what is found is there

pub lines_take : (n : ℕ) (t : List ℕ) (lines : List (List ℕ)) (rest : List ℕ) → lines_at n t ≡ Some (lines, rest) → HasLines t lines rest
unfolding lines_at
lines_take zero t lines rest e = absurd cc
lines_take (suc n) t lines rest e =
    let b = bind_some (line_at t) (λ l. goes n l.0 l.1) (lines, rest) e in
    step b.0.0 b.0.1 b.1 (eqb (length b.0.0) 0) refl b.2 (λ q. lines_take n q) where
      step : (first s : List ℕ) → line_at t ≡ Some (first, s) → (b : Bool) → eqb (length first) 0 ≡ b
          → cond {A = Read} b (found [] s) (unfolded_of first s >>= λ line. lines_at n line.1 >>= λ others. found (line.0 ∷ others.0) others.1) ≡ Some (lines, rest)
          → ((q : List ℕ) (ls : List (List ℕ)) (z : List ℕ) → lines_at n q ≡ Some (ls, z) → HasLines q ls z) → HasLines t lines rest
      step first s is true empty e f =
          let none : first ≡ [] = nil_from_length first (eqb-true (length first) 0 empty) in
          let whole = (line_takes t first s is).0 in
          subst (λ (p : List (List ℕ) × List ℕ). HasLines t p.0 p.1) (some_is ([], s) (lines, rest) e) ([], refl, whole ∙ ap (λ (l : List ℕ). l ++ 13 ∷ 10 ∷ s) none)
      step first s is false some e f =
          let b = bind_some (unfolded_of first s) (λ line. lines_at n line.1 >>= λ others. found (line.0 ∷ others.0) others.1) (lines, rest) e in
          let d = bind_some (lines_at n b.0.1) (λ others. found (b.0.0 ∷ others.0) others.1) (lines, rest) b.2 in
          let k = unfolded_takes t first s b.0.0 b.0.1 is (eqb-false (length first) 0 some) b.1 in
          let g = f b.0.1 d.0.0 d.0.1 d.1 in
          subst (λ (p : List (List ℕ) × List ℕ). HasLines t p.0 p.1) (some_is (b.0.0 ∷ d.0.0, d.0.1) (lines, rest) d.2)
          (k.wire ++ 13 ∷ 10 ∷ g.0, (k.wire, g.0, k.is, k.begins, g.1, refl), k.whole ∙ ap (λ (l : List ℕ). k.wire ++ 13 ∷ 10 ∷ l) g.2 ∙ sym (append_assoc k.wire (13 ∷ 10 ∷ g.0) (13 ∷ 10 ∷ d.0.1)))

-- ---- and found again

pub lines_begin : (wire : List ℕ) (lines : List (List ℕ)) (rest : List ℕ) → AreLines wire lines → begins_space (wire ++ 13 ∷ 10 ∷ rest) ≡ false
lines_begin wire [] rest h = rw h refl
lines_begin wire (line ∷ lines) rest h =
    let b = wire_begins h.2 h.3 in
    let at : wire ≡ b.0 ∷ (b.1 ++ 13 ∷ 10 ∷ h.1) = h.5 ∙ ap (λ (l : List ℕ). l ++ 13 ∷ 10 ∷ h.1) b.2 in
    rw at b.3

pub begins_some : (line : List ℕ) → BeginsLine line → eqb (length line) 0 ≡ false
begins_some line b = ne_eqb (length line) 0 (λ e. omega (arith, e, ap length b.2))

pub lines_again : (lines : List (List ℕ)) (t rest : List ℕ) (n : ℕ) → HasLines t lines rest → length t ≤ n → lines_at n t ≡ Some (lines, rest)
unfolding lines_at
lines_again lines t rest zero h le = absurd (omega (arith, ap length h.2, length-append h.0 (13 ∷ 10 ∷ rest)))
lines_again [] t rest (suc n) h le =
    let at : t ≡ 13 ∷ 10 ∷ rest = h.2 ∙ ap (λ (l : List ℕ). l ++ 13 ∷ 10 ∷ rest) h.1 in
    let one : line_at t ≡ Some ([], rest) = ap line_at at ∙ line_again [] rest refl in
    rw one refl
lines_again (line ∷ lines) t rest (suc n) h le =
    let first : List ℕ = h.1.0 in
    let others : List ℕ = h.1.1 in
    let r : List ℕ = others ++ 13 ∷ 10 ∷ rest in
    let at : t ≡ first ++ 13 ∷ 10 ∷ r = h.2 ∙ ap (λ (l : List ℕ). l ++ 13 ∷ 10 ∷ rest) h.1.5 ∙ append_assoc first (13 ∷ 10 ∷ others) (13 ∷ 10 ∷ rest) in
    let k = line_found first line r h.1.2 h.1.3 (lines_begin others lines rest h.1.4) in
    let one : line_at t ≡ Some (k.first, k.behind) = ap line_at at ∙ k.begins in
    let short : length r ≤ n = omega (arith, ap length at, length-append first (13 ∷ 10 ∷ r)) in
    rw (one, begins_some k.first k.some, k.unfolded, lines_again lines r rest n (others, h.1.4, refl) short) refl

-- ---- for the loop

same_goes : (n m : ℕ) (first s : List ℕ) → ((r : List ℕ) → length r ≤ length s → lines_at n r ≡ lines_at m r) → goes n first s ≡ goes m first s
same_goes n m first s f =
    ap (λ (o : Read). cond {A = Read} (eqb (length first) 0) (found [] s) o)
    (bind_same (unfolded_of first s) (λ line. lines_at n line.1 >>= λ others. found (line.0 ∷ others.0) others.1) (λ line. lines_at m line.1 >>= λ others. found (line.0 ∷ others.0) others.1)
    (λ line e. ap (λ (o : Read). o >>= λ others. found (line.0 ∷ others.0) others.1) (f line.1 (unfolded_shortens first s line.0 line.1 e))))

no_line : (t : List ℕ) → length t ≤ 0 → line_at t ≡ None
unfolding line_at
no_line [] h = refl
no_line (x ∷ t) h = absurd (omega (arith, h))

pub enough : (n m : ℕ) (t : List ℕ) → length t ≤ n → length t ≤ m → lines_at n t ≡ lines_at m t
unfolding lines_at
enough zero zero t a b = refl
enough zero (suc m) t a b = sym (ap (λ (o : Option (List ℕ × List ℕ)). o >>= λ l. goes m l.0 l.1) (no_line t (omega arith)))
enough (suc n) zero t a b = ap (λ (o : Option (List ℕ × List ℕ)). o >>= λ l. goes n l.0 l.1) (no_line t (omega arith))
enough (suc n) (suc m) t a b = bind_same (line_at t) (λ l. goes n l.0 l.1) (λ l. goes m l.0 l.1)
    (λ l e. same_goes n m l.0 l.1 (λ r le. enough n m r (omega (arith, le, line_shortens t l.0 l.1 e)) (omega (arith, le, line_shortens t l.0 l.1 e))))

pub step_of : (t first s : List ℕ) → line_at t ≡ Some (first, s) → lines_of t ≡ goes (length s) first s
unfolding lines_at
step_of t first s e =
    let len = line_shortens t first s e in
    let k : length t ≡ suc (length s + 1 + length first) = omega arith in
    rw (k, e) (same_goes (length s + 1 + length first) (length s) first s (λ r le. enough (length s + 1 + length first) (length s) r (omega arith) (omega arith)))

pub no_lines : (t : List ℕ) → line_at t ≡ None → (n : ℕ) → lines_at n t ≡ None
unfolding lines_at
no_lines t e zero = refl
no_lines t e (suc n) = rw e refl
