-- Header lines that are read one after the other.
use Rattle.std.proofs.Common.{◌≡◌, ℕ, ◌+◌, ◌≤◌, true, false, eqb, List, [], ◌∷◌, ◌++◌, length, Option, Some, None, refl, sym, ap, ◌∙◌, append_assoc, arith}
use Rattle.sip_text.specs.Reading.{◌>>=◌}
use Rattle.sip_read.specs.LinesComputed.{line_at, unfolded_of, lines_at, lines_of}
use Rattle.sip_read.proofs.Continuations.{unfolded_shortens}
use Rattle.sip_read.proofs.Lines.{line_shortens}
use Rattle.sip_read.proofs.Sections.{goes, enough, step_of, no_lines}

abbrev Read : Type 0
Read = Option (List (List ℕ) × List ℕ)

-- what is read, behind lines that were read before
abbrev pub behind : List (List ℕ) → Read → Read
behind lines None = None
behind lines (Some read) = Some (lines ++ read.0, read.1)

pub behind_none : (o : Read) → behind [] o ≡ o
behind_none None = refl
behind_none (Some read) = refl

behind_more : (lines : List (List ℕ)) (line : List ℕ) (o : Read) → behind (lines ++ line ∷ []) o ≡ behind lines (o >>= λ others. Some (line ∷ others.0, others.1))
behind_more lines line None = refl
behind_more lines line (Some read) = ap (λ (ls : List (List ℕ)). Some (ls, read.1)) (append_assoc lines (line ∷ []) read.0)

steps : (t first s line next : List ℕ) → line_at t ≡ Some (first, s) → eqb (length first) 0 ≡ false → unfolded_of first s ≡ Some (line, next)
    → lines_of t ≡ (lines_of next >>= λ others. Some (line ∷ others.0, others.1))
steps t first s line next e some u =
    let short : length next ≤ length s = unfolded_shortens first s line next u in
    let same : lines_at (length s) next ≡ lines_at (length next) next = enough (length s) (length next) next short (omega arith) in
    let whole : goes (length s) first s ≡ (lines_at (length s) next >>= λ others. Some (line ∷ others.0, others.1)) = rw (some, u) refl in
    step_of t first s e ∙ whole ∙ ap (λ (o : Read). o >>= λ others. Some (line ∷ others.0, others.1)) same

-- one line more
pub goes_on : (lines : List (List ℕ)) (t first s line next : List ℕ) (whole : Read) → behind lines (lines_of t) ≡ whole → line_at t ≡ Some (first, s) → eqb (length first) 0 ≡ false → unfolded_of first s ≡ Some (line, next)
    → behind (lines ++ line ∷ []) (lines_of next) ≡ whole
goes_on lines t first s line next whole known e some u = behind_more lines line (lines_of next) ∙ ap (behind lines) (sym (steps t first s line next e some u)) ∙ known

pub ends : (lines : List (List ℕ)) (t first s : List ℕ) (whole : Read) → behind lines (lines_of t) ≡ whole → line_at t ≡ Some (first, s) → eqb (length first) 0 ≡ true → whole ≡ Some (lines, s)
ends lines t first s whole known e empty =
    let whole_step : goes (length s) first s ≡ Some ([], s) = rw empty refl in
    sym known ∙ ap (behind lines) (step_of t first s e ∙ whole_step) ∙ ap (λ (ls : List (List ℕ)). Some (ls, s)) (nothing lines) where
      nothing : (ls : List (List ℕ)) → ls ++ [] ≡ ls
      nothing [] = refl
      nothing (l ∷ ls) = ap (λ (xs : List (List ℕ)). l ∷ xs) (nothing ls)

pub fails_line : (lines : List (List ℕ)) (t : List ℕ) (whole : Read) → behind lines (lines_of t) ≡ whole → line_at t ≡ None → whole ≡ None
fails_line lines t whole known e = sym known ∙ ap (behind lines) (no_lines t e (length t))

pub fails_unfolded : (lines : List (List ℕ)) (t first s : List ℕ) (whole : Read) → behind lines (lines_of t) ≡ whole → line_at t ≡ Some (first, s) → eqb (length first) 0 ≡ false → unfolded_of first s ≡ None → whole ≡ None
fails_unfolded lines t first s whole known e some u =
    let step : goes (length s) first s ≡ None = rw (some, u) refl in
    sym known ∙ ap (behind lines) (step_of t first s e ∙ step)

-- the rest is shorter
pub shortens : (t first s line next : List ℕ) → line_at t ≡ Some (first, s) → unfolded_of first s ≡ Some (line, next) → length next + 1 ≤ length t
shortens t first s line next e u = omega (arith, line_shortens t first s e, unfolded_shortens first s line next u)
