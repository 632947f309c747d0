-- What the parameters of a Via mark, for a loop that has read some of them.
use Rattle.std.proofs.Common.{◌≡◌, ℕ, Bool, true, false, cond, List, [], ◌∷◌, length, Option, Some, None, refl, sym, ap, ◌∙◌, find}
use Rattle.std.specs.Prelude.{◌||◌, codes}
use Rattle.std.specs.List.{list_any}
use Rattle.sip_text.specs.Reading.{◌>>=◌, parameter_at, after_spaces, begins, some_at, some_of}
use Rattle.sip_text.specs.Grammar.{Parameter, has_name}
use Rattle.sip_text.proofs.Groups.{step_of, none_more}
use Rattle.sip_read.specs.Vias.{is_bare_rport}
use Rattle.sip_read.specs.ViasComputed.{Marks, no_marks, branch_or, marks_with, marks_of, marks_at}

abbrev Read : Type 0
Read = Option (List Parameter × List ℕ)

-- these marks and those of further parameters
abbrev pub marks_all : Marks → List Parameter → Marks
marks_all m [] = m
marks_all m (p ∷ ps) = marks_all (marks_with m p) ps

abbrev first_or : Option Parameter → List Parameter → Option Parameter
first_or (Some q) ps = Some q
first_or None ps = find (has_name (codes "branch")) ps

abbrev joined : Marks → List Parameter → Marks
joined m ps = record { branch = first_or m.branch ps; bare_rport = m.bare_rport || list_any is_bare_rport ps }

first_none : (o : Option Parameter) → first_or o [] ≡ o
first_none (Some q) = refl
first_none None = refl

or_false : (b : Bool) → (b || false) ≡ b
or_false true = refl
or_false false = refl

or_both : (a b c : Bool) → ((a || b) || c) ≡ (a || (b || c))
or_both true b c = refl
or_both false b c = refl

first_more : (o : Option Parameter) (p : Parameter) (ps : List Parameter) → first_or (branch_or o p) ps ≡ first_or o (p ∷ ps)
first_more (Some q) p ps = refl
first_more None p ps = step (has_name (codes "branch") p) where
  step : (b : Bool) → first_or (cond {A = Option Parameter} b (Some p) None) ps ≡ cond {A = Option Parameter} b (Some p) (find (has_name (codes "branch")) ps)
  step true = refl
  step false = refl

abbrev made : Option Parameter → Bool → Marks
made o b = record { branch = o; bare_rport = b }

all_joined : (m : Marks) (ps : List Parameter) → marks_all m ps ≡ joined m ps
all_joined m [] = sym (ap (λ (o : Option Parameter). made o (m.bare_rport || false)) (first_none m.branch) ∙ ap (made m.branch) (or_false m.bare_rport))
all_joined m (p ∷ ps) =
    all_joined (marks_with m p) ps
    ∙ ap (λ (o : Option Parameter). made o ((m.bare_rport || is_bare_rport p) || list_any is_bare_rport ps)) (first_more m.branch p ps)
    ∙ ap (made (first_or m.branch (p ∷ ps))) (or_both m.bare_rport (is_bare_rport p) (list_any is_bare_rport ps))

-- what was marked, and what the parameters that are read next mark
abbrev pub marks_after : Marks → Option (List Parameter × List ℕ) → Option (Marks × List ℕ)
marks_after m read = read >>= λ x. Some (marks_all m x.0, x.1)

pub starts : (t : List ℕ) → marks_after no_marks (some_of t) ≡ marks_at t
unfolding marks_at
starts t = step (some_of t) where
  step : (o : Read) → marks_after no_marks o ≡ (o >>= λ x. Some (marks_of x.0, x.1))
  step None = refl
  step (Some x) = ap (λ (m : Marks). Some (m, x.1)) (all_joined no_marks x.0)

one_more : (m : Marks) (p : Parameter) (read : Read) → marks_after m (read >>= λ ps. Some (p ∷ ps.0, ps.1)) ≡ marks_after (marks_with m p) read
one_more m p None = refl
one_more m p (Some x) = refl

module _ (m : Marks) (t : List ℕ) (total : Option (Marks × List ℕ)) (so_far : marks_after m (some_of t) ≡ total) where
  pub goes_on : begins 59 (after_spaces t) ≡ true → (p : Parameter) (r : List ℕ) → parameter_at t ≡ Some (p, r) → marks_after (marks_with m p) (some_of r) ≡ total
  goes_on b p r e = sym (one_more m p (some_of r)) ∙ ap (marks_after m) (sym (step_of t p r b e)) ∙ so_far

  pub fails : begins 59 (after_spaces t) ≡ true → parameter_at t ≡ None → total ≡ None
  unfolding some_at
  fails b e = sym so_far ∙ ap (marks_after m) (none_read t b e) where
    none_read : (s : List ℕ) → begins 59 (after_spaces s) ≡ true → parameter_at s ≡ None → some_of s ≡ None
    none_read [] b e = absurd cc
    none_read (x ∷ xs) b e = rw (b, e) refl

  pub is_done : begins 59 (after_spaces t) ≡ false → total ≡ Some (m, t)
  is_done b = sym so_far ∙ ap (marks_after m) (none_more (length t) t b)
