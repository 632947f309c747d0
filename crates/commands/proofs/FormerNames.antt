-- Names of two lists, whether they are the same.
use Rattle.std.proofs.Common.{◌≡◌, ◌∙◌, ◌↔◌, ℕ, Bool, true, false, ◌&&◌, ◌||◌, List, [], ◌∷◌, refl, sym, ap}
use Rattle.std.specs.Str.{bytes_eq}
use Rattle.std.specs.List.{list_all}
use Rattle.std.proofs.lemmas.Slice.Eq.{bytes_eq-Decides}
use Rattle.control_lines.specs.Told.{is_held}
use Rattle.std.specs.Prelude.{IsTrue}
use Rattle.resumption.proofs.Telling.{any_once}
use Rattle.plans.specs.Plans.{each_once}
use Rattle.commands.specs.GoingOn.{AreSameNames}

both_ways : (a b : Bool) → (a ≡ true → b ≡ true) → (b ≡ true → a ≡ true) → a ≡ b
both_ways true true to from = refl
both_ways true false to from = sym (to refl)
both_ways false true to from = from refl
both_ways false false to from = refl

and_first : (a b : Bool) → (a && b) ≡ true → a ≡ true
and_first true b e = refl
and_first false b e = absurd cc

and_second : (a b : Bool) → (a && b) ≡ true → b ≡ true
and_second true b e = e
and_second false b e = absurd cc

and_both : (a b : Bool) → a ≡ true → b ≡ true → (a && b) ≡ true
and_both a b first second = ap (λ c. c && b) first ∙ second

-- what each name of a list passes each that it holds passes
held_passes : (p : List ℕ → Bool) (names : List (List ℕ)) → list_all p names ≡ true → (name : List ℕ) → is_held names name ≡ true → p name ≡ true
held_passes p [] all name held = absurd cc
held_passes p (x ∷ names) all name held = step (bytes_eq name x) refl held (held_passes p names (and_second (p x) (list_all p names) all) name) where
  step : (b : Bool) → bytes_eq name x ≡ b → (b || is_held names name) ≡ true → (is_held names name ≡ true → p name ≡ true) → p name ≡ true
  step true is there rest = let equal : name ≡ x = (bytes_eq-Decides name x).0 is in ap p equal ∙ and_first (p x) (list_all p names) all
  step false is there rest = rest there

or_true : (a : Bool) → (a || true) ≡ true
or_true true = refl
or_true false = refl

is_first : (x : List ℕ) (names : List (List ℕ)) → is_held (x ∷ names) x ≡ true
is_first x names = ap (λ b. b || is_held names x) ((bytes_eq-Decides x x).1 refl)

all_pass : (p : List ℕ → Bool) (names : List (List ℕ)) → ((name : List ℕ) → is_held names name ≡ true → p name ≡ true) → list_all p names ≡ true
all_pass p [] held = refl
all_pass p (x ∷ names) held =
    and_both (p x) (list_all p names) (held x (is_first x names))
    (all_pass p names (λ name there. held name (ap (λ b. bytes_eq name x || b) there ∙ or_true (bytes_eq name x))))

-- each of the one list is in the other, and the other way
pub same_names : (names others : List (List ℕ)) → list_all (is_held others) names ≡ true → list_all (is_held names) others ≡ true → AreSameNames names others
same_names names others first second name =
    both_ways (is_held names name) (is_held others name) (held_passes (is_held others) names first name) (held_passes (is_held names) others second name)

pub first_in_other : (names others : List (List ℕ)) → AreSameNames names others → list_all (is_held others) names ≡ true
first_in_other names others same = all_pass (is_held others) names (λ name there. sym (same name) ∙ there)

pub other_in_first : (names others : List (List ℕ)) → AreSameNames names others → list_all (is_held names) others ≡ true
other_in_first names others same = all_pass (is_held names) others (λ name there. same name ∙ there)

-- ---- by sets, which have each name once

all_once : (others names : List (List ℕ)) → list_all (is_held (each_once others)) names ≡ list_all (is_held others) names
all_once others [] = refl
all_once others (x ∷ names) =
    ap (λ b. b && list_all (is_held (each_once others)) names) (any_once x others) ∙ ap (λ b. is_held others x && b) (all_once others names)

-- the names are in the set of the others: they are the same where these are in the set of the names
pub same_if_both : (names others ours theirs : List (List ℕ)) (first second result : Bool) → ours ≡ each_once names → theirs ≡ each_once others
    → first ≡ list_all (is_held theirs) names → second ≡ list_all (is_held ours) others → first ≡ true → result ≡ second
    → IsTrue result ↔ AreSameNames names others
same_if_both names others ours theirs first second result our their one two holds is =
    let all_theirs : list_all (is_held others) names ≡ true =
    sym (all_once others names) ∙ ap (λ (held : List (List ℕ)). list_all (is_held held) names) (sym their) ∙ sym one ∙ holds in
    let all_ours : result ≡ list_all (is_held names) others =
    is ∙ two ∙ ap (λ (held : List (List ℕ)). list_all (is_held held) others) our ∙ all_once names others in
    (λ e. same_names names others all_theirs (sym all_ours ∙ e), λ same. all_ours ∙ other_in_first names others same)

not_both : {A : Type 0} (b : Bool) → b ≡ true → b ≡ false → A
not_both true t f = absurd cc
not_both false t f = absurd cc

-- and where some of them isn't they are others
pub other_if_none : (names others theirs : List (List ℕ)) (first result : Bool) → theirs ≡ each_once others
    → first ≡ list_all (is_held theirs) names → first ≡ false → result ≡ false → IsTrue result ↔ AreSameNames names others
other_if_none names others theirs first result their one fails is = (
  λ e. not_both result e is,
  λ same. not_both first
      (one ∙ ap (λ (held : List (List ℕ)). list_all (is_held held) names) their ∙ all_once others names ∙ first_in_other names others same) fails,
)
