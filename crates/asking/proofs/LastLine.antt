-- The last line of an answer of several pages.
use Rattle.std.proofs.Common.{◌≡◌, ◌≢◌, ℕ, suc, ◌+◌, ◌-◌, List, [], ◌∷◌, ◌++◌, length, take, Option, Some, None, MatchOption, refl, sym, ap, ◌∙◌, append_assoc, length-append, arith}
use Rattle.std.specs.Borrow.{Bor}
use Rattle.std.specs.Prelude.{codes}
use Rattle.std.proofs.lemmas.List.{append_cancel_left, append_cancel_right, take_at}
use Rattle.std.proofs.lemmas.List.Elements.{All-head, All-tail, All-cons, All-drop}
use Rattle.asking.specs.Telling.{IsFollowed, HasNoLineFeed}

-- ---- the last line feed

no_feed : (front back : List ℕ) → ¬ (HasNoLineFeed (front ++ 10 ∷ back))
no_feed [] back all = All-head (λ o. o ≢ 10) 10 back all refl
no_feed (x ∷ front) back all = no_feed front back (All-tail (λ o. o ≢ 10) x (front ++ 10 ∷ back) all)

-- a text is cut there in one way
one_last : (a b c d : List ℕ) → a ++ 10 ∷ b ≡ c ++ 10 ∷ d → HasNoLineFeed b → HasNoLineFeed d → b ≡ d
one_last [] b [] d same first second = cc
one_last [] b (y ∷ c) d same first second =
    let tail : b ≡ c ++ 10 ∷ d = cc in absurd (no_feed c d (rw tail at first))
one_last (x ∷ a) b [] d same first second =
    let tail : a ++ 10 ∷ b ≡ d = cc in absurd (no_feed a b (rw (← tail) at second))
one_last (x ∷ a) b (y ∷ c) d same first second =
    let tail : a ++ 10 ∷ b ≡ c ++ 10 ∷ d = cc in one_last a b c d tail first second

-- ---- `more `

with_letter : (x : ℕ) (text : List ℕ) → x ≢ 10 → HasNoLineFeed text → HasNoLineFeed (x ∷ text)
with_letter x text other all = All-cons (λ o. o ≢ 10) x text other all

more_place : (place : List ℕ) → HasNoLineFeed place → HasNoLineFeed (codes "more " ++ place)
more_place place all =
    with_letter 109 (codes "ore " ++ place) (λ e. absurd cc) (
    with_letter 111 (codes "re " ++ place) (λ e. absurd cc) (
    with_letter 114 (codes "e " ++ place) (λ e. absurd cc) (
    with_letter 101 (codes " " ++ place) (λ e. absurd cc) (
    with_letter 32 place (λ e. absurd cc) all))))

place_alone : (place : List ℕ) → HasNoLineFeed (codes "more " ++ place) → HasNoLineFeed place
place_alone place all = All-drop (λ o. o ≢ 10) 5 (codes "more " ++ place) all

-- ---- the last line

regrouped : (front place : List ℕ) → front ++ (codes "\nmore " ++ (place ++ codes "\n")) ≡ (front ++ (codes "\nmore " ++ place)) ++ codes "\n"
regrouped front place = sym (append_assoc front (codes "\nmore " ++ place) (codes "\n"))

-- without its end
body : (answer whole place : List ℕ) → answer ≡ whole ++ codes "\n" → (is : IsFollowed answer place) → whole ≡ is.front ++ (codes "\nmore " ++ place)
body answer whole place ended is =
    append_cancel_right whole (is.front ++ (codes "\nmore " ++ place)) (codes "\n") (sym ended ∙ (is.last ∙ regrouped is.front place))

last_line : (answer whole before last place : List ℕ) → answer ≡ whole ++ codes "\n" → whole ≡ before ++ 10 ∷ last → HasNoLineFeed last → IsFollowed answer place → last ≡ codes "more " ++ place
last_line answer whole before last place ended cut feedless is =
    one_last before last is.front (codes "more " ++ place) (sym cut ∙ body answer whole place ended is) feedless (more_place place is.one_line)

-- ---- answers that say nothing of more

pub not_ok : (answer place : List ℕ) → ((lines : List ℕ) → answer ≢ codes "ok\n" ++ lines) → ¬ (IsFollowed answer place)
not_ok answer place none is = none is.lines is.ok

pub not_ended : (answer place : List ℕ) → ((front : List ℕ) → answer ≢ front ++ codes "\n") → ¬ (IsFollowed answer place)
not_ended answer place none is = none (is.front ++ (codes "\nmore " ++ place)) (is.last ∙ regrouped is.front place)

pub no_line : (answer whole place : List ℕ) → answer ≡ whole ++ codes "\n" → HasNoLineFeed whole → ¬ (IsFollowed answer place)
no_line answer whole place ended none is = no_feed is.front (codes "more " ++ place) (rw (body answer whole place ended is) at none)

pub no_more : (answer whole before last place : List ℕ) → answer ≡ whole ++ codes "\n" → whole ≡ before ++ 10 ∷ last → HasNoLineFeed last → ((rest : List ℕ) → last ≢ codes "more " ++ rest) → ¬ (IsFollowed answer place)
no_more answer whole before last place ended cut feedless none is = none place (last_line answer whole before last place ended cut feedless is)

-- ---- one that does

pub followed : (answer lines whole before last place : List ℕ) → answer ≡ codes "ok\n" ++ lines → answer ≡ whole ++ codes "\n" → whole ≡ before ++ 10 ∷ last → HasNoLineFeed last → last ≡ codes "more " ++ place → IsFollowed answer place
followed answer lines whole before last place ok ended cut feedless more = record {
  lines = lines;
  ok = ok;
  front = before;
  last = ended ∙ (ap (λ w. w ++ codes "\n") (cut ∙ ap (λ l. before ++ 10 ∷ l) more) ∙ sym (regrouped before place));
  one_line = place_alone place (rw more at feedless);
}

-- it says so of one place
pub one_place : (answer place other : List ℕ) → IsFollowed answer place → IsFollowed answer other → place ≡ other
one_place answer place other is also =
    let whole = is.front ++ (codes "\nmore " ++ place) in
    let same = last_line answer whole is.front (codes "more " ++ place) other (is.last ∙ regrouped is.front place) refl (more_place place is.one_line) also in
    append_cancel_left (codes "more ") place other same

pub told_place : (answer lines whole before last : List ℕ) → answer ≡ codes "ok\n" ++ lines → answer ≡ whole ++ codes "\n" → whole ≡ before ++ 10 ∷ last → HasNoLineFeed last
    → (r : Option (Bor (List ℕ))) → MatchOption r ((rest : List ℕ) → last ≢ codes "more " ++ rest) (λ place. last ≡ codes "more " ++ place.now)
    → MatchOption r ((place : List ℕ) → ¬ (IsFollowed answer place)) (λ place. IsFollowed answer place.now)
told_place answer lines whole before last ok ended cut feedless None none = λ place. no_more answer whole before last place ended cut feedless none
told_place answer lines whole before last ok ended cut feedless (Some place) more = followed answer lines whole before last place.now ok ended cut feedless more

-- ---- what stands before that line

pub before_it : (lines front place : List ℕ) (n : ℕ) → lines ≡ front ++ (codes "more " ++ (place ++ codes "\n")) → n ≡ length lines - (6 + length place)
    → take n lines ≡ front
before_it lines front place n whole cut =
    let last = codes "more " ++ (place ++ codes "\n") in
    let long : length last ≡ suc (suc (suc (suc (suc (length (place ++ codes "\n")))))) = refl in
    let longer : length lines ≡ length front + length last = ap length whole ∙ length-append front last in
    let end : length (place ++ codes "\n") ≡ length place + 1 = length-append place (codes "\n") in
    let same : n ≡ length front = omega (arith, cut, long, longer, end) in
    ap (λ (l : List ℕ). take n l) whole ∙ take_at front last n (sym same)
