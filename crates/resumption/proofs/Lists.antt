-- Lists that are gone over.
use Rattle.std.proofs.Common.{◌≡◌, ◌∙◌, ℕ, suc, ◌+◌, ◌<◌, Bool, ◌||◌, List, [], ◌∷◌, ◌++◌, length, take, get_or, map, Some, refl, sym, ap, append_assoc, arith}
use Rattle.std.specs.List.{list_any, enumerate_from, flat_map, zip}
use Rattle.std.specs.Prelude.{slice_get}
use Rattle.std.proofs.lemmas.List.{take_more, append-nil, map-append}
use Rattle.std.proofs.lemmas.Option.{slice_get_within, get_or_from_slice_get}
use Rattle.std.proofs.lemmas.List.Concat.{flat_map-append}

-- one item more
pub taken_more : {X : Type 0} (xs : List X) (i : ℕ) (x : X) → i < length xs → x ≡ get_or xs i x → take (i + 1) xs ≡ take i xs ++ x ∷ []
taken_more {X} xs i x below is = take_more xs i x below ∙ ap (λ (y : X). take i xs ++ y ∷ []) (sym is)

-- what the items give together, with one more of them
pub one_more : {X Y : Type 0} (f : List X → List Y) → ((a b : List X) → f (a ++ b) ≡ f a ++ f b)
    → (xs : List X) (i : ℕ) (x : X) (before so_far after : List Y) → i < length xs → x ≡ get_or xs i x
    → so_far ≡ before ++ f (take i xs) → after ≡ so_far ++ f (x ∷ []) → after ≡ before ++ f (take (i + 1) xs)
one_more {X} {Y} f appends xs i x before so_far after below is held new =
    new ∙ ap (λ (l : List Y). l ++ f (x ∷ [])) held ∙ append_assoc before (f (take i xs)) (f (x ∷ []))
    ∙ ap (λ (l : List Y). before ++ l) (sym (appends (take i xs) (x ∷ [])) ∙ ap f (sym (taken_more xs i x below is)))

pub any-map : {X Y : Type 0} (p : Y → Bool) (f : X → Y) (xs : List X) → list_any p (map f xs) ≡ list_any (λ x. p (f x)) xs
any-map p f [] = refl
any-map p f (x ∷ xs) = ap (λ b. p (f x) || b) (any-map p f xs)

pub enumerate_push : {X : Type 0} (n : ℕ) (xs : List X) (x : X) → enumerate_from n (xs ++ x ∷ []) ≡ enumerate_from n xs ++ (n + length xs, x) ∷ []
enumerate_push {X} n [] x = let e : n ≡ n + 0 = omega arith in ap (λ (i : ℕ). let l : List (ℕ × X) = (i, x) ∷ [] in l) e
enumerate_push {X} n (y ∷ ys) x =
    let e : n + 1 + length ys ≡ n + length (y ∷ ys) = omega arith in
    ap (λ (l : List (ℕ × X)). (n, y) ∷ l) (enumerate_push (n + 1) ys x ∙ ap (λ (i : ℕ). enumerate_from (n + 1) ys ++ (i, x) ∷ []) e)

-- what all give together, with one more
pub flat_push : {X Y : Type 0} (f : ℕ × X → List Y) (xs : List X) (x : X) (i : ℕ) → i ≡ length xs
    → flat_map f (enumerate_from 0 (xs ++ x ∷ [])) ≡ flat_map f (enumerate_from 0 xs) ++ f (i, x)
flat_push {X} {Y} f xs x i is =
    let e : 0 + length xs ≡ i = omega arith in
    ap (flat_map f) (enumerate_push 0 xs x ∙ ap (λ (n : ℕ). enumerate_from 0 xs ++ (n, x) ∷ []) e)
    ∙ flat_map-append f (enumerate_from 0 xs) ((i, x) ∷ [])
    ∙ ap (λ (l : List Y). flat_map f (enumerate_from 0 xs) ++ l) (append-nil (f (i, x)))

pub each_push : {X Y : Type 0} (f : ℕ × X → Y) (xs : List X) (x : X) (i : ℕ) → i ≡ length xs
    → map f (enumerate_from 0 (xs ++ x ∷ [])) ≡ map f (enumerate_from 0 xs) ++ f (i, x) ∷ []
each_push f xs x i is =
    let e : 0 + length xs ≡ i = omega arith in
    ap (map f) (enumerate_push 0 xs x ∙ ap (λ (n : ℕ). enumerate_from 0 xs ++ (n, x) ∷ []) e)
    ∙ map-append f (enumerate_from 0 xs) ((i, x) ∷ [])

-- ---- two lists side by side

pub zip_push : {X Y : Type 0} (xs : List X) (x : X) (ys : List Y) (y : Y) → slice_get ys (length xs) ≡ Some y → zip (xs ++ x ∷ []) ys ≡ zip xs ys ++ (x, y) ∷ []
zip_push {X} {Y} [] x [] y e = absurd cc
zip_push {X} {Y} [] x (z ∷ ys) y e = let same : z ≡ y = cc in ap (λ (w : Y). let l : List (X × Y) = (x, w) ∷ [] in l) same
zip_push {X} {Y} (z ∷ xs) x [] y e = absurd cc
zip_push {X} {Y} (z ∷ xs) x (w ∷ ys) y e = ap (λ (l : List (X × Y)). (z, w) ∷ l) (zip_push xs x ys y e)

pub length-zip : {X Y : Type 0} (xs : List X) (ys : List Y) (y : Y) → slice_get ys (length xs) ≡ Some y → length (zip xs ys) ≡ length xs
length-zip [] ys y e = refl
length-zip (z ∷ xs) [] y e = absurd cc
length-zip (z ∷ xs) (w ∷ ys) y e = ap suc (length-zip xs ys y e)

pub take_got : {Y : Type 0} (n : ℕ) (ys : List Y) (y : Y) → slice_get ys n ≡ Some y → take (n + 1) ys ≡ take n ys ++ y ∷ []
take_got {Y} n ys y e =
    let within = slice_get_within ys n y e in
    take_more ys n y within ∙ ap (λ (z : Y). take n ys ++ z ∷ []) (get_or_from_slice_get ys n y y e)

pub behind_none : {X : Type 0} (first more after : List X) → first ≡ [] → after ≡ first ++ more → after ≡ more
behind_none {X} first more after none new = new ∙ ap (λ (l : List X). l ++ more) none
