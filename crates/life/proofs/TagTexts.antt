-- A tag has its worker and its serial in it, each before a dash.
use Rattle.std.proofs.Common.{◌≡◌, ℕ, ◌<◌, ◌^◌, List, [], ◌∷◌, ◌++◌, refl, sym, ◌∙◌, subst, arith}
use Rattle.std.specs.Prelude.{decimal, codes}
use Rattle.std.specs.Char.{digit_value}
use Rattle.std.specs.Str.Parse.{AllDigits}
use Rattle.std.proofs.lemmas.Fmt.{decimal_is_IsNumeral, decimal_injective}
use Rattle.std.proofs.lemmas.List.{append_cancel_left}
use Rattle.hex.specs.Hex.{encode_lower}
use Rattle.notifier_model.specs.Tag.{local_tag, tag_bytes}
use Rattle.notifier_model.specs.declared.place.Place.{Place}
use Rattle.notifier_model.specs.Start.{Start, tag_of}

-- a dash is no digit
no_dash : digit_value 45 < 10 → ⊥
no_dash h = omega arith

-- digits before a dash, and what stands behind it
cut_at_dash : (xs ys u v : List ℕ) → AllDigits 10 xs → AllDigits 10 ys → xs ++ 45 ∷ u ≡ ys ++ 45 ∷ v → (xs ≡ ys) × (u ≡ v)
cut_at_dash [] [] u v p q e = (refl, cc)
cut_at_dash [] (y ∷ ys) u v p q e = absurd (let same : 45 ≡ y = cc in no_dash (subst (λ (c : ℕ). digit_value c < 10) (sym same) q.0))
cut_at_dash (x ∷ xs) [] u v p q e = absurd (let same : x ≡ 45 = cc in no_dash (subst (λ (c : ℕ). digit_value c < 10) same p.0))
cut_at_dash (x ∷ xs) (y ∷ ys) u v p q e =
    let head : x ≡ y = cc in
    let rest : xs ++ 45 ∷ u ≡ ys ++ 45 ∷ v = cc in
    let cut = cut_at_dash xs ys u v p.1 q.1 rest in
    (let tail : xs ≡ ys = cut.0 in cc, cut.1)

-- numbers before a dash
number_at_dash : (a b : ℕ) (u v : List ℕ) → a < 2 ^ 64 → b < 2 ^ 64 → decimal a ++ 45 ∷ u ≡ decimal b ++ 45 ∷ v → (a ≡ b) × (u ≡ v)
number_at_dash a b u v small below e =
    let cut = cut_at_dash (decimal a) (decimal b) u v (decimal_is_IsNumeral a small).0.1 (decimal_is_IsNumeral b below).0.1 e in
    (decimal_injective a b small below cut.0, cut.1)

-- the digits at a tag's end
digits_of : Place → ℕ → List ℕ
digits_of place serial = encode_lower (tag_bytes place.seed place.worker serial)

-- a tag behind its first dash
pub rest_of : Place → ℕ → List ℕ
rest_of place serial = decimal serial ++ (codes "-" ++ digits_of place serial)

tag_is : (place : Place) (serial : ℕ) → tag_of place serial ≡ codes "w" ++ (decimal place.worker ++ (codes "-" ++ rest_of place serial))
unfolding local_tag rest_of digits_of
tag_is place serial = refl

behind_w : (a b : Place) (s t : ℕ) → tag_of a s ≡ tag_of b t → decimal a.worker ++ (codes "-" ++ rest_of a s) ≡ decimal b.worker ++ (codes "-" ++ rest_of b t)
behind_w a b s t e =
    append_cancel_left (codes "w") (decimal a.worker ++ (codes "-" ++ rest_of a s)) (decimal b.worker ++ (codes "-" ++ rest_of b t)) (sym (tag_is a s) ∙ (e ∙ tag_is b t))

-- the worker, and what stands behind it
pub worker_of_tag : (a b : Place) (s t : ℕ) → a.worker < 2 ^ 64 → b.worker < 2 ^ 64 → tag_of a s ≡ tag_of b t → (a.worker ≡ b.worker) × (rest_of a s ≡ rest_of b t)
worker_of_tag a b s t small below e = number_at_dash a.worker b.worker (rest_of a s) (rest_of b t) small below (behind_w a b s t e)

-- the serial
pub serial_of_tag : (a b : Place) (s t : ℕ) → s < 2 ^ 64 → t < 2 ^ 64 → rest_of a s ≡ rest_of b t → s ≡ t
unfolding rest_of
serial_of_tag a b s t few less e = (number_at_dash s t (digits_of a s) (digits_of b t) few less e).0

-- tags of different serials differ
pub tags_apart : (start : Start) (a b : ℕ) → a < 2 ^ 64 → b < 2 ^ 64 → tag_of start.place a ≡ tag_of start.place b → a ≡ b
tags_apart start a b p q e =
    let dashed = append_cancel_left (decimal start.place.worker) (codes "-" ++ rest_of start.place a) (codes "-" ++ rest_of start.place b) (behind_w start.place start.place a b e) in
    serial_of_tag start.place start.place a b p q (append_cancel_left (codes "-") (rest_of start.place a) (rest_of start.place b) dashed)
