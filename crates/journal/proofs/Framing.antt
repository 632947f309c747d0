-- Frames are found again.
use Rattle.std.proofs.Common.{◌≡◌, ℕ, ◌+◌, ◌<◌, ◌≤◌, ◌^◌, ◌%◌, List, [], ◌∷◌, ◌++◌, length, take, drop, refl, sym, ap, ◌∙◌, append_assoc, arith}
use Rattle.std.specs.Int.{w32, to_be_bytes, from_be_bytes}
use Rattle.std.proofs.lemmas.List.{length-append, take_at, drop_at}
use Rattle.std.proofs.lemmas.Nat.{from_be_bytes-to_be_bytes_4}
use Rattle.journal.specs.Frames.{frame, checksum, IsPayload}
use Rattle.journal.proofs.Codes.{IsFound}

pub four : (n m : ℕ) (x y : List ℕ) → to_be_bytes w32 n ++ x ≡ to_be_bytes w32 m ++ y → (to_be_bytes w32 n ≡ to_be_bytes w32 m) × (x ≡ y)
four n m x y e = (cc, cc)

pub same_four : (n m : ℕ) (x y : List ℕ) → n < 2 ^ 32 → m < 2 ^ 32 → to_be_bytes w32 n ++ x ≡ to_be_bytes w32 m ++ y → (n ≡ m) × (x ≡ y)
same_four n m x y a b e =
    let k = four n m x y e in
    (sym (from_be_bytes-to_be_bytes_4 n a) ∙ ap (from_be_bytes w32) k.0 ∙ from_be_bytes-to_be_bytes_4 m b, k.1)

-- two texts of one length in front
pub same_front : (p q r s : List ℕ) → length p ≡ length q → p ++ r ≡ q ++ s → (p ≡ q) × (r ≡ s)
same_front p q r s len e = (
  sym (take_at p r (length p) refl) ∙ ap (take (length p)) e ∙ take_at q s (length p) (sym len),
  sym (drop_at p r (length p) refl) ∙ ap (drop (length p)) e ∙ drop_at q s (length p) (sym len),
)

pub frame_is : (p r : List ℕ) → frame p ++ r ≡ to_be_bytes w32 (length p) ++ (to_be_bytes w32 (checksum p) ++ (p ++ r))
unfolding frame
frame_is p r =
    append_assoc (to_be_bytes w32 (length p)) (to_be_bytes w32 (checksum p) ++ p) r
    ∙ ap (λ (more : List ℕ). to_be_bytes w32 (length p) ++ more) (append_assoc (to_be_bytes w32 (checksum p)) p r)

pub length-frame : (p : List ℕ) → length (frame p) ≡ 8 + length p
unfolding frame
length-frame p = omega arith

pub frame_found : IsFound frame IsPayload
frame_found p q r s a b e =
    let at : to_be_bytes w32 (length p) ++ (to_be_bytes w32 (checksum p) ++ (p ++ r)) ≡ to_be_bytes w32 (length q) ++ (to_be_bytes w32 (checksum q) ++ (q ++ s)) =
    sym (frame_is p r) ∙ e ∙ frame_is q s in
    let k = same_four (length p) (length q) (to_be_bytes w32 (checksum p) ++ (p ++ r)) (to_be_bytes w32 (checksum q) ++ (q ++ s)) (omega (arith, a)) (omega (arith, b)) at in
    let j = four (checksum p) (checksum q) (p ++ r) (q ++ s) k.1 in
    same_front p q r s k.0 j.1

pub frame_some : (p : List ℕ) → IsPayload p → 0 < length (frame p)
frame_some p is = omega (arith, length-frame p)
