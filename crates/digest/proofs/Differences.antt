-- What the bits say in which two bytes differ.
use Rattle.std.proofs.Common.{◌≡◌, ℕ, ◌+◌, ◌<◌, ◌≤◌, List, length, get_or, refl, ap, arith, below_more}
use Rattle.std.specs.Int.Bits.{bit_or, bit_xor, xor_self, xor_add_and}
use Rattle.std.proofs.lemmas.Nat.{le_or_l, le_or_r, and_le_l, and_le_r}
use Rattle.std.proofs.lemmas.List.{ext_get_or}

pub or_none : (a b : ℕ) → bit_or a b ≡ 0 → (a ≡ 0) × (b ≡ 0)
or_none a b e = (omega (arith, e, le_or_l a b), omega (arith, e, le_or_r a b))

pub xor_none : (a b : ℕ) → bit_xor a b ≡ 0 → a ≡ b
xor_none a b e = omega (arith, e, xor_add_and a b, and_le_l a b, and_le_r a b)

pub both_none : (d a b : ℕ) → d ≡ 0 → a ≡ b → bit_or d (bit_xor a b) ≡ 0
both_none d a b e f = rw (e, f, xor_self b) refl

-- the bits that differ so far tell whether all so far are the same
pub record Tells (d i : ℕ) (left right : List ℕ) : Type 0 where
  pub none : d ≡ 0 → (k : ℕ) → k < i → get_or left k 0 ≡ get_or right k 0
  pub same : left ≡ right → d ≡ 0

pub more : (d i : ℕ) (left right : List ℕ) → Tells d i left right → Tells (bit_or d (bit_xor (get_or left i 0) (get_or right i 0))) (i + 1) left right
more d i left right t = record {
  none = λ e. let both = or_none d (bit_xor (get_or left i 0) (get_or right i 0)) e in
      below_more (λ k. get_or left k 0 ≡ get_or right k 0) i (t.none both.0) (xor_none (get_or left i 0) (get_or right i 0) both.1);
  same = λ e. both_none d (get_or left i 0) (get_or right i 0) (t.same e) (ap (λ (l : List ℕ). get_or l i 0) e);
}

pub all_same : (d i : ℕ) (left right : List ℕ) → Tells d i left right → length left ≤ i → length left ≡ length right → d ≡ 0 → left ≡ right
all_same d i left right t high long e = ext_get_or 0 left right long (λ k lt. t.none e k (omega (arith, high, lt)))
