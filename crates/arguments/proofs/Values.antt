-- What one word says: what is found is so, and what is so is found.
use Rattle.std.proofs.Common.{◌≡◌, ℕ, ◌≤◌, Bool, true, false, cond, List, Option, Some, None, Result, Ok, Err, refl, ap, ◌∙◌, arith}
use Rattle.std.specs.Prelude.{decimal, nat_lt}
use Rattle.std.proofs.lemmas.Bool.Decides.{nat_tests}
use Rattle.hex.specs.declared.error.FromHexError.{FromHexError}
use Rattle.hex.specs.Hex.{decode_sized}
use Rattle.sip_text.specs.Reading.{plain_up_to}
use Rattle.sip_text.proofs.Pieces.{bind_some, some_is}
use Rattle.sip_text.proofs.PlainNumbers.{up_to_takes, up_to_again}
use Rattle.arguments.specs.Values.{some_value, seed_bytes, between}

pub between_takes : (least most : ℕ) (w : List ℕ) (n : ℕ) → between least most w ≡ Some n → (w ≡ decimal n) × (least ≤ n) × (n ≤ most)
unfolding between
between_takes least most w n e =
    let p = bind_some (plain_up_to most w) (λ m. cond {A = Option ℕ} (nat_lt m least) None (Some m)) n e in
    let t = up_to_takes most w p.0 p.1 in
    made p.0 t.0 t.2 (nat_lt p.0 least) refl p.2 where
      made : (m : ℕ) → w ≡ decimal m → m ≤ most → (b : Bool) → nat_lt m least ≡ b → cond {A = Option ℕ} b None (Some m) ≡ Some n → (w ≡ decimal n) × (least ≤ n) × (n ≤ most)
      made m is le true low e = absurd cc
      made m is le false high e =
          let same : m ≡ n = some_is m n e in
          let enough : least ≤ m = grind (arith, nat_tests) in
          (is ∙ ap decimal same, rw (← same) enough, rw (← same) le)

pub between_again : (least most n : ℕ) → least ≤ n → n ≤ most → most ≤ 4294967295 → between least most (decimal n) ≡ Some n
unfolding between
between_again least most n high le small =
    let enough : nat_lt n least ≡ false = grind (arith, nat_tests) in
    rw (up_to_again most n le (omega (arith, small)), enough) refl

some_takes : (r : Result (List ℕ) FromHexError) (seed : List ℕ) → some_value r ≡ Some seed → r ≡ Ok seed
some_takes (Ok x) seed e = ap (λ (s : List ℕ). Ok s) (some_is x seed e)
some_takes (Err e) seed k = absurd cc

pub seed_takes : (digits seed : List ℕ) → seed_bytes digits ≡ Some seed → decode_sized digits 32 ≡ Ok seed
unfolding seed_bytes
seed_takes digits seed e = some_takes (decode_sized digits 32) seed e

pub seed_again : (digits seed : List ℕ) → decode_sized digits 32 ≡ Ok seed → seed_bytes digits ≡ Some seed
unfolding seed_bytes
seed_again digits seed e = ap some_value e
