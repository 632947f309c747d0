use Rattle.std.proofs.Common.{◌≡◌, ℕ, ◌*◌, ◌^◌, ◌<◌, ℤ, pos, ◌*ℤ◌, false, Some, ap, sym, refl, subst, ◌∙◌, arith, FitsSigned, to_z, of_z}
use Rattle.std.specs.Int.{w128}
use Rattle.std.proofs.lemmas.Int.{to_z-of_z, fits_signed_from_abs}
use Rattle.jiff_core.specs.Timestamp.{IsTimestampNanos}
use Rattle.log_lines.proofs.moments.utc.Goals as goal

-- the nanoseconds of so many milliseconds, as the code reckons them
nanoseconds : (n : ℕ) (z : ℤ) → z ≡ pos n → n < 2 ^ 64 → to_z w128 (of_z w128 (to_z w128 (of_z w128 z) *ℤ pos 1000000)) ≡ pos (n * 1000000)
nanoseconds n z from range =
    let small : FitsSigned w128 (pos n) = fits_signed_from_abs w128 (pos n) (omega (arith, range)) in
    let large : FitsSigned w128 (pos (n * 1000000)) = fits_signed_from_abs w128 (pos (n * 1000000)) (omega (arith, range)) in
    ap (λ (z : ℤ). to_z w128 (of_z w128 (to_z w128 (of_z w128 z) *ℤ pos 1000000))) from
    ∙ ap (λ (z : ℤ). to_z w128 (of_z w128 (z *ℤ pos 1000000))) (to_z-of_z w128 (pos n) small) ∙ to_z-of_z w128 (pos (n * 1000000)) large

pub returns-in-Ok-clause-shown : goal.returns-in-Ok-clause-shown
returns-in-Ok-clause-shown c =
    let printer = c.precision-printer.result in
    let low : printer.lowercase ≡ false = ap (λ o. o.0) c.precision-printer.ensures ∙ ap (λ o. o.0) c.new.ensures in
    let separator : printer.separator ≡ 84 = ap (λ o. o.1) c.precision-printer.ensures ∙ ap (λ o. o.1) c.new.ensures in
    let places : printer.precision ≡ Some 3 = ap (λ o. o.2) c.precision-printer.ensures in
    let n = c.args.milliseconds in
    let range = c.ranges.milliseconds.fits in
    let moment : c.in-Ok.instant.nanosecond ≡ pos (n * 1000000) = c.in-Ok.ensures.value ∙ nanoseconds n c.from-nanosecond.result c.from-nanosecond.ensures (omega (arith, range)) in
    let (shown, when, text) = c.timestamp_text.ensures in
    (shown, when ∙ moment, rw (low, separator, places) at text)

pub returns-in-Ok-clause-has : goal.returns-in-Ok-clause-has
returns-in-Ok-clause-has c =
    let range = c.ranges.milliseconds.fits in (
      λ some. subst IsTimestampNanos (nanoseconds c.args.milliseconds c.from-nanosecond.result c.from-nanosecond.ensures (omega (arith, range))) (c.in-Ok.ensures.succeeds.0 refl),
      λ has. refl,
    )

pub returns-in-Err-clause-has : goal.returns-in-Err-clause-has
returns-in-Err-clause-has c =
    let range = c.ranges.milliseconds.fits in (
      λ some. absurd cc,
      λ has.
          (let never = c.in-Err.ensures.succeeds.1 (subst IsTimestampNanos (sym (nanoseconds c.args.milliseconds c.from-nanosecond.result c.from-nanosecond.ensures (omega (arith, range)))) has) in
          absurd cc),
    )
