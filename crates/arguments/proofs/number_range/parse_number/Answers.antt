use Rattle.std.proofs.Common.{◌-◌, sym, ◌∙◌, arith, get_or}
use Rattle.arguments.proofs.Numerals.{no_numeral, numeral_long, ten_to, digit_small, digits_more, fits_more}
use Rattle.arguments.proofs.number_range.parse_number.Goals as goal

pub returns-then-not-is_ascii_digit-clause-none : goal.returns-then-not-is_ascii_digit-clause-none
returns-then-not-is_ascii_digit-clause-none c = λ w n is.
    let long = numeral_long _ w n is in
    no_numeral _ w n c.loop-digit.digit-index is.written (omega (arith, long)) (sym c.is_ascii_digit.ensures.value ∙ c.if-not-is_ascii_digit.true)

pub overflow_mul-number : goal.overflow_mul-number
overflow_mul-number c = let ten = ten_to c.loop-digit.digit-index (omega arith) in omega (arith, c.loop-digit.invariant.fits)

pub overflow_add-number : goal.overflow_add-number
overflow_add-number c =
    let ten = ten_to c.loop-digit.digit-index (omega arith) in
    let small = digit_small (get_or c.args.digits.now c.loop-digit.digit-index 0) (sym c.is_ascii_digit.ensures.value ∙ c.if-not-is_ascii_digit.false) in
    omega (arith, c.loop-digit.invariant.fits, c.from.ensures)

pub loop-digit-preserved : goal.loop-digit-preserved
loop-digit-preserved c =
    let digit = sym c.is_ascii_digit.ensures.value ∙ c.if-not-is_ascii_digit.false in
    let small = digit_small (get_or c.args.digits.now c.loop-digit.digit-index 0) digit in
    rw c.from.ensures (record {
      written = digits_more c.args.digits.now c.loop-digit.digit-index c.loop-digit.number c.loop-digit-test.true c.loop-digit.invariant.written digit;
      fits = fits_more c.loop-digit.digit-index c.loop-digit.number (get_or c.args.digits.now c.loop-digit.digit-index 0 - 48) c.loop-digit.invariant.fits (omega arith);
    })
