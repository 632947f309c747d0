use Rattle.std.proofs.Common.{arith}
use Rattle.notifier_model.proofs.HomeNames.{no_dash, no_number, its_number}
use Rattle.notifier_model.proofs.homes.tag.leading_number.Goals as goal

pub returns-in_err-digits-clause-cut : goal.returns-in_err-digits-clause-cut
returns-in_err-digits-clause-cut c =
    rw c.from_residual.ensures (λ n rest small. no_dash c.args.text.now (c.in_err-digits.ensures.byte (omega arith) (λ w o h. h)) n rest)

pub returns-in_err-number-clause-cut : goal.returns-in_err-number-clause-cut
returns-in_err-number-clause-cut c =
    let cut = c.in_ok-digits.ensures.byte (omega arith) (λ w o h. h) in
    rw c.from_residual-in_err-number.ensures (no_number c.args.text.now c.in_ok-digits.digits.now cut.2 cut.0 c.in_err-number.ensures)

pub returns-clause-cut : goal.returns-clause-cut
returns-clause-cut c =
    let cut = c.in_ok-digits.ensures.byte (omega arith) (λ w o h. h) in
    its_number c.args.text.now c.in_ok-digits.digits.now cut.2 cut.0 c.in_ok-digits.rest.now c.in_ok-number.number cut.1 c.in_ok-number.ensures
