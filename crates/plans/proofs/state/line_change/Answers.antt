use Rattle.std.proofs.Common.{◌≡◌, sym, ◌∙◌, ap}
use Rattle.std.proofs.lemmas.Result.{err_from_is_err_and}
use Rattle.arguments.specs.MailboxFile.{IsBlank}
use Rattle.arguments.proofs.LineNames.{never}
use Rattle.plans.proofs.ToldLines.{no_change}
use Rattle.plans.proofs.state.line_change.Goals as goal

pub returns-in_err-change-clause-none : goal.returns-in_err-change-clause-none
returns-in_err-change-clause-none c =
    let line = c.args.line.now in
    let full = never c.is_blank.result (IsBlank line) c.is_blank.ensures c.if-is_blank.false in
    let p = err_from_is_err_and c.from_residual.result c.from_residual.ensures.1 in
    rw (p.1, p.2) (λ other. no_change line c.in_err-change.field-0.0 full (rw c.as_bytes.ensures.value at c.in_err-change.ensures.only) other)
