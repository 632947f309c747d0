use Rattle.std.proofs.Common.{◌≡◌, sym, ◌∙◌, true}
use Rattle.std.specs.Prelude.{find}
use Rattle.admission.specs.Authorization.{is_authorization}
use Rattle.admission.proofs.Searching.{passed, found}
use Rattle.admission.proofs.authorization.first_authorization.Goals as goal

pub returns-then-is_authorization : goal.returns-then-is_authorization
returns-then-is_authorization c =
    let e : is_authorization c.as_slice.result.now ≡ true = sym c.is_authorization.ensures ∙ c.if-is_authorization.true in
    let k = found is_authorization c.args.lines.now c.loop-line.line-index c.line-item.result c.as_slice.result.now (find is_authorization c.args.lines.now)
    c.loop-line-test.true (c.as_slice.ensures ∙ c.line-item.is) e c.loop-line.invariant in
    let s = c.as_slice.ensures in cc

pub loop-line-preserved : goal.loop-line-preserved
loop-line-preserved c =
    passed is_authorization c.args.lines.now c.loop-line.line-index c.line-item.result c.as_slice.result.now (find is_authorization c.args.lines.now)
    c.loop-line-test.true (c.as_slice.ensures ∙ c.line-item.is) (sym c.is_authorization.ensures ∙ c.if-is_authorization.false) c.loop-line.invariant
