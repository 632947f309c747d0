use Rattle.std.proofs.Common.{◌≡◌, sym, ◌∙◌, true}
use Rattle.std.specs.Prelude.{find}
use Rattle.admission.specs.Authorization.{is_of_realm}
use Rattle.admission.proofs.Searching.{passed, found}
use Rattle.admission.proofs.authorization.first_of_realm.Goals as goal

pub returns-then-is_ours : goal.returns-then-is_ours
returns-then-is_ours c =
    let p = is_of_realm c.args.own.now in
    let e : is_of_realm c.args.own.now c.as_slice.result.now ≡ true = sym c.in_ok-is_ours.ensures ∙ c.if-is_ours.true in
    let k = found p c.args.lines.now c.loop-line.line-index c.line-item.result c.as_slice.result.now (find p c.args.lines.now)
    c.loop-line-test.true (c.as_slice.ensures ∙ c.line-item.is) e c.loop-line.invariant in
    let s = c.as_slice.ensures in cc

pub loop-line-preserved : goal.loop-line-preserved
loop-line-preserved c =
    let p = is_of_realm c.args.own.now in
    passed p c.args.lines.now c.loop-line.line-index c.line-item.result c.as_slice.result.now (find p c.args.lines.now)
    c.loop-line-test.true (c.as_slice.ensures ∙ c.line-item.is) (sym c.in_ok-is_ours.ensures ∙ c.if-is_ours.false) c.loop-line.invariant
