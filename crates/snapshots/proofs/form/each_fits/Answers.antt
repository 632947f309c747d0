use Rattle.std.proofs.Common.{subst}
use Rattle.std.specs.List.{AllByRecursion}
use Rattle.std.proofs.lemmas.List.{take_all}
use Rattle.snapshots.proofs.Each.{one_more}
use Rattle.snapshots.proofs.form.each_fits.Goals as goal

pub loop-element-preserved : goal.loop-element-preserved
loop-element-preserved g c =
    one_more g.T.Form.Fits c.args.elements.now c.loop-element.element-index c.element-item.result c.loop-element-test.true
    (subst g.T.Form.Fits c.element-item.is c.fits.ensures) c.loop-element.invariant

pub returns : goal.returns
returns g c = subst (AllByRecursion g.T.Form.Fits) (take_all c.loop-element.element-index c.args.elements.now c.loop-element-test.false) c.loop-element.invariant
