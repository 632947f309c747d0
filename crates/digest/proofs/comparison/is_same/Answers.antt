use Rattle.std.proofs.Common.{arith, eq-eqb}
use Rattle.std.proofs.lemmas.Bool.{eqb-true}
use Rattle.digest.proofs.Differences.{more, all_same}
use Rattle.digest.proofs.comparison.is_same.Goals as goal

pub loop-i-preserved : goal.loop-i-preserved
loop-i-preserved c = (c.loop-i.invariant.0, more c.loop-i.difference c.loop-i.i c.args.left.now c.args.right.now c.loop-i.invariant.1)

pub returns : goal.returns
returns c =
    let tells = c.loop-i.invariant.1 in (
      λ e. all_same c.loop-i.difference c.loop-i.i c.args.left.now c.args.right.now tells (omega arith) c.loop-i.invariant.0 (eqb-true _ _ e),
      λ e. eq-eqb _ _ (tells.same e),
    )
