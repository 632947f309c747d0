use Rattle.std.proofs.Common.{◌≡◌, ◌∙◌, sym, ap, subst, ◌+◌, ◌/◌, ◌<◌, arith, length-set}
use Rattle.std.specs.Prelude.{slice_set}
use Rattle.transactions.proofs.Tournaments.{IsWonBut, begun, mend, mended, leaf_set, leaf_kept}
use Rattle.transactions.proofs.alarms.set_leaf.Goals as goal

pub loop-node-init : goal.loop-node-init
loop-node-init c =
    let xs = c.args.nodes.now in
    let t = c.requires.tree in
    let size = t.size in
    record {
      size = length-set xs (c.args.places + c.args.place) c.args.alarm ∙ size;
      some = omega arith;
      within = omega arith;
      won = begun c.args.places xs c.args.place c.args.alarm t c.requires.within;
      leaves = λ p within. leaf_set c.args.places xs c.args.place p c.args.alarm size c.requires.within;
    }

pub loop-node-preserved : goal.loop-node-preserved
loop-node-preserved c =
    let xs = c.loop-node.nodes in
    let places = c.args.places in
    let m = c.loop-node.node / 2 in
    let h = c.loop-node.invariant in
    let within : m < places = omega arith in
    let is : slice_set xs m c.sooner-first.result ≡ mended xs m = ap (slice_set xs m) c.sooner-first.ensures in
    record {
      size = length-set xs m c.sooner-first.result ∙ h.size;
      some = omega arith;
      within = omega arith;
      won = subst (IsWonBut places (m / 2)) (sym is) (mend places xs m h.size (omega arith) within h.won);
      leaves = λ p inside. leaf_kept places xs m p c.sooner-first.result within ∙ h.leaves p inside;
    }
