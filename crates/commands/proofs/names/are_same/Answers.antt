use Rattle.std.proofs.Common.{◌∙◌}
use Rattle.commands.proofs.FormerNames.{same_if_both, other_if_none}
use Rattle.commands.proofs.names.are_same.Goals as goal
use Rattle.commands.proofs.names.are_same.Goals.{then-has_all, else-has_all}

pub returns : goal.returns
returns c =
    let names = c.args.names.now in let others = c.args.others.now in
    elim c.if-has_all.branch [
      | then-has_all w ↦
          same_if_both names others _ _ _ _ _ c.in_ok-ours.ensures c.in_ok-theirs.ensures c.has_all.ensures w.has_all-then-has_all.ensures w.if-has_all.true w.result-is
      | else-has_all w ↦ other_if_none names others _ _ _ c.in_ok-theirs.ensures c.has_all.ensures w.if-has_all.false (w.result-is ∙ w.if-has_all.false)
    ]
