use Rattle.std.proofs.Common.{refl}
use Rattle.service.proofs.Owning.{swept_same, swept_away}
use Rattle.service.proofs.owners.Owners.look.Goals as goal

pub returns-then-is_over-clause-swept : goal.returns-then-is_over-clause-swept
returns-then-is_over-clause-swept c =
    let gone = c.swap_remove_index-gone.ensures in
    swept_away _ c.args.self.now.dialogs c.swap_remove_index-gone.new.self _ _ (c.is_over.ensures.over c.if-is_over.true) gone.entry gone.updates

pub returns-else-is_over-clause-swept : goal.returns-else-is_over-clause-swept
returns-else-is_over-clause-swept c = λ t. swept_same _ _ _ refl
