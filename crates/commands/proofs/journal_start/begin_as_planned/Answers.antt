use Rattle.std.proofs.Common.{inl, inr}
use Rattle.commands.proofs.Started.{if_ok}
use Rattle.commands.proofs.journal_start.begin_as_planned.Goals as goal
use Rattle.commands.proofs.journal_start.begin_as_planned.Goals.{in-Some-Some, in_default}

pub returns-clause-starts : goal.returns-clause-starts
returns-clause-starts g c = elim c.match-plan.branch [
  | in-Some-Some w ↦ rw (w.result-is) (if_ok w.start_with.result w.start_with.ensures.there (λ s there. inl there))
  | in_default w ↦ rw (w.result-is) (if_ok w.begin_without.result w.begin_without.ensures.anew (λ s anew. inr anew))
]
