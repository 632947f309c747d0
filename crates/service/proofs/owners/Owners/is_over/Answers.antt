use Rattle.std.proofs.Common.{sym, ap, ◌∙◌}
use Rattle.service.specs.Owners as spec
use Rattle.service.proofs.owners.Owners.is_over.Goals as goal

pub returns-in-Some-second-clause-over : goal.returns-in-Some-second-clause-over
returns-in-Some-second-clause-over c = λ over. (
  (c.in-Some.field-0-0.now, c.in-Some.owner.now),
  sym c.in-Some.ensures.entry,
  c.in-Some.ensures.value,
  ap (λ s. spec.is_over s c.in-Some.owner.now) c.in-Some-second.is ∙ over,
)
