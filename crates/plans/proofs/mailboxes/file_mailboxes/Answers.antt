use Rattle.plans.specs.Plans.{AddsNames}
use Rattle.plans.proofs.LineFiles.{all_in_order}
use Rattle.plans.proofs.mailboxes.file_mailboxes.Goals as goal

pub returns-clause-told : goal.returns-clause-told
returns-clause-told g c =
    let (file, taken) = c.in_ok-take_file.ensures.taken in
    (file, all_in_order (λ old line new. AddsNames line old new) _ c.new-names.result _ c.new-names.ensures.items taken)
