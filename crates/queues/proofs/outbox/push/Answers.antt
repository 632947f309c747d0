use Rattle.std.proofs.Common.{ap, sym, ◌∙◌}
use Rattle.queues.specs.Items.{has_end}
use Rattle.queues.proofs.Keeps.{sends}
use Rattle.queues.proofs.outbox.push.Goals as goal

pub push_as-requires-clause-rule : goal.push_as-requires-clause-rule
push_as-requires-clause-rule g c =
    let same = c.loop.invariant.knows in
    let is_sender = ap (λ v. v.is_sender) same ∙ c.requires.unended.0 in
    let unended = ap (λ v. has_end v.sent) same ∙ c.requires.unended.1 in
    let ours = ap (λ x. x.from) c.loop.invariant.item ∙ c.requires.ours ∙ ap (λ v. v.number) (sym same) in
    (sends _ _ _ _ is_sender unended ours, λ items views h at. tt)
