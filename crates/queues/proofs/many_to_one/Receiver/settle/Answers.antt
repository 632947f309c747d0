use Rattle.std.proofs.Common.{ap}
use Rattle.queues.proofs.Keeps.{merges, compares}
use Rattle.queues.proofs.many_to_one.Receiver.settle.Goals as goal

pub absorb-requires-clause-rule : goal.absorb-requires-clause-rule
absorb-requires-clause-rule g c = merges _ _ _ _ c.self.invariant.1 (ap (λ v. v.is_sender) c.sent.invariant.1)

pub learn_as-requires-clause-rule : goal.learn_as-requires-clause-rule
learn_as-requires-clause-rule g c = compares _ _ (ap (λ v. v.is_receiver) c.absorb.ensures.rule) (ap (λ v. v.is_sender) c.absorb.ensures.rule)
