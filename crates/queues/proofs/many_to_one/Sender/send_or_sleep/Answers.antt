use Rattle.std.proofs.Common.{ap, sym}
use Rattle.queues.proofs.Keeps.{sends}
use Rattle.queues.proofs.many_to_one.Sender.send_or_sleep.Goals as goal

pub send_as-requires-clause-rule : goal.send_as-requires-clause-rule
send_as-requires-clause-rule g c = (sends _ _ _ _ (ap (λ v. v.is_sender) c.self.invariant.1) c.self.invariant.2 (ap (λ v. v.number) (sym c.self.invariant.1)), λ items views h at. tt)
