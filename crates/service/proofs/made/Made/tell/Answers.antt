use Rattle.service.proofs.Making.{named_mail}
use Rattle.service.proofs.made.Made.tell.Goals as goal

pub invariant_of-self : goal.invariant_of-self
invariant_of-self c = record { named = named_mail c.in-Mail.change c.args.self.now.told c.tell.new.self c.args.self.now.named c.tell.ensures }
