use Rattle.std.proofs.Common.{◌∙◌, ap, length}
use Rattle.crew.proofs.SeatRows.{new_senders-length, new_senders-unused}
use Rattle.crew.proofs.seating.open_inbox.Goals as goal

pub deal_out-requires-clause-len : goal.deal_out-requires-clause-len
deal_out-requires-clause-len c = c.in_ok-senders.senders.ok.0 ∙ ap length c.in_ok-senders.ensures.new.0 ∙ new_senders-length _ _

pub deal_out-requires-clause-new : goal.deal_out-requires-clause-new
deal_out-requires-clause-new c = new_senders-unused c.in_ok-senders.receiver.inbox (length c.args.ports.now) _ c.in_ok-senders.ensures.new.0
