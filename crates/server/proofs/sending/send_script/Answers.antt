use Rattle.std.proofs.Common.{sym, ◌∙◌}
use Rattle.crew.proofs.Keeping.{close_keeps}
use Rattle.server.proofs.Sent.{where_ok}
use Rattle.server.proofs.sending.send_script.Goals as goal

pub returns-then-is_sent-clause-seats : goal.returns-then-is_sent-clause-seats
returns-then-is_sent-clause-seats g c = close_keeps c.close.result _ c.close.new.self c.close.ensures.ends ∙ c.send_all-is_sent.ensures.seats

pub returns-then-is_sent-clause-sent : goal.returns-then-is_sent-clause-sent
returns-then-is_sent-clause-sent g c = λ closed. (
  c.send_all-is_sent.new.port,
  c.send_all-is_sent.ensures.sent c.if-is_sent.true,
  where_ok _ c.close.result c.close.ensures.ends (sym c.is_ok-is_closed.ensures.value ∙ closed),
)

pub returns-else-is_sent-clause-seats : goal.returns-else-is_sent-clause-seats
returns-else-is_sent-clause-seats g c = close_keeps c.close.result _ c.close.new.self c.close.ensures.ends ∙ c.send_all-is_sent.ensures.seats
