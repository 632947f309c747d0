use Rattle.crew.proofs.AtHome.{new_law, send_law, tick_law, close_law}
use Rattle.crew.proofs.laws.events_are_at_home.Goals as goal

pub returns-clause-new : goal.returns-clause-new
returns-clause-new c = new_law

pub returns-clause-send : goal.returns-clause-send
returns-clause-send c = send_law

pub returns-clause-tick : goal.returns-clause-tick
returns-clause-tick c = tick_law

pub returns-clause-close : goal.returns-clause-close
returns-clause-close c = close_law
