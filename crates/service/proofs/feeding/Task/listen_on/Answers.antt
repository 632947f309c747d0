use Rattle.std.proofs.Common.{refl}
use Rattle.service.proofs.feeding.Task.listen_on.Goals as goal

pub returns-in-Datagrams : goal.returns-in-Datagrams
returns-in-Datagrams g c = rw c.in-Datagrams.is (c.hear_answers.new.self, refl, c.hear_answers.ensures.deaf)

pub returns-in-Lines : goal.returns-in-Lines
returns-in-Lines g c = rw c.in-Lines.is (c.refuse_lines.new.self, refl, c.refuse_lines.ensures.deaf)

pub returns-in-Time : goal.returns-in-Time
returns-in-Time g c = rw c.in-Time.is (_, refl, refl)
