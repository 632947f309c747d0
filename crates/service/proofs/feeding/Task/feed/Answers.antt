use Rattle.std.proofs.Common.{refl}
use Rattle.service.proofs.Deafness.{deaf_at_end}
use Rattle.service.proofs.feeding.Task.feed.Goals as goal

pub returns-in-Datagrams-clause-sends : goal.returns-in-Datagrams-clause-sends
returns-in-Datagrams-clause-sends g c =
    let heard = c.hear_datagrams.ensures.served in rw c.in-Datagrams.is (heard.1, c.hear_datagrams.new.self.admission, heard.4)

pub returns-in-Datagrams-clause-fails : goal.returns-in-Datagrams-clause-fails
returns-in-Datagrams-clause-fails g c = rw c.in-Datagrams.is (c.hear_datagrams.new.self, refl, deaf_at_end _ c.hear_datagrams.ensures.deaf)

pub returns-in-Lines-clause-sends : goal.returns-in-Lines-clause-sends
returns-in-Lines-clause-sends g c = let taken = c.take_lines.ensures.taken in rw c.in-Lines.is (taken.0, taken.2)

pub returns-in-Lines-clause-fails : goal.returns-in-Lines-clause-fails
returns-in-Lines-clause-fails g c = rw c.in-Lines.is (c.take_lines.new.self, refl, deaf_at_end _ c.take_lines.ensures.deaf)

pub returns-in-Time-clause-sends : goal.returns-in-Time-clause-sends
returns-in-Time-clause-sends g c = rw c.in-Time.is c.tell_time.ensures.ticks

pub returns-in-Time-clause-fails : goal.returns-in-Time-clause-fails
returns-in-Time-clause-fails g c = rw c.in-Time.is (c.tell_time.new.stopwatch, refl, c.tell_time.ensures.failures)
