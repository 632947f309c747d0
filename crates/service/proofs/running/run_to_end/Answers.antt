use Rattle.std.proofs.Common.{arith}
use Rattle.service.proofs.Closed.{ports_len, ports_open}
use Rattle.service.proofs.running.run_to_end.Goals as goal

pub start_feeders-requires-clause-three : goal.start_feeders-requires-clause-three
start_feeders-requires-clause-three g c κs within = let three = ports_len c.requires.new.1 in let len = c.args.ports.ok.0 in omega arith

pub start_feeders-requires-clause-still_open : goal.start_feeders-requires-clause-still_open
start_feeders-requires-clause-still_open g c κs within = ports_open c.requires.new.1 c.requires.some

pub send_to_end-requires-clause-new : goal.send_to_end-requires-clause-new
send_to_end-requires-clause-new g c = (c.requires.new.0, c.args.ports.items, c.requires.new.1, c.in-Ok.ensures.ports)

pub send_to_end-requires-clause-errands : goal.send_to_end-requires-clause-errands
send_to_end-requires-clause-errands g c = (c.args.sources, c.in-Ok.ensures.errands)

pub wind_up-requires-clause-new : goal.wind_up-requires-clause-new
wind_up-requires-clause-new g c = (c.requires.new.0, c.args.ports.items, c.requires.new.1)

pub returns-in-Ok-clause-served : goal.returns-in-Ok-clause-served
returns-in-Ok-clause-served g c =
    λ stands is opened fresh. c.send_to_end.ensures.runs stands c.args.ports.items c.args.sources is c.in-Ok.ensures.ports c.in-Ok.ensures.errands opened fresh

pub returns-in-Ok-clause-faults : goal.returns-in-Ok-clause-faults
returns-in-Ok-clause-faults g c = c.send_to_end.ensures.faults c.args.sources c.in-Ok.ensures.errands c.requires.unfailed

pub returns-in-Err-clause-left : goal.returns-in-Err-clause-left
returns-in-Err-clause-left g c = λ stands is. c.wind_up.ensures stands c.args.ports.items c.args.sources.stopwatch.tick is
