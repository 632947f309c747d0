use Rattle.std.proofs.Common.{arith}
use Rattle.udp_command.proofs.UdpStarted.{workers_are, crew_is}
use Rattle.udp_command.proofs.udp.start_crew.Goals as goal

pub start_any-requires-clause-few_workers : goal.start_any-requires-clause-few_workers
start_any-requires-clause-few_workers g c κs within =
    let boxes = c.in-Ok.boxes in let size = boxes.ok.0 in
    let len = workers_are g.P.Package.seen c.loopback_setup-setup.result boxes.items c.args.call.now c.loopback_setup-setup.ensures (rw c.as_slice.ensures at c.in-Ok.ensures) in
    let few = c.requires.few in omega arith

pub returns-in-Ok-start_any-clause-started : goal.returns-in-Ok-start_any-clause-started
returns-in-Ok-start_any-clause-started g c =
    let boxes = c.in-Ok.boxes in
    crew_is g.P.Package.seen c.loopback_setup-setup.result boxes.items c.args.call.now c.loopback_setup-setup.ensures (rw c.as_slice.ensures at c.in-Ok.ensures)
    _ boxes.ok.0 c.requires.some c.in-Ok-start_any.ensures.started
