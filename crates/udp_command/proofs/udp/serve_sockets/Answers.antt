use Rattle.udp_command.specs.UdpCall.{start_at}
use Rattle.udp_command.proofs.udp.serve_sockets.Goals as goal

pub listen_and_serve-requires-clause-new : goal.listen_and_serve-requires-clause-new
listen_and_serve-requires-clause-new g c κs within = (start_at c.args.call.now, c.in_ok-crew.ensures.started)

pub returns-in-Ok-clause-served : goal.returns-in-Ok-clause-served
returns-in-Ok-clause-served g c = c.in-Ok.ensures.served (start_at c.args.call.now) c.in_ok-crew.ensures.started
