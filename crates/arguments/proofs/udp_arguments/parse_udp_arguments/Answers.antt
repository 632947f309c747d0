use Rattle.arguments.specs.UdpArguments.{AreUdpArguments}
use Rattle.arguments.specs.UdpReading.{read_udp_arguments}
use Rattle.arguments.proofs.UdpCalls.{udp_call_takes, udp_call_again, udp_call_found, udp_call_only}
use Rattle.arguments.proofs.udp_arguments.parse_udp_arguments.Goals as goal

pub returns-clause-found : goal.returns-clause-found
returns-clause-found c =
    udp_call_found c.read_udp_arguments.result (read_udp_arguments c.args.words.now) (AreUdpArguments c.args.words.now) c.read_udp_arguments.ensures (udp_call_takes c.args.words.now)

pub returns-clause-only : goal.returns-clause-only
returns-clause-only c = λ a h.
    udp_call_only c.read_udp_arguments.result (read_udp_arguments c.args.words.now) a c.read_udp_arguments.ensures (udp_call_again c.args.words.now a h)
