use Rattle.std.proofs.Common.{◌≡◌, take, true}
use Rattle.udp_command.specs.UdpEnds.{all_closed}
use Rattle.udp_command.proofs.udp.all_closed.Given as goal

abbrev pub invariant-loop-report : goal.invariant-loop-report
invariant-loop-report l = all_closed (take l.report-index l.reports) ≡ true
