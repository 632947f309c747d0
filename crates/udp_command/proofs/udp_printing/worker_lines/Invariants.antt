use Rattle.std.proofs.Common.{◌≡◌, take, string_bytes}
use Rattle.udp_command.specs.UdpLines.{worker_lines}
use Rattle.udp_command.proofs.udp_printing.worker_lines.Given as goal

abbrev pub invariant-loop-at : goal.invariant-loop-at
invariant-loop-at l = string_bytes l.lines ≡ worker_lines (take l.at l.reports)
