use Rattle.std.proofs.Common.{◌≡◌, ◌++◌, map, take}
use Rattle.sip_write.specs.Lines.{joined, header}
use Rattle.admission.proofs.answer.append_headers.Given as goal

abbrev pub invariant-loop-value : goal.invariant-loop-value
invariant-loop-value l = l.octets.items ≡ l.fn.octets.items ++ joined (map (header l.name) (take l.value-index l.values))
