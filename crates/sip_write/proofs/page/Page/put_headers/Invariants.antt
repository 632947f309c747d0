use Rattle.std.proofs.Common.{map, take}
use Rattle.sip_write.specs.Lines.{joined, header}
use Rattle.sip_write.specs.Pages.{Puts}
use Rattle.sip_write.proofs.page.Page.put_headers.Given as goal

abbrev pub invariant-loop-value : goal.invariant-loop-value
invariant-loop-value l = Puts l.fn.self (joined (map (header l.fn.name) (take l.value-index l.values))) l.self
