use Rattle.std.proofs.Common.{map, take}
use Rattle.sip_write.specs.Pages.{Puts, next_texts}
use Rattle.sip_write.proofs.page.Page.put_next.Given as goal

abbrev pub invariant-loop-text : goal.invariant-loop-text
invariant-loop-text l = Puts l.fn.self (next_texts (map (λ t. t.now) (take l.text-index l.texts))) l.self
