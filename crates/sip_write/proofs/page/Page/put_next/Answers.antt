use Rattle.sip_write.proofs.Pages.{nothing, and_then, one_more_text}
use Rattle.sip_write.proofs.page.Page.put_next.Goals as goal

pub loop-text-init : goal.loop-text-init
loop-text-init c = nothing

pub loop-text-preserved : goal.loop-text-preserved
loop-text-preserved c = one_more_text (λ t. t.now) c.args.texts.now c.loop-text.text-index _ c.loop-text-test.true c.loop-text.invariant (and_then c.put.ensures c.put-in-loop-text.ensures)
