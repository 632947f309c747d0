use Rattle.sip_write.proofs.Pages.{none_joined, some_joined}
use Rattle.sip_write.proofs.page.Page.put_joined.Goals as goal

pub returns-in_default : goal.returns-in_default
returns-in_default c = none_joined (λ t. t.now) c.args.texts.now c.in_default.len_below

pub returns-in-len1-up : goal.returns-in-len1-up
returns-in-len1-up c = some_joined (λ t. t.now) c.args.texts.now _ c.in-len1-up.len_at_least c.put.ensures c.put_next.ensures
