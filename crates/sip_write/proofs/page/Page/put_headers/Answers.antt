use Rattle.std.proofs.Common.{◌∙◌}
use Rattle.sip_write.specs.Lines.{header}
use Rattle.sip_write.proofs.Pages.{no_line, one_more_line}
use Rattle.sip_write.proofs.page.Page.put_headers.Goals as goal

pub loop-value-init : goal.loop-value-init
loop-value-init c = no_line

pub loop-value-preserved : goal.loop-value-preserved
loop-value-preserved c =
    one_more_line (header c.args.name.now) c.args.values.now c.loop-value.value-index c.value-item.result c.as_str.result.now c.loop-value-test.true
    (c.as_str.ensures ∙ c.value-item.is) c.loop-value.invariant c.put_header.ensures
