use Rattle.sip_write.specs.Lines.{header}
use Rattle.std.proofs.Common.{◌∙◌}
use Rattle.admission.proofs.AnswerParts.{no_lines, one_more_line}
use Rattle.admission.proofs.answer.append_headers.Goals as goal

pub loop-value-init : goal.loop-value-init
loop-value-init c = no_lines c.args.octets.now.items

pub loop-value-preserved : goal.loop-value-preserved
loop-value-preserved c =
    one_more_line (header c.args.name.now) c.args.values.now c.loop-value.value-index c.value-item.result c.as_str.result.now
    c.args.octets.now.items c.loop-value.octets.items c.append_header.new.octets.items c.loop-value-test.true
    (c.as_str.ensures ∙ c.value-item.is) c.loop-value.invariant c.in_ok-append_header.ensures
