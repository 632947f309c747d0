use Rattle.std.proofs.Common.{decimal, sym, ap, ◌∙◌}
use Rattle.sip_write.proofs.Pages.{nothing, and_then, same}
use Rattle.sip_write.proofs.ViaLines.{left_out, copied, with_port}
use Rattle.sip_write.proofs.via.put_parameter.Goals as goal

pub returns-then-is_received : goal.returns-then-is_received
returns-then-is_received c = same (sym (left_out c.args.source.now c.args.parameter.now (sym c.is_received.ensures ∙ c.if-is_received.true))) nothing

pub returns-then-is_bare_rport : goal.returns-then-is_bare_rport
returns-then-is_bare_rport c =
    same (sym (with_port c.args.source.now c.args.parameter.now (sym c.is_received.ensures ∙ c.if-is_received.false) (sym c.is_bare_rport.ensures ∙ c.if-is_bare_rport.true)))
    (and_then (same c.lead.ensures c.put_bytes.ensures) (and_then c.put.ensures (same (ap decimal c.from.ensures) c.put_number.ensures)))

pub returns : goal.returns
returns c =
    same (sym (copied c.args.source.now c.args.parameter.now (sym c.is_received.ensures ∙ c.if-is_received.false) (sym c.is_bare_rport.ensures ∙ c.if-is_bare_rport.false)))
    c.put_bytes-2.ensures
