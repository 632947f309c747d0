use Rattle.std.proofs.Common.{ℕ, List, codes, ap, ◌∙◌}
use Rattle.sip_write.specs.Via.{marked_parts, parts_of}
use Rattle.sip_write.proofs.Pages.{and_then, same, as_header}
use Rattle.sip_write.proofs.ViaLines.{kept_as_it_is, written_into, marked_is}
use Rattle.sip_write.proofs.via.put_top_via.Goals as goal

pub returns-then-names : goal.returns-then-names
returns-then-names c =
    let value = same (kept_as_it_is c.args.source.now c.args.top.now c.args.text.now _ _ c.names.ensures c.ip_in.ensures c.if-names.true) c.put.ensures in
    as_header (codes "Via") _ (and_then c.put_name.ensures (and_then value c.end_line.ensures))

pub returns : goal.returns
returns c =
    let marked =
    same
    (marked_is c.args.source.now c.as_bytes-value.result.now c.front_len.result _ _ c.front_len.ensures.whole c.split_at.ensures.front c.split_at.ensures.back)
    (and_then c.put_bytes.ensures (and_then c.put_parameters.ensures (and_then c.put-2.ensures c.put_ip.ensures))) in
    let value =
    same
    (ap (λ (t : List ℕ). marked_parts c.args.source.now (parts_of t)) c.as_bytes-value.ensures.value
    ∙ written_into c.args.source.now c.args.top.now _ _ _ c.names.ensures c.ip_in.ensures c.if-names.false)
    marked in
    as_header (codes "Via") _ (and_then c.put_name.ensures (and_then value c.end_line-2.ensures))
