use Rattle.std.proofs.Common.{◌∙◌}
use Rattle.sip_write.proofs.ViaLines.{no_vias, some_vias}
use Rattle.sip_write.proofs.answer.put_vias.Goals as goal

pub returns-in_default : goal.returns-in_default
returns-in_default c = rw c.as_slice.ensures at (no_vias {a = c.args.page.now} c.args.source.now c.args.head.now.top c.as_slice.result.now c.in_default.len_below)

pub returns-in-len1-up : goal.returns-in-len1-up
returns-in-len1-up c =
    rw c.as_slice.ensures
    at (some_vias {a = c.args.page.now} {b = c.put_top_via.new.page} {c = c.put_headers.new.self} c.args.source.now c.args.head.now.top c.as_slice.result.now c.first-item.result c.as_str.result.now c.in-len1-up.len_at_least
    (c.as_str.ensures ∙ c.first-item.is) c.put_top_via.ensures c.put_headers.ensures)
