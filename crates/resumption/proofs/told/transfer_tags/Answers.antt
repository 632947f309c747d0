use Rattle.std.proofs.Common.{[], map, string_bytes}
use Rattle.resumption.specs.Told.{tags}
use Rattle.resumption.proofs.Lists.{one_more}
use Rattle.resumption.proofs.Telling.{tags-append}
use Rattle.resumption.proofs.told.transfer_tags.Goals as goal

pub loop-row-preserved : goal.loop-row-preserved
loop-row-preserved c =
    one_more tags tags-append _ c.loop-row.row-index c.row-item.result [] (map string_bytes c.loop-row.tags.items) _
    c.loop-row-test.true c.row-item.is c.loop-row.invariant c.in_ok-add_tag.ensures
