use Rattle.std.proofs.Common.{◌≡◌, ◌∙◌, map, string_bytes, ap}
use Rattle.plans.specs.Plans.{each_once}
use Rattle.commands.proofs.Ordered.{ordered}
use Rattle.commands.proofs.names.in_former_order.Goals as goal

pub returns : goal.returns
returns c =
    let former = c.args.former.items in let names = c.args.names.items in
    let known : map string_bytes c.in_ok-known.known.keys ≡ each_once former = c.in_ok-known.ensures ∙ ap each_once c.as_slice.ensures.value in
    let told : map string_bytes c.in_ok-told.told.keys ≡ each_once names = c.in_ok-told.ensures ∙ ap each_once c.as_slice-2.ensures.value in
    record { ordered = rw (c.in_ok-append.ensures.items, c.keep_named.ensures, c.keep_others.ensures, known, told) (ordered former names) }
