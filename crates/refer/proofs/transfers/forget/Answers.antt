use Rattle.std.proofs.Common.{◌≡◌, None, Some, rules, ap, ◌∙◌}
use Rattle.std.proofs.lemmas.Map.Text.{hash_map_updates_text}
use Rattle.indexmap.specs.IndexMap.{get_by_text}
use Rattle.package.specs.Content.{contents_of, without_held}
use Rattle.package.proofs.Held.{held_remove}
use Rattle.refer.specs.Transfers.{content_of}
use Rattle.refer.proofs.Steps.{forget_none, forget_some}
use Rattle.refer.proofs.transfers.forget.Goals as goal

pub returns-in_default : goal.returns-in_default
returns-in_default c =
    let e : get_by_text c.args.transfers.now c.as_str.result.now ≡ None = search rules in
    let same : c.swap_remove.new.self.entries ≡ c.args.transfers.now.entries = search rules in
    forget_none c.args.transfers.now.entries c.as_str.result.now c.args.tag.now c.as_str.ensures e
    (contents_of content_of c.swap_remove.new.self.entries) (ap (contents_of content_of) same)

pub returns : goal.returns
returns c =
    let e : get_by_text c.args.transfers.now c.as_str.result.now ≡ Some c.in-Some._gone = search rules in
    let removed = held_remove content_of c.args.transfers.now.entries c.swap_remove.new.self.entries c.as_str.result.now
    (hash_map_updates_text c.as_str.result.now c.args.transfers.now c.swap_remove.new.self _ c.swap_remove.ensures.updates) in
    forget_some c.args.transfers.now.entries c.as_str.result.now c.args.tag.now c.as_str.ensures c.in-Some._gone e
    (contents_of content_of c.swap_remove.new.self.entries)
    (removed ∙ ap (without_held (contents_of content_of c.args.transfers.now.entries)) c.as_str.ensures)
