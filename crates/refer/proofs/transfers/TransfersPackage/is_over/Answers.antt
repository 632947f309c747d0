use Rattle.std.proofs.Common.{◌≡◌, None, Some, rules, sym, ap, ◌∙◌, option_map}
use Rattle.indexmap.specs.IndexMap.{get_by_text}
use Rattle.package.specs.Content.{is_finished}
use Rattle.package.proofs.Held.{get_held}
use Rattle.refer.specs.Transfers.{content_of}
use Rattle.refer.proofs.transfers.TransfersPackage.is_over.Goals as goal

pub returns-in-None : goal.returns-in-None
returns-in-None c =
    let e : get_by_text c.args.self.now.transfers c.args.resource.now ≡ None = search rules in
    sym (ap is_finished (get_held content_of c.args.self.now.transfers.entries c.args.resource.now) ∙ ap (λ o. is_finished (option_map content_of o)) e)

pub returns-in-Some : goal.returns-in-Some
returns-in-Some c =
    let e : get_by_text c.args.self.now.transfers c.args.resource.now ≡ Some c.in-Some.status.now = search rules in
    c.is_final.ensures ∙ sym (ap is_finished (get_held content_of c.args.self.now.transfers.entries c.args.resource.now) ∙ ap (λ o. is_finished (option_map content_of o)) e)
