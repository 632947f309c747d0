use Rattle.std.proofs.Common.{◌≡◌, None, Some, rules, sym, ap, ◌∙◌, option_map}
use Rattle.indexmap.specs.IndexMap.{get_by_text}
use Rattle.package.specs.Bodies.{body_of}
use Rattle.package.proofs.Held.{get_held}
use Rattle.refer.specs.Transfers.{content_of}
use Rattle.refer.proofs.transfers.TransfersPackage.body.Goals as goal

pub returns-in-None : goal.returns-in-None
returns-in-None c =
    let e : get_by_text c.args.self.now.transfers c.args.resource.now ≡ None = search rules in
    sym (ap (option_map body_of) (get_held content_of c.args.self.now.transfers.entries c.args.resource.now ∙ ap (option_map content_of) e))

pub returns-in_ok-write_body-in-Some : goal.returns-in_ok-write_body-in-Some
returns-in_ok-write_body-in-Some c =
    let e : get_by_text c.args.self.now.transfers c.args.resource.now ≡ Some c.in-Some.status.now = search rules in
    ap Some (search rules) ∙ sym (ap (option_map body_of) (get_held content_of c.args.self.now.transfers.entries c.args.resource.now ∙ ap (option_map content_of) e))
