use Rattle.std.proofs.Common.{◌≡◌, ◌∙◌, List, map, string_bytes, subst, ap}
use Rattle.std.specs.Prelude.{IfOk}
use Rattle.package.specs.declared.change.Change.{Change}
use Rattle.package.specs.Content.{Seen}
use Rattle.arguments.specs.Told.{boxes_left}
use Rattle.resumption.specs.Told.{mails, transfers}
use Rattle.resumption.proofs.Lists.{behind_none}
use Rattle.resumption.proofs.told.boxes_told.Goals as goal

pub returns : goal.returns
returns g c =
    let told = c.args.from.0.now in
    let rows = c.args.from.1.now in
    let names = map string_bytes c.args.names.items in
    let mails_are : c.as_slice.result.now ≡ mails told.mail =
    c.as_slice.ensures.value ∙ behind_none c.new-mails.result.items (mails told.mail) _ c.new-mails.ensures.items c.in_ok-add_mails.ensures in
    let steps_are : c.as_slice-2.result.now ≡ transfers rows told.progress = c.as_slice-2.ensures.value ∙ c.in_ok-steps.ensures in
    subst (λ (boxes : List Seen). IfOk c.boxes_left.result (λ made. map g.P.Package.seen made.items ≡ boxes))
    (ap (λ (l : List Change). boxes_left c.args.no_refer l c.as_slice-2.result.now names) mails_are ∙ ap (λ (l : List Change). boxes_left c.args.no_refer (mails told.mail) l names) steps_are)
    c.boxes_left.ensures
