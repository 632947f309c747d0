use Rattle.std.proofs.Common.{◌≡◌, ◌++◌, List, Some, None, rules, sym, ap, ◌∙◌}
use Rattle.std.specs.Prelude.{slice_get}
use Rattle.package.specs.Values.{MailChange}
use Rattle.keeper.specs.Told.{Row, last_changes}
use Rattle.std.proofs.lemmas.List.{take_all}
use Rattle.keeper.proofs.Rows.{one_row, no_row}
use Rattle.keeper.proofs.mailboxes.Mailboxes.last.Goals as goal

pub loop-place-preserved : goal.loop-place-preserved
loop-place-preserved c =
    let at = c.loop-place in
    let row : Row = (c.in-Some._name.now, c.in-Some.last.now) in
    let is : slice_get c.args.self.now at.place ≡ Some row = search rules in
    c.in_ok-copy_to.ensures ∙ ap (λ (l : List MailChange). l ++ c.in-Some.last.now) at.invariant ∙ sym (one_row c.args.self.now at.place row is)

pub returns-in_default : goal.returns-in_default
returns-in_default c =
    let at = c.loop-place in
    let is : slice_get c.args.self.now at.place ≡ None = search rules in
    at.invariant ∙ ap last_changes (no_row c.args.self.now at.place is)

pub returns : goal.returns
returns c =
    let at = c.loop-place in
    at.invariant ∙ ap last_changes (take_all at.place c.args.self.now (search rules))
