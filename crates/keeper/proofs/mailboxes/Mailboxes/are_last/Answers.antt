use Rattle.std.proofs.Common.{◌≡◌, Some, rules}
use Rattle.std.specs.Prelude.{slice_get}
use Rattle.keeper.specs.Told.{Row}
use Rattle.keeper.proofs.Same.{before_all, one_row_more, other_row, all_rows}
use Rattle.keeper.proofs.mailboxes.Mailboxes.are_last.Goals as goal

pub loop-place-init : goal.loop-place-init
loop-place-init c = before_all c.args.self.now c.args.changes.now

pub loop-place-preserved : goal.loop-place-preserved
loop-place-preserved c =
    let at = c.loop-place in
    let row : Row = (c.in-Some._name.now, c.in-Some.last.now) in
    let is : slice_get c.args.self.now at.place ≡ Some row = search rules in
    one_row_more c.args.self.now c.args.changes.now at.place row at.rest.now c.in-Some-behind.behind.now is (search rules) at.invariant

pub returns-in_default-behind : goal.returns-in_default-behind
returns-in_default-behind c =
    let at = c.loop-place in
    let row : Row = (c.in-Some._name.now, c.in-Some.last.now) in
    let is : slice_get c.args.self.now at.place ≡ Some row = search rules in
    (λ e. absurd cc, λ e. absurd (other_row c.args.self.now c.args.changes.now at.place row at.rest.now is (search rules) at.invariant e))

pub returns : goal.returns
returns c =
    let at = c.loop-place in
    all_rows c.args.self.now c.args.changes.now at.place at.rest.now c.is_empty-2.result (search rules) (search rules) at.invariant
