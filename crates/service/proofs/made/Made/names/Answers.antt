use Rattle.std.proofs.Common.{◌≡◌, Some, None, rules, sym, subst, ap, ◌∙◌}
use Rattle.std.specs.Prelude.{slice_get}
use Rattle.std.proofs.lemmas.List.{take_all}
use Rattle.control_lines.specs.Told.{Row}
use Rattle.service.specs.Made.{names, AreNames}
use Rattle.service.proofs.Making.{names_more, names_all}
use Rattle.service.proofs.made.Made.names.Goals as goal

pub loop-place-preserved : goal.loop-place-preserved
loop-place-preserved c =
    let at = c.loop-place in
    let row : Row = (c.in-Some.mailbox.now, c.in-Some._counts) in
    let is : slice_get c.args.self.now.told at.place ≡ Some row = search rules in
    names_more c.args.self.now.told at.place row _ _ is at.invariant (search rules)

pub returns-in_default-clause-all : goal.returns-in_default-clause-all
returns-in_default-clause-all c =
    let at = c.loop-place in
    let is : slice_get c.args.self.now.told at.place ≡ None = search rules in
    names_all c.args.self.now.told at.place _ is at.invariant

pub returns-in_default-clause-are : goal.returns-in_default-clause-are
returns-in_default-clause-are c = subst AreNames (sym (returns-in_default-clause-all c)) c.args.self.now.named

pub returns-clause-all : goal.returns-clause-all
returns-clause-all c =
    let at = c.loop-place in
    at.invariant ∙ ap names (take_all at.place c.args.self.now.told (search rules))

pub returns-clause-are : goal.returns-clause-are
returns-clause-are c = subst AreNames (sym (returns-clause-all c)) c.args.self.now.named
