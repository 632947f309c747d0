use Rattle.std.proofs.Common.{◌≡◌, ◌++◌, map, take}
use Rattle.package.specs.declared.change.Change.TheVariants as change
use Rattle.commands.proofs.journal_opened.add_lines.Given as goal

abbrev pub invariant-loop-change : goal.invariant-loop-change
invariant-loop-change l = l.changes.items ≡ l.fn.changes.items ++ map (λ m. change.Mail m) (take l.change-index l.lines)
