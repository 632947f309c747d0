use Rattle.std.proofs.Common.{List, ℕ, Option, subst}
use Rattle.plans.specs.Lines.{IsTaken}
use Rattle.plans.proofs.line_file.take_file.Goals as goal

pub returns-in-Err-clause-refused : goal.returns-in-Err-clause-refused
returns-in-Err-clause-refused g c = g.met.T.TakesLines.unread c.args.path.now c.unread.result c.unread.ensures.unread

pub returns-clause-taken : goal.returns-clause-taken
returns-clause-taken g c =
    let (file, same) = c.in-Ok.ensures.whole in
    (file, subst (λ (given : Option (List ℕ)). IsTaken g.T.TakesLines.takes given c.args.taker.now c.take_lines.new.taker) same c.in_ok-take_lines.ensures.taken)
