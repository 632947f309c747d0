use Rattle.std.proofs.Common.{sym, ◌∙◌, subst}
use Rattle.service.specs.Newcomers.{IsPassed, passed_when}
use Rattle.service.proofs.Newcoming.{passed_where}
use Rattle.service.proofs.newcomers.Newcomers.pass.Goals as goal

pub returns-in-Ok-clause-passed : goal.returns-in-Ok-clause-passed
returns-in-Ok-clause-passed c = λ n.
    let named = sym c.in_ok-name.ensures ∙ c.in-Some.is in
    let moment = c.args.newcomer.moment in
    let was = passed_when c.args.self.now.passed n in
    let mid = passed_when c.sweep.new.self.passed n in
    let now = passed_when c.insert.new.self n in
    subst (λ name. IsPassed name moment n was now) (sym named) (passed_where c.in-Some.name moment n was mid now (c.sweep.ensures.swept n) (c.in-Ok.ensures.updates.0 n))
