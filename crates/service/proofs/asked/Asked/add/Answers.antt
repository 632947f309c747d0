use Rattle.std.proofs.Common.{rules, ◌≡◌, ◌∷◌, ◌++◌, []}
use Rattle.service.specs.Asked as spec
use Rattle.service.proofs.asked.Asked.add.Goals as goal

pub returns-clause-added : goal.returns-clause-added
returns-clause-added c =
    let answered = c.in_ok-answered.answered in
    let behind : c.push_back.new.self.items ≡ spec.with_room c.args.self.now.answers.items ++ answered ∷ [] = search rules in
    (answered, c.in_ok-answered.ensures, behind)
