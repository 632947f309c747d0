use Rattle.std.proofs.Common.{◌∙◌, ap}
use Rattle.transactions.specs.Machine.{answer}
use Rattle.transactions.proofs.transactions.Transactions.answer.Goals as goal

pub returns : goal.returns
returns c = c.answer.ensures.answered c.self.inside.allowance ∙ ap (λ s. answer s c.args.tag.now c.args.number c.args.status) c.self.view_is
