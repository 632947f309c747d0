use Rattle.std.proofs.Common.{refl}
use Rattle.first_contact.proofs.Going.{let_on}
use Rattle.first_contact.proofs.table.Contacts.go_on.Goals as goal

pub returns-clause-let_on : goal.returns-clause-let_on
returns-clause-let_on c =
    λ e. let_on c.args.self.now _ c.args.tag.now c.args.to c.args.is_last c.go_on.result e c.go_on.ensures.goes refl refl refl c.go_on.ensures.at
