use Rattle.std.proofs.Common.{sym, subst}
use Rattle.package.specs.Content.{SuitsPackage, refer_package}
use Rattle.package.proofs.Held.{get_held}
use Rattle.refer.specs.Transfers.{content_of}
use Rattle.refer.proofs.Steps.{suits_refer}
use Rattle.refer.proofs.transfers.TransfersPackage.event.Goals as goal

pub returns-clause-kind : goal.returns-clause-kind
returns-clause-kind c = λ q. subst (SuitsPackage refer_package) (sym (get_held content_of c.args.self.now.transfers.entries q)) (suits_refer _)
