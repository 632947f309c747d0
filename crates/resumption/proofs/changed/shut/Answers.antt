use Rattle.notifier.specs.Held.{seen_by}
use Rattle.resumption.proofs.Ending.{no_ok, shut_there}
use Rattle.resumption.proofs.changed.shut.Goals as goal

pub returns-clause-outs : goal.returns-clause-outs
returns-clause-outs g c =
    shut_there (seen_by g.P.Package.seen c.args.desk) c.in-Ok.outs.items (λ e. no_ok _ _ (c.in-Ok.ensures.spent.1 e)) (λ s e. (c.in-Ok.ensures.ok s e).outs_are)
