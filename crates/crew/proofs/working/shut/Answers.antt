use Rattle.std.proofs.Common.{refl, sym, ◌∙◌}
use Rattle.notifier.specs.Held.{seen_by}
use Rattle.crew.proofs.Halting.{closed, shut, shut_full}
use Rattle.crew.proofs.working.shut.Goals as goal

pub returns-then-not-hand-clause-ends : goal.returns-then-not-hand-clause-ends
returns-then-not-hand-clause-ends g c n start taken planned k =
    closed _ n _ _ start taken (seen_by g.P.Package.seen c.args.hand.now.desk) _ k (sym planned ∙ c.if-not-hand.true)

pub returns-in_default-clause-ends : goal.returns-in_default-clause-ends
returns-in_default-clause-ends g c n start taken planned k =
    shut_full _ n _ _ _ _ start taken (seen_by g.P.Package.seen c.args.hand.now.desk) c.args.hand.now.poster c.handle.new.self.poster k (sym planned ∙ c.if-not-hand.false) c.in_default.ensures.err

pub returns-clause-ends : goal.returns-clause-ends
returns-clause-ends g c n start taken planned k =
    shut _ n _ _ _ _ start taken (seen_by g.P.Package.seen c.args.hand.now.desk) (seen_by g.P.Package.seen c.handle.new.self.desk) c.args.hand.now.poster c.handle.new.self.poster k
    (sym planned ∙ c.if-not-hand.false) refl c.in-Ok.ensures.ok c.in-Ok.ensures.counted
