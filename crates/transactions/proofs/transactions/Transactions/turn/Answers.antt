use Rattle.std.proofs.Common.{subst, ◌<◌, IsSome}
use Rattle.transactions.specs.Machine.{State, due, ups}
use Rattle.transactions.specs.Stored.{live_list}
use Rattle.transactions.proofs.transactions.Transactions.turn.Goals as goal

pub returns-clause-fewer : goal.returns-clause-fewer
unfolding due
returns-clause-fewer c =
    subst (λ (s : State). IsSome (due s c.args.now) → ups c.args.now (live_list c.turn.new.book) < ups c.args.now s.live) c.self.view_is c.turn.ensures.fewer
