use Rattle.std.proofs.Common.{ℕ, ◌<◌, get_or}
use Rattle.notifier.specs.Held.{seen_by}
use Rattle.crew.specs.Desks.{MayBegin}
use Rattle.crew.proofs.start.first_unfit.Given as goal

abbrev pub invariant-loop-at : goal.invariant-loop-at
invariant-loop-at g l = (k : ℕ) (d : _) → k < l.at → MayBegin (seen_by g.P.Package.seen (get_or l.fn.desks 0 d)) k (seen_by g.P.Package.seen (get_or l.fn.desks k d))
