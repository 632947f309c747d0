use Rattle.std.proofs.Common.{◌<◌, refl, sym, subst}
use Rattle.std.specs.declared.option.Option.TheVariants.{None}
use Rattle.watchers.specs.Tallies.{tally}
use Rattle.watchers.proofs.Addresses.{updated, some_there}
use Rattle.watchers.proofs.counts.Counts.set.Goals as goal
use Rattle.watchers.proofs.counts.Counts.set.Goals.{in-Ok, in-Err}

pub returns-then-count-eq0-clause-set : goal.returns-then-count-eq0-clause-set
returns-then-count-eq0-clause-set c =
    rw (← c.self.view_is) (updated c.self.inside.counts.entries c.remove.new.self.entries c.args.source c.args.count None (sym c.if-count-eq0.true) c.remove.ensures.updates.0)

pub returns-clause-succeeds : goal.returns-clause-succeeds
returns-clause-succeeds c = λ some. elim c.match-insert.branch [
  | in-Ok w ↦ rw (w.result-is) refl
  | in-Err w ↦ absurd (some_there c.self.inside.counts.entries c.args.source (subst (λ counts. 0 < tally counts c.args.source) (sym c.self.view_is) some) w.in-Err.ensures.absent)
]
