use Rattle.std.proofs.Common.{◌≡◌, ◌++◌, map, Some}
use Rattle.std.specs.Vec.Iter.{into_iter_items}
use Rattle.notifier.specs.Held.{seen_by}
use Rattle.resumption.specs.Accounts.{all_stand, all_unanswered}
use Rattle.resumption.proofs.Noting.{so_far}
use Rattle.resumption.proofs.desks.replay.Given as goal

abbrev pub invariant-loop-account : goal.invariant-loop-account
invariant-loop-account g l = record {
  whole : l.yielded ++ into_iter_items l.account-iterator ≡ l.fn.accounts.items;
  stands : map (seen_by g.P.Package.seen) l.replayed.desks.items ≡ map (λ s. Some s) (all_stand l.worked l.yielded);
  unanswered : l.replayed.unanswered.items ≡ all_unanswered l.worked l.yielded;
  kept : l.replayed.keeper ≡ so_far l.yielded (into_iter_items l.account-iterator);
}
