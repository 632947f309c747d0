use Rattle.std.proofs.Common.{◌≡◌}
use Rattle.notifier.specs.Held.{seen_by}
use Rattle.crew.proofs.Loops.{Running}
use Rattle.crew.proofs.hand.handle_all.Given as goal

abbrev pub invariant-loop : goal.invariant-loop
invariant-loop g l = record {
  running : Running (seen_by g.P.Package.seen l.fn.hand.desk) l.fn.receiver l.receiver l.fn.hand.poster l.hand.poster l.left (seen_by g.P.Package.seen l.hand.desk) l.hand.handled l.hand.made;
  stop : l.hand.stop ≡ l.fn.hand.stop;
}
