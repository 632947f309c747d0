use Rattle.std.proofs.Common.{◌≡◌, ◌++◌}
use Rattle.std.specs.Vec.Iter.{into_iter_items}
use Rattle.crew.specs.Loop.{posts_all}
use Rattle.crew.proofs.hand.Batch.post.Given as goal

abbrev pub invariant-loop-out : goal.invariant-loop-out
invariant-loop-out g l = record {
  whole : l.yielded ++ into_iter_items l.out-iterator ≡ l.fn.self.outs.items;
  posts : l.poster ≡ posts_all l.fn.poster l.yielded;
}
