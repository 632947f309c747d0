use Rattle.std.proofs.Common.{◌≡◌, ◌<◌, ◌^◌, ◌++◌, length}
use Rattle.std.specs.Vec.Iter.{into_iter_items, into_iter_len}
use Rattle.server.specs.Hearing.{HasHeard}
use Rattle.server.proofs.hearing.hear.Given as goal

abbrev pub invariant-loop-block : goal.invariant-loop-block
invariant-loop-block l = record {
  all : l.yielded ++ into_iter_items l.block-iterator ≡ l.fn.blocks.items;
  sized : into_iter_len l.block-iterator ≡ length (into_iter_items l.block-iterator);
  fits : length l.fn.blocks.items < 2 ^ 63;
  so_far : HasHeard l.yielded l.hearing;
}
