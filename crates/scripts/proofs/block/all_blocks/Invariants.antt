use Rattle.std.proofs.Common.{◌≡◌, length}
use Rattle.scripts.specs.Reading.{blocks_of}
use Rattle.sip_text.proofs.Repeats.{with_front}
use Rattle.scripts.proofs.block.all_blocks.Given as goal

abbrev pub invariant-loop-rest : goal.invariant-loop-rest
invariant-loop-rest l = with_front l.blocks.items (blocks_of l.rest) ≡ blocks_of l.bytes

abbrev pub decreases-loop-rest : goal.decreases-loop-rest
decreases-loop-rest l = length l.rest
