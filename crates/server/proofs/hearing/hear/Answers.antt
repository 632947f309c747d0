use Rattle.std.proofs.Common.{◌≡◌, ◌∷◌, [], ap, ◌∙◌, append_assoc, arith, length}
use Rattle.std.specs.Vec.Iter.{into_iter_items}
use Rattle.server.proofs.Heard.{datagrams-few}
use Rattle.server.proofs.hearing.hear.Goals as goal

pub block-requires : goal.block-requires
block-requires c =
    let at = c.loop-block in
    datagrams-few at.yielded (into_iter_items at.block-iterator) c.args.blocks.items at.hearing at.invariant.all at.invariant.fits at.invariant.so_far

pub loop-block-preserved : goal.loop-block-preserved
loop-block-preserved c =
    let at = c.loop-block in
    let block = c.in-Some.block in
    let steps : into_iter_items at.block-iterator ≡ block ∷ into_iter_items c.next.new.self = c.in-Some.ensures.steps.0 in
    record {
      all = append_assoc at.yielded (block ∷ []) _ ∙ rw (← steps) at.invariant.all;
      sized = let was = at.invariant.sized in let gone = c.in-Some.ensures.steps.1 in let short = ap length steps in omega arith;
      fits = at.invariant.fits;
      so_far = c.in_ok-block.ensures at.yielded at.invariant.so_far;
    }
