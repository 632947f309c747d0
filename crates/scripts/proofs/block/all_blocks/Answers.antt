use Rattle.std.proofs.Common.{◌≡◌, ◌<◌, length, arith}
use Rattle.std.proofs.lemmas.Bool.Decides.{nat_tests}
use Rattle.std.proofs.lemmas.Result.{err_from_is_err_and}
use Rattle.scripts.specs.Reading.{block_at, blocks_at, blocks_of}
use Rattle.sip_text.proofs.Repeats.{goes_on, is_done}
use Rattle.scripts.proofs.Blocks.{ends, blocks_repeat, block_shortens}
use Rattle.scripts.proofs.block.all_blocks.Goals as goal

pub returns-in_err-block : goal.returns-in_err-block
returns-in_err-block c =
    let p = err_from_is_err_and c.from_residual.result c.from_residual.ensures.1 in
    let some : 0 < length c.loop-rest.rest.now = grind (arith, nat_tests) in
    rw (p.1, p.2) (ends c.loop-rest.blocks.items c.loop-rest.rest.now (blocks_of c.args.bytes.now) c.in_err-block.field-0.0 c.loop-rest.invariant some c.in_err-block.ensures)

pub loop-rest-smaller : goal.loop-rest-smaller
loop-rest-smaller c = block_shortens c.loop-rest.rest.now c.in_ok-block.block c.in_ok-block.after.now c.in_ok-block.ensures

pub loop-rest-preserved : goal.loop-rest-preserved
loop-rest-preserved c =
    rw c.in_ok-push.ensures.items (goes_on block_at blocks_at blocks_repeat c.loop-rest.blocks.items c.loop-rest.rest.now (blocks_of c.args.bytes.now) c.loop-rest.invariant c.in_ok-block.block c.in_ok-block.after.now c.in_ok-block.ensures)

pub returns : goal.returns
returns c =
    let none : length c.loop-rest.rest.now ≡ 0 = grind (arith, nat_tests) in
    is_done block_at blocks_at blocks_repeat c.loop-rest.blocks.items c.loop-rest.rest.now (blocks_of c.args.bytes.now) c.loop-rest.invariant none
