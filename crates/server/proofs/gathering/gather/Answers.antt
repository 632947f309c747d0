use Rattle.std.proofs.Common.{◌-◌, length, arith}
use Rattle.crew.proofs.Keeping.{taking_first, all_taken, took_as}
use Rattle.server.proofs.Kept.{gathers_first, gathers_out, gathers_end, out_below}
use Rattle.server.proofs.gathering.gather.Goals as goal

pub loop-init : goal.loop-init
loop-init g c =
    let taker = c.args.taker.now in let works = c.args.works.now in
    gathers_first taker (length works) works (taking_first taker (length works) c.requires.none c.requires.new.len) c.requires.none c.requires.new

pub returns-then-left-eq0-clause-ended : goal.returns-then-left-eq0-clause-ended
returns-then-left-eq0-clause-ended g c = all_taken c.args.taker.now c.loop.taker c.loop.left c.loop.invariant.taking c.if-left-eq0.true

pub keep-is_kept-requires : goal.keep-is_kept-requires
keep-is_kept-requires g c = let at = c.in-Some-Out in out_below c.loop.invariant _ _ (took_as _ _ _ _ at.field-0-is at.ensures)

pub loop-preserved-in-Some-Ended : goal.loop-preserved-in-Some-Ended
loop-preserved-in-Some-Ended g c =
    let some = c.if-left-eq0.false in let at = c.in-Some-Ended in
    gathers_end c.loop.invariant (c.loop.left - 1) _ (took_as _ _ _ _ at.field-0-is at.ensures) (omega arith)

pub loop-preserved-then-is_whole : goal.loop-preserved-then-is_whole
loop-preserved-then-is_whole g c =
    let at = c.in-Some-Out in let kept = c.keep-is_kept in
    gathers_out c.loop.invariant _ _ kept.result kept.result kept.new.works (took_as _ _ _ _ at.field-0-is at.ensures) kept.ensures.len kept.ensures.kept (λ now. (c.if-is_whole.true, now))

pub loop-preserved-else-is_whole : goal.loop-preserved-else-is_whole
loop-preserved-else-is_whole g c =
    let at = c.in-Some-Out in let kept = c.keep-is_kept in
    gathers_out c.loop.invariant _ _ kept.result c.loop.is_whole kept.new.works (took_as _ _ _ _ at.field-0-is at.ensures) kept.ensures.len kept.ensures.kept (λ now. let not = c.if-is_whole.false in absurd cc)
