use Rattle.std.proofs.Common.{◌≤◌, length, ◌∙◌, arith}
use Rattle.service.proofs.Owning.{ended_next, ended_all}
use Rattle.service.proofs.owners.Owners.end_all.Goals as goal

pub loop-out-preserved : goal.loop-out-preserved
loop-out-preserved c =
    let was = c.loop-out.invariant in record {
      ended = λ t. ended_next t c.args.outs.now c.loop-out.out-index _ _ _ _ c.loop-out-test.true c.out-item.is (was.ended t) (c.end_last.ensures.ended t);
      passed = c.end_last.ensures.passed ∙ was.passed;
      second = c.end_last.ensures.second ∙ was.second;
    }

pub returns-clause-ended : goal.returns-clause-ended
returns-clause-ended c =
    let high : length c.args.outs.now ≤ c.loop-out.out-index = (let b = c.loop-out-test.false in omega arith) in
    λ t. ended_all t c.args.outs.now c.loop-out.out-index _ _ high (c.loop-out.invariant.ended t)
