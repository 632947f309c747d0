use Rattle.std.proofs.Common.{◌≡◌, ◌≤◌, length, arith}
use Rattle.notifier.proofs.Resumed.{kept_push}
use Rattle.notifier.specs.Transactions.{key_of}
use Rattle.notifier.proofs.resume.keep_all.Goals as goal

pub loop-answer-preserved : goal.loop-answer-preserved
loop-answer-preserved c =
    let few : length c.args.kept.items ≤ c.args.limits.now.kept = omega (arith, c.requires, c.args.kept.ok.0) in
    kept_push c.args.limits.now c.loop-answer.ring c.keep.new.self c.pop.new.self.items c.loop-answer.left.items c.args.kept.items c.in-Some.answer (key_of c.in_ok-transaction.transaction)
    c.in_ok-transaction.ensures c.loop-answer.invariant.1 c.in-Some.ensures.items c.loop-answer.invariant.0 few (c.in_ok-keep.ensures c.args.limits.now c.loop-answer.invariant.1)
