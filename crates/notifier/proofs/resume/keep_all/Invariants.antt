use Rattle.std.proofs.Common.{◌≡◌, ◌++◌, vec_len}
use Rattle.notifier.proofs.resume.keep_all.Given as goal

abbrev pub invariant-loop-answer : goal.invariant-loop-answer
invariant-loop-answer l = (l.left.items ++ l.ring.items ≡ l.fn.kept.items) × (l.ring.capacity ≡ l.limits.kept)

abbrev pub decreases-loop-answer : goal.decreases-loop-answer
decreases-loop-answer l = vec_len l.left
