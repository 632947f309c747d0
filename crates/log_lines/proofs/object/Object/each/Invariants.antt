use Rattle.std.proofs.Common.{◌≡◌, ◌++◌, take}
use Rattle.log_lines.specs.Objects.{each}
use Rattle.log_lines.proofs.object.Object.each.Given as goal

abbrev pub invariant-loop-count : goal.invariant-loop-count
invariant-loop-count l =
    (l.self.writer.before ≡ l.fn.self.writer.before)
    × (l.self.writer.tokens ≡ l.fn.self.writer.tokens ++ each (take l.count-index l.counts))
