use Rattle.std.proofs.Common.{◌≡◌, ◌-◌, map}
use Rattle.std.specs.List.{range_with_len}
use Rattle.arguments.specs.NumberRanges.{numeral}
use Rattle.arguments.proofs.number_range.NumberRange.numerals.Given as goal

abbrev pub invariant-loop-number : goal.invariant-loop-number
invariant-loop-number l = l.texts.items ≡ map (numeral l.self.width) (range_with_len l.self.first (l.number - l.self.first))
