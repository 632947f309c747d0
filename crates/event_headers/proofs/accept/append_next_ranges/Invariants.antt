use Rattle.std.proofs.Common.{◌≡◌, ◌++◌, take, string_bytes}
use Rattle.event_headers.specs.Written.{next_ranges}
use Rattle.event_headers.proofs.accept.append_next_ranges.Given as goal

abbrev pub invariant-loop-range : goal.invariant-loop-range
invariant-loop-range l = string_bytes l.out ≡ string_bytes l.fn.out ++ next_ranges (take l.range-index l.ranges)
