use Rattle.std.proofs.Common.{◌≡◌, ◌<◌, ◌^◌, take}
use Rattle.arguments.specs.NumberRanges.{numeral}
use Rattle.arguments.proofs.number_range.parse_number.Given as goal

abbrev pub invariant-loop-digit : goal.invariant-loop-digit
invariant-loop-digit l = record {
  written : take l.digit-index l.digits ≡ numeral l.digit-index l.number;
  fits : l.number < 10 ^ l.digit-index;
}
