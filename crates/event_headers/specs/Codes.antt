-- The numbers of the refusals.
use Rattle.std.specs.Prelude.{ℕ}
use Rattle.event_headers.specs.declared.error.HeaderError.{HeaderError}
use Rattle.event_headers.specs.declared.error.HeaderError.TheVariants as errors

abbrev pub header_number : HeaderError → ℕ
header_number errors.Grammar = 1
header_number errors.TooLarge = 2
header_number errors.NoMemory = 3
