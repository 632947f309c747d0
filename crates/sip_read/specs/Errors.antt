-- Numbers of errors.
use Rattle.std.specs.Prelude.{ℕ}
use Rattle.sip_read.specs.declared.error.ReadError.{ReadError}
use Rattle.sip_read.specs.declared.error.ReadError.TheVariants as errors

abbrev pub error_number : ReadError → ℕ
error_number errors.NotSip = 1
error_number errors.BadLine = 2
error_number (errors.Missing name) = 3
error_number (errors.Twice name) = 4
error_number errors.ShortBody = 5
error_number errors.TooLong = 6
error_number errors.NoMemory = 7
