-- The numbers of errors.
use Rattle.std.specs.Prelude.{ℕ, ◌+◌}
use Rattle.digest.specs.declared.error.CredentialsError.{CredentialsError}
use Rattle.digest.specs.declared.error.CredentialsError.TheVariants as error
use Rattle.digest.specs.Directives.{directive_number}

abbrev pub error_number : CredentialsError → ℕ
error_number error.NoMemory = 1
error_number error.OtherScheme = 2
error_number error.Malformed = 3
error_number (error.Twice d) = 100 + directive_number d
error_number (error.Missing d) = 200 + directive_number d
error_number (error.Bad d) = 300 + directive_number d
