-- When words ask for nothing.
use Rattle.std.proofs.Common.{ℕ, List, Err}
use Rattle.arguments.specs.declared.arguments.Arguments.{Arguments}
use Rattle.arguments.specs.declared.arguments.ArgumentsError.TheVariants.{Bad}
use Rattle.arguments.specs.Arguments.{AreArguments, AnswersArguments}
use Rattle.server.specs.Call.{AsksForNone}

-- the words are no arguments
pub bad_asks_none : (words : List (List ℕ)) → ((a : Arguments) → AreArguments words a → AnswersArguments (Err Bad) a) → AsksForNone words
bad_asks_none words only a are = only a are
