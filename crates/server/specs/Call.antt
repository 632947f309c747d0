-- What the program starts from.
use Rattle.std.specs.Prelude.{ℕ, Bool, List}
use Rattle.arguments.specs.declared.arguments.Arguments.{Arguments}
use Rattle.arguments.specs.Arguments.{AreArguments}
use Rattle.notifier_model.specs.declared.place.Setup.{Setup}
use Rattle.notifier_model.specs.Start.{Start}
use Rattle.server.specs.Runs.{starts_on}
use Rattle.arguments.specs.Setup.{loopback_setup, dealt_boxes}

-- of a script they are at port 5060
abbrev pub setup_for : List ℕ → Bool → Setup
setup_for seed stop = loopback_setup 5060 seed stop

abbrev pub starts_for : Arguments → List Start
starts_for a = starts_on (setup_for a.seed a.stop) (dealt_boxes a.workers a.mailboxes)

-- the words ask for a run from starts of which P holds
pub record AsksFor (words : List (List ℕ)) (P : List Start → Type 0) : Type 0 where
  pub arguments : Arguments
  pub are_arguments : AreArguments words arguments
  pub holds : P (starts_for arguments)

-- the words ask for nothing that the program does
abbrev pub AsksForNone : List (List ℕ) → Type 0
AsksForNone words = (a : Arguments) → AreArguments words a → ⊥
