-- The program's arguments.
--
--   arguments = [] / "script" ["--seed" digits] ["--stop"] workers 1*mailbox
--
-- No arguments mean `script 1 alice`. The digits are 64 hex digits, of either case; without them the seed is zero. Where
-- `--stop` stands, the script ends with a planned stop. The workers are 1 to 256, in decimal without leading zeros. A
-- mailbox is any text.
use Rattle.std.specs.Prelude.{◌≡◌, ◌≢◌, ℕ, ◌≤◌, Bool, true, false, List, [], ◌∷◌, ◌++◌, codes, decimal, replicate, ◌⊎◌, Result, Ok, Err}
use Rattle.hex.specs.Hex.{decode_sized}
use Rattle.arguments.specs.declared.arguments.Arguments.{Arguments}
use Rattle.arguments.specs.declared.arguments.ArgumentsError.{ArgumentsError}
use Rattle.arguments.specs.declared.arguments.ArgumentsError.TheVariants as error

abbrev pub zero_seed : List ℕ
zero_seed = replicate 32 0

-- what no arguments mean
abbrev pub default_arguments : Arguments
default_arguments = record { seed = zero_seed; stop = false; workers = 1; mailboxes = codes "alice" ∷ [] }

-- the words that give this seed
abbrev pub IsSeed : List (List ℕ) → List ℕ → Type 0
IsSeed words seed =
    ((words ≡ []) × (seed ≡ zero_seed))
    ⊎ ((digits : List ℕ) × (words ≡ codes "--seed" ∷ digits ∷ []) × (decode_sized digits 32 ≡ Ok seed))

-- the words that ask for a stop
abbrev pub IsStop : List (List ℕ) → Bool → Type 0
IsStop words stop = ((words ≡ []) × (stop ≡ false)) ⊎ ((words ≡ codes "--stop" ∷ []) × (stop ≡ true))

pub record IsScriptCall (words : List (List ℕ)) (a : Arguments) : Type 0 where
  pub seed_words : List (List ℕ)
  pub is_seed : IsSeed seed_words a.seed
  pub stop_words : List (List ℕ)
  pub is_stop : IsStop stop_words a.stop
  pub from_one : 1 ≤ a.workers
  pub to_256 : a.workers ≤ 256
  pub some_mailbox : a.mailboxes ≢ []
  pub whole : words ≡ codes "script" ∷ (seed_words ++ (stop_words ++ decimal a.workers ∷ a.mailboxes))

-- the words mean this
abbrev pub AreArguments : List (List ℕ) → Arguments → Type 0
AreArguments words a = ((words ≡ []) × (a ≡ default_arguments)) ⊎ IsScriptCall words a

-- the call answered this, or memory ran out
abbrev pub AnswersArguments : Result Arguments ArgumentsError → Arguments → Type 0
AnswersArguments (Ok a) b = a ≡ b
AnswersArguments (Err error.NoMemory) b = Unit {0}
AnswersArguments (Err error.Bad) b = ⊥
