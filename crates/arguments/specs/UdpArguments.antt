-- The arguments of the program on the network.
--
--   arguments = "udp" ["--seed" digits] ["--stop"] port control-port workers count 1*mailbox
--
-- The ports are 1 to 65535, the workers 1 to 256, and the count is that of the datagrams to be read, below 2^32; all in decimal
-- without leading zeros. The digits, `--stop` and the mailboxes are those of a script's arguments.
use Rattle.std.specs.Prelude.{◌≡◌, ◌≢◌, ℕ, ◌≤◌, ◌<◌, ◌^◌, List, [], ◌∷◌, ◌++◌, codes, decimal, Result, Ok, Err}
use Rattle.arguments.specs.declared.udp_arguments.UdpArguments.{UdpArguments}
use Rattle.arguments.specs.declared.arguments.ArgumentsError.{ArgumentsError}
use Rattle.arguments.specs.declared.arguments.ArgumentsError.TheVariants as error
use Rattle.arguments.specs.Arguments.{IsSeed, IsStop}

-- a number from 1 to this most
abbrev pub IsFromOne : ℕ → ℕ → Type 0
IsFromOne most n = (1 ≤ n) × (n ≤ most)

-- the words mean this
pub record AreUdpArguments (words : List (List ℕ)) (a : UdpArguments) : Type 0 where
  pub seed_words : List (List ℕ)
  pub is_seed : IsSeed seed_words a.seed
  pub stop_words : List (List ℕ)
  pub is_stop : IsStop stop_words a.stop
  pub is_port : IsFromOne 65535 a.port
  pub is_control_port : IsFromOne 65535 a.control_port
  pub few_workers : IsFromOne 256 a.workers
  pub is_count : a.count < 2 ^ 32
  pub some_mailbox : a.mailboxes ≢ []
  pub whole : words ≡ codes "udp" ∷ (seed_words ++ (stop_words
      ++ decimal a.port ∷ decimal a.control_port ∷ decimal a.workers ∷ decimal a.count ∷ a.mailboxes))

-- the call answered this, or memory ran out
abbrev pub AnswersUdpArguments : Result UdpArguments ArgumentsError → UdpArguments → Type 0
AnswersUdpArguments (Ok a) b = a ≡ b
AnswersUdpArguments (Err error.NoMemory) b = Unit {0}
AnswersUdpArguments (Err error.Bad) b = ⊥
