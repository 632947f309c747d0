-- How a run ends.
use Rattle.std.proofs.Common.{◌≡◌, ℕ, List, Option, Err, subst}
use Rattle.arguments.specs.declared.arguments.ArgumentsError.TheVariants as error
use Rattle.transport.specs.Devices.{SinkSeen}
use Rattle.arguments.specs.declared.udp_arguments.UdpArguments.{UdpArguments}
use Rattle.arguments.specs.UdpArguments.{AreUdpArguments, AnswersUdpArguments}
use Rattle.arguments.specs.declared.exit_status.ExitStatus.{ExitStatus}
use Rattle.arguments.specs.declared.exit_status.ExitStatus.TheVariants as status
use Rattle.udp_command.specs.UdpCall.{start_at, AsksFor, AsksForNone}
use Rattle.udp_command.specs.UdpEnds.{EndsAs, Runs}
use Rattle.udp_command.specs.UdpServing.{UdpOutcome, Serves}

module _ {W : Type 0} (contents : W → Option (List ℕ)) (o : UdpOutcome) (between after : SinkSeen W) (s : ExitStatus) (ends : EndsAs contents o between after s) where
  -- a call that was served, and its lines told
  pub ran : (words : List (List ℕ)) (before : SinkSeen W) (other : ExitStatus) → s ≡ other
      → AsksFor words (λ call. Serves contents (start_at call) call.workers call.count before between o)
      → AsksFor words (λ call. Runs contents call before after other)
  ran words before other same asked =
      let P : ExitStatus → Type 0 = λ t. EndsAs contents o between after t in record {
        call = asked.call;
        are_arguments = asked.are_arguments;
        holds = record { outcome = o; between = between; serves = asked.holds; ends = subst P same ends };
      }

  pub no_bad_arguments : s ≡ status.BadArguments → ⊥
  no_bad_arguments same = let P : ExitStatus → Type 0 = λ t. EndsAs contents o between after t in subst P same ends

  pub no_bad_script : s ≡ status.BadScript → ⊥
  no_bad_script same = let P : ExitStatus → Type 0 = λ t. EndsAs contents o between after t in subst P same ends

pub bad_asks_none : (words : List (List ℕ)) → ((a : UdpArguments) → AreUdpArguments words a → AnswersUdpArguments (Err error.Bad) a) → AsksForNone words
bad_asks_none words only a are = only a are
