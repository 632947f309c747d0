-- What a run on the network is asked for, and what its workers start from.
use Rattle.std.specs.Prelude.{ℕ, List}
use Rattle.arguments.specs.declared.udp_arguments.UdpArguments.{UdpArguments}
use Rattle.arguments.specs.UdpArguments.{AreUdpArguments}
use Rattle.notifier_model.specs.Start.{Start, place_of}
use Rattle.arguments.specs.Setup.{loopback_setup, made_boxes, dealt_names}

-- a worker: at the first port, with the mailboxes whose keys go to it, each with no class set, and no transfer
abbrev pub start_at : UdpArguments → ℕ → Start
start_at call worker = record {
  place = place_of (loopback_setup call.port call.seed call.stop) worker;
  boxes = made_boxes (dealt_names call.workers worker call.mailboxes);
}

-- the words ask for a run of which P holds
pub record AsksFor (words : List (List ℕ)) (P : UdpArguments → Type 0) : Type 0 where
  pub call : UdpArguments
  pub are_arguments : AreUdpArguments words call
  pub holds : P call

-- the words ask for no run on the network
abbrev pub AsksForNone : List (List ℕ) → Type 0
AsksForNone words = (call : UdpArguments) → AreUdpArguments words call → ⊥
