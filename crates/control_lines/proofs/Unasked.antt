-- Before anything was asked.
use Rattle.std.proofs.Common.{ℕ, List, [], Option, Some, None, refl, sym}
use Rattle.std.proofs.lemmas.List.{append-nil}
use Rattle.transport.specs.Wires.{Grows}
use Rattle.control_lines.specs.Asking.{SpeakerSeen, IsSilent}

grows_none : {T : Type 0} (known : Option (List T)) → Grows known known []
grows_none None = tt
grows_none (Some xs) = sym (append-nil xs)

pub silent_none : (line : List ℕ) (s : SpeakerSeen) → IsSilent 0 line s s
silent_none line s = record { asked = refl; turns = grows_none s.turns }
