use Rattle.std.proofs.Common.{◌≡◌, ◌+◌, take}
use Rattle.admission.specs.Texts.{lines_length}
use Rattle.admission.proofs.judging.room_behind.Given as goal

abbrev pub invariant-loop-value : goal.invariant-loop-value
invariant-loop-value l = l.left + lines_length (take l.value-index l.values) ≡ l.room
