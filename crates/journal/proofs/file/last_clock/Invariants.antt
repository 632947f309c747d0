use Rattle.std.proofs.Common.{◌≡◌, take, None}
use Rattle.std.specs.Prelude.{fold}
use Rattle.journal.specs.Generations.{clock_after}
use Rattle.journal.proofs.file.last_clock.Given as goal

abbrev pub invariant-loop-entry : goal.invariant-loop-entry
invariant-loop-entry l = l.last ≡ fold clock_after None (take l.entry-index l.records)
