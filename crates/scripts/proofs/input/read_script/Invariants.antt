use Rattle.transport.proofs.Devices.{GaveSoFar}
use Rattle.scripts.proofs.input.read_script.Given as goal

abbrev pub invariant-loop : goal.invariant-loop
invariant-loop g l =
    GaveSoFar (g.R.Read.remaining l.initial.source.reader) (g.R.Read.remaining l.source.reader) l.script.items l.counter l.initial.source.failures l.source.failures
