use Rattle.queues.proofs.Ended.{ended_none}
use Rattle.examples_crew.proofs.running.GoingTaking.take_all.Goals as goal

pub emit-emitted-requires-clause-none_ended : goal.emit-emitted-requires-clause-none_ended
emit-emitted-requires-clause-none_ended g c = ended_none _ _ c.requires.none
