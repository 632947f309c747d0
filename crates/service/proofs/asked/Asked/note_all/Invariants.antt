use Rattle.std.proofs.Common.{take}
use Rattle.service.specs.Asked.{AreNoted}
use Rattle.service.proofs.asked.Asked.note_all.Given as goal

abbrev pub invariant-loop-out : goal.invariant-loop-out
invariant-loop-out l = AreNoted l.whom (take l.out-index l.outs) l.fn.self.answers.items l.self.answers.items
