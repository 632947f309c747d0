use Rattle.std.proofs.Common.{◌≡◌, map, take}
use Rattle.notifier_model.specs.declared.event.Event.TheVariants as event
use Rattle.resumption.specs.Noted.{handled_all}
use Rattle.resumption.proofs.desks.note_lines.Given as goal

abbrev pub invariant-loop-change : goal.invariant-loop-change
invariant-loop-change l = l.keeper ≡ handled_all l.worker (map (λ c. event.Mail c) (take l.change-index l.lines)) l.initial.keeper
