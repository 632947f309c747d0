use Rattle.std.proofs.Common.{refl, inl}
use Rattle.asking.proofs.Input.{tells_all}
use Rattle.asking.proofs.input_telling.tell_to.Goals as goal

pub returns-in-Ok : goal.returns-in-Ok
returns-in-Ok g c = record { told = inl (tells_all c.args.call c.in-Ok.telling.teller.speaker _ _ _ _ c.in-Ok.ensures.service c.in-Ok.ensures.progress refl c.tell_lines.ensures.told) }
