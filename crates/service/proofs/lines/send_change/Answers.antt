use Rattle.std.proofs.Common.{sym, subst, refl, ap, ◌∙◌, List}
use Rattle.control_lines.specs.Told.{Row}
use Rattle.control_lines.specs.declared.answer.ControlAnswer.{ControlAnswer}
use Rattle.service.specs.Taken.{IsChanged, IsNotTakenIn, told_of}
use Rattle.service.proofs.Doing.{changed_sent, not_taken, untold}
use Rattle.service.proofs.lines.send_change.Goals as goal

pub returns-in-Err-clause-done : goal.returns-in-Err-clause-done
returns-in-Err-clause-done g c =
    not_taken c.args.asking.most c.args.change c.args.told.now c.take_in.new.told c.args.port.now c.in-Err.answer c.in-Err.ensures.refused c.in-Err.ensures.unchanged

pub returns-in-Some-clause-done : goal.returns-in-Some-clause-done
returns-in-Some-clause-done g c =
    let rows = c.tell.ensures ∙ ap (told_of c.args.change) c.in_default.ensures.made in
    subst (λ (rows : List Row). IsChanged c.args.asking.most c.args.change c.args.told.now rows c.args.port.now c.send.new.port c.send.result) (sym rows)
    (changed_sent c.args.asking.most c.args.change c.in-Some.event c.args.told.now c.args.port.now c.send.new.port c.send.result (sym c.in-Some.ensures) c.in_default.ensures.taken c.send.ensures.done)

pub returns-in-None-clause-done : goal.returns-in-None-clause-done
returns-in-None-clause-done g c =
    let none = sym c.in-None.ensures in
    (none, (c.tell.ensures ∙ ap (told_of c.args.change) c.in_default.ensures.made ∙ untold c.args.change c.args.told.now none, refl))
