use Rattle.std.proofs.Common.{refl, inl}
use Rattle.service.specs.declared.lines.Handled.TheVariants as did
use Rattle.control_lines.specs.declared.answer.ControlAnswer.TheVariants as answer
use Rattle.service.proofs.Doing.{done_changed, done_found, done_none, done_reload, changed_anew, found_anew}
use Rattle.service.proofs.lines.take_line.Goals as goal

pub returns-in-Change-clause-done : goal.returns-in-Change-clause-done
returns-in-Change-clause-done g c =
    done_changed c.args.asking.most c.args.octets.now c.args.told.now c.send_change.new.told c.args.port.now c.send_change.new.port c.in-Change.change c.send_change.result c.in-Change.ensures c.send_change.ensures.done

pub returns-in-Question-clause-done : goal.returns-in-Question-clause-done
returns-in-Question-clause-done g c =
    done_found c.args.asking.most c.args.octets.now c.args.told.now c.args.port.now c.args.port.now c.in-Question.question c.find.result c.in-Question.ensures c.find.ensures

pub returns-in-Close-clause-done : goal.returns-in-Close-clause-done
returns-in-Close-clause-done g c = done_none c.args.asking.most c.args.octets.now c.args.told.now c.args.port.now c.args.port.now did.Closing (refl, c.in-Close.ensures)

pub returns-in-Nothing-clause-done : goal.returns-in-Nothing-clause-done
returns-in-Nothing-clause-done g c = done_none c.args.asking.most c.args.octets.now c.args.told.now c.args.port.now c.args.port.now did.Unanswered (refl, inl c.in-Nothing.ensures)

pub returns-in-Bad-clause-done : goal.returns-in-Bad-clause-done
returns-in-Bad-clause-done g c = done_none c.args.asking.most c.args.octets.now c.args.told.now c.args.port.now c.args.port.now (did.Answered answer.BadLine) (refl, c.in-Bad.ensures)

pub returns-in-NoMemory-clause-done : goal.returns-in-NoMemory-clause-done
returns-in-NoMemory-clause-done g c = done_none c.args.asking.most c.args.octets.now c.args.told.now c.args.port.now c.args.port.now (did.Answered answer.NoMemory) (refl, inl c.in-NoMemory.ensures)

pub returns-in-Reload-clause-done : goal.returns-in-Reload-clause-done
returns-in-Reload-clause-done g c = done_reload c.args.asking.most c.args.octets.now c.args.told.now c.args.port.now c.args.port.now c.reload.result c.in-Reload.ensures c.reload.ensures.reload

pub returns-in-Change-clause-begun : goal.returns-in-Change-clause-begun
returns-in-Change-clause-begun g c = λ a again.
    absurd (changed_anew c.args.asking.most c.in-Change.change c.args.told.now c.send_change.new.told c.args.port.now c.send_change.new.port c.send_change.result a c.send_change.ensures.done again)

pub returns-in-Question-clause-begun : goal.returns-in-Question-clause-begun
returns-in-Question-clause-begun g c = λ a again. absurd (found_anew c.args.told.now c.in-Question.question c.find.result a c.find.ensures again)
