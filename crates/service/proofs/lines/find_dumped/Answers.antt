use Rattle.service.proofs.Doing.{behind_is, behind_none}
use Rattle.service.proofs.lines.find_dumped.Goals as goal

pub returns-in-Some : goal.returns-in-Some
returns-in-Some c = rw c.as_str.ensures at (behind_is _ c.in-Some.place c.in-Some.ensures)

pub returns-in-None : goal.returns-in-None
returns-in-None c = rw c.as_str.ensures at (behind_none _ c.in-None.ensures)
