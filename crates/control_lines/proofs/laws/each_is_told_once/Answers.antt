use Rattle.control_lines.proofs.Dumping.{told_once, stay_distinct}
use Rattle.control_lines.proofs.laws.each_is_told_once.Goals as goal

pub returns : goal.returns
returns c = record { once = told_once; distinct = stay_distinct }
