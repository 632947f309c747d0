use Rattle.scripts.proofs.Orders.{exact_script, exact_control_line}
use Rattle.scripts.proofs.parse.one_reading.Goals as goal

pub returns-clause-script : goal.returns-clause-script
returns-clause-script c = exact_script

pub returns-clause-control_line : goal.returns-clause-control_line
returns-clause-control_line c = exact_control_line
