use Rattle.scripts.specs.Reading.{control_of}
use Rattle.scripts.specs.Script.{IsControlLine}
use Rattle.scripts.proofs.Orders.{control_takes, control_again, close_bare, found_is, only_is, never_device}
use Rattle.scripts.proofs.parse.parse_control.Goals as goal

pub returns-clause-found : goal.returns-clause-found
returns-clause-found c =
    found_is (λ x. x) c.control_line.result (control_of c.args.bytes.now) (IsControlLine c.args.bytes.now) c.control_line.ensures.read (control_takes c.args.bytes.now)

pub returns-clause-only : goal.returns-clause-only
returns-clause-only c = λ k h.
    only_is (λ x. x) c.control_line.result (control_of c.args.bytes.now) k c.control_line.ensures.read (control_again c.args.bytes.now k h)

pub returns-clause-no_device : goal.returns-clause-no_device
returns-clause-no_device c = never_device (λ x. x) c.control_line.result (control_of c.args.bytes.now) c.control_line.ensures.read

pub returns-clause-close : goal.returns-clause-close
returns-clause-close c = λ h. c.control_line.ensures.close (close_bare c.args.bytes.now h)
