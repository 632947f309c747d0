use Rattle.scripts.specs.Reading.{blocks_of}
use Rattle.scripts.specs.Script.{IsScript}
use Rattle.scripts.proofs.Blocks.{script_takes, script_again}
use Rattle.scripts.proofs.Orders.{found_is, only_is, never_device}
use Rattle.scripts.proofs.parse.parse_script.Goals as goal

pub returns-clause-found : goal.returns-clause-found
returns-clause-found c =
    found_is (λ v. v.items) c.all_blocks.result (blocks_of c.args.bytes.now) (IsScript c.args.bytes.now) c.all_blocks.ensures (script_takes c.args.bytes.now)

pub returns-clause-only : goal.returns-clause-only
returns-clause-only c = λ blocks h.
    only_is (λ v. v.items) c.all_blocks.result (blocks_of c.args.bytes.now) blocks c.all_blocks.ensures (script_again c.args.bytes.now blocks h)

pub returns-clause-no_device : goal.returns-clause-no_device
returns-clause-no_device c = never_device (λ v. v.items) c.all_blocks.result (blocks_of c.args.bytes.now) c.all_blocks.ensures
