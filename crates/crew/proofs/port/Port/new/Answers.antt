use Rattle.std.proofs.Common.{rules}
use Rattle.crew.proofs.AtHome.{none_home}
use Rattle.crew.proofs.port.Port.new.Goals as goal

pub invariant_of-result : goal.invariant_of-result
invariant_of-result c = (search rules, search rules, search rules, none_home c.new.result.items c.new-2.result.items (search rules) (search rules))
