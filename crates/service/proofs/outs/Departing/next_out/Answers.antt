use Rattle.std.proofs.Common.{[], ◌∙◌}
use Rattle.std.proofs.lemmas.List.{append-nil}
use Rattle.service.proofs.Departing.{takes_none}
use Rattle.service.proofs.outs.Departing.next_out.Goals as goal

pub returns-in-Some-clause-taken : goal.returns-in-Some-clause-taken
returns-in-Some-clause-taken g c = ([], takes_none _ _, append-nil c.args.self.now.outs.items ∙ c.in-Some.ensures.items)
