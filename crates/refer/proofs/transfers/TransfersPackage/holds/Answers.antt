use Rattle.std.proofs.Common.{sym, ◌∙◌}
use Rattle.package.proofs.Held.{some_held}
use Rattle.refer.specs.Transfers.{content_of}
use Rattle.refer.proofs.transfers.TransfersPackage.holds.Goals as goal

pub returns : goal.returns
returns c = c.contains_key.ensures ∙ sym (some_held content_of c.args.self.now.transfers.entries c.args.resource.now)
