use Rattle.commands.proofs.Prompted.{nothing_more}
use Rattle.commands.proofs.prompt.Prompt.write_line.Goals as goal

pub returns-then-is_empty : goal.returns-then-is_empty
returns-then-is_empty g c = record { whole = nothing_more (g.F.Write.contents c.args.self.now.writer) c.args.self.now.line.items _ c.is_empty.ensures c.if-is_empty.true }
