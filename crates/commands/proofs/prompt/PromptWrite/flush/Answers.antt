use Rattle.commands.proofs.Prompted.{whole_then}
use Rattle.commands.proofs.prompt.PromptWrite.flush.Goals as goal

pub returns-in-Ok-clause-whole : goal.returns-in-Ok-clause-whole
returns-in-Ok-clause-whole g c =
    whole_then c.write_line-written.result c.flush.result _ (g.F.Write.contents c.args.self.now.writer) (g.F.Write.contents c.write_line-written.new.self.writer) (g.F.Write.contents c.flush.new.self)
    c.args.self.now.line.items c.in-Ok.is c.write_line-written.ensures.whole c.flush.ensures.bytes
