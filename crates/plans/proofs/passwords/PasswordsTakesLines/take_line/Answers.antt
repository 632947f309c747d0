use Rattle.plans.proofs.Heard.{table_more}
use Rattle.plans.proofs.passwords.PasswordsTakesLines.take_line.Goals as goal

pub returns-in-Ok-clause-sound : goal.returns-in-Ok-clause-sound
returns-in-Ok-clause-sound c = table_more c.args.self.now c.add_line.new.self c.args.line.text.now c.requires.sound c.in-Ok.ensures.ok
