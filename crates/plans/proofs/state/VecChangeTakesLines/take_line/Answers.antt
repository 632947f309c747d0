use Rattle.plans.proofs.ToldLines.{adds_told}
use Rattle.plans.proofs.state.VecChangeTakesLines.take_line.Goals as goal

pub returns-clause-sound : goal.returns-clause-sound
returns-clause-sound c =
    adds_told _ c.args.self.now.items c.add_told.new.changes.items c.requires.sound c.in_ok-add_told.ensures.added
