use Rattle.commands.proofs.sockets.Standby.of.Goals as goal

pub returns-clause-open : goal.returns-clause-open
returns-clause-open c = c.in_ok-again.ensures.opened c.args.choices.now c.requires.open
