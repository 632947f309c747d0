use Rattle.commands.proofs.program.run.Goals as goal

pub returns-clause-ran : goal.returns-clause-ran
returns-clause-ran g c = λ d. record { wire = _; wire' = _; runs = c.in_ok-outcome.ensures.runs d }
