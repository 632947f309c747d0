use Rattle.notifier.proofs.whole_run.play_on.Goals as goal

pub returns-in-Ok-handle_all : goal.returns-in-Ok-handle_all
returns-in-Ok-handle_all g c = c.in-Ok-handle_all.ensures.outs _ c.in-Ok.ensures.stands
