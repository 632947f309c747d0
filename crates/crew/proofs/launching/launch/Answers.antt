use Rattle.crew.proofs.launching.launch.Goals as goal

pub spawn_with-requires-clause-keeps : goal.spawn_with-requires-clause-keeps
spawn_with-requires-clause-keeps g c κs within r h = rw (c.of.ensures, c.of-2.ensures) (h _ c.requires.desk c.requires.stop)
