use Rattle.commands.proofs.reloading.start_reader.Goals as goal

pub spawn_with-requires-clause-keeps : goal.spawn_with-requires-clause-keeps
spawn_with-requires-clause-keeps g c κs within r h = rw c.of.ensures h
