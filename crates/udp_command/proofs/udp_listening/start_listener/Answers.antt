use Rattle.udp_command.proofs.udp_listening.start_listener.Goals as goal

pub spawn_with-requires-clause-keeps : goal.spawn_with-requires-clause-keeps
spawn_with-requires-clause-keeps g c κs within r h = rw c.of.ensures h
