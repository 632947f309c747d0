use Rattle.crew.proofs.launching.fn.launch.spawn_with+FnOnce.call_once.Goals as goal

-- what the thread needs: that its types may be sent, and what the closure asks
pub spawn_with-requires : goal.spawn_with-requires
spawn_with-requires g c = let asked = c.requires.1.1.1 in let sent = asked.1 in (sent.0, (sent.1, (sent.2, (sent.3, asked.0))))
