use Rattle.notifier.proofs.Resumed.{SoFar}
use Rattle.notifier.proofs.resume.are_timely.Given as goal

abbrev pub invariant-loop-notify : goal.invariant-loop-notify
invariant-loop-notify l = SoFar l.clock l.notifys l.notify-index l.latest
