use Rattle.std.proofs.Common.{Err, ap, inl, inr}
use Rattle.arguments.specs.declared.exit_status.ExitStatus.TheVariants as status
use Rattle.udp_command.specs.UdpRunning.{outcome_of}
use Rattle.udp_command.proofs.UdpEnded.{ran, no_bad_arguments, no_bad_script}
use Rattle.udp_command.proofs.udp.run.Goals as goal

pub returns-in-Ok-clause-done : goal.returns-in-Ok-clause-done
returns-in-Ok-clause-done g c = λ is.
    ran g.F.Write.contents (outcome_of c.in-Ok.served) c.attempt.new.sink c.close_off.new.sink c.close_off.result c.close_off.ensures c.args.words.now c.args.sink.now status.Done is c.in-Ok.ensures.served

pub returns-in-Ok-clause-bad_arguments : goal.returns-in-Ok-clause-bad_arguments
returns-in-Ok-clause-bad_arguments g c = λ is.
    absurd (no_bad_arguments g.F.Write.contents (outcome_of c.in-Ok.served) c.attempt.new.sink c.close_off.new.sink c.close_off.result c.close_off.ensures is)

pub returns-in-Ok-clause-no_script : goal.returns-in-Ok-clause-no_script
returns-in-Ok-clause-no_script g c =
    no_bad_script g.F.Write.contents (outcome_of c.in-Ok.served) c.attempt.new.sink c.close_off.new.sink c.close_off.result c.close_off.ensures

pub returns-in-Ok-clause-device : goal.returns-in-Ok-clause-device
returns-in-Ok-clause-device g c = λ is.
    let asked = ran g.F.Write.contents (outcome_of c.in-Ok.served) c.attempt.new.sink c.close_off.new.sink c.close_off.result c.close_off.ensures c.args.words.now c.args.sink.now status.DeviceFault is c.in-Ok.ensures.served in
    record { call = asked.call; are_arguments = asked.are_arguments; holds = inr asked.holds }

pub returns-in-Ok-clause-memory : goal.returns-in-Ok-clause-memory
returns-in-Ok-clause-memory g c = λ is.
    inr (ran g.F.Write.contents (outcome_of c.in-Ok.served) c.attempt.new.sink c.close_off.new.sink c.close_off.result c.close_off.ensures c.args.words.now c.args.sink.now status.OutOfMemory is c.in-Ok.ensures.served)

pub returns-in-Err-clause-bad_arguments : goal.returns-in-Err-clause-bad_arguments
returns-in-Err-clause-bad_arguments g c = λ is. (c.in-Err.ensures.bad_arguments (ap Err is), c.in-Err.ensures.unwritten)

pub returns-in-Err-clause-device : goal.returns-in-Err-clause-device
returns-in-Err-clause-device g c = λ is.
    let asked = c.in-Err.ensures.device (ap Err is) in
    record { call = asked.call; are_arguments = asked.are_arguments; holds = inl asked.holds }

pub returns-in-Err-clause-memory : goal.returns-in-Err-clause-memory
returns-in-Err-clause-memory g c = λ is. inl c.in-Err.ensures.unwritten
