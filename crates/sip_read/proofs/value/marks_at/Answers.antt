use Rattle.std.proofs.Common.{◌≡◌, true, false}
use Rattle.sip_text.specs.Reading.{begins, after_spaces}
use Rattle.sip_text.specs.Views.{view}
use Rattle.sip_text.proofs.Lists.{parameter_shortens}
use Rattle.sip_read.specs.Views.{marks as marks_seen}
use Rattle.sip_read.specs.ViasComputed.{marks_with, marks_at}
use Rattle.sip_read.proofs.Marks.{starts, goes_on, fails, is_done}
use Rattle.sip_read.proofs.value.marks_at.Goals as goal

pub loop-rest-init : goal.loop-rest-init
loop-rest-init c = starts c.args.text.now

pub returns-in_err-parameter : goal.returns-in_err-parameter
returns-in_err-parameter c =
    let b : begins 59 (after_spaces c.loop-rest.rest.now) ≡ true = cc in
    rw c.from_residual.ensures (fails (marks_seen c.loop-rest.marks) c.loop-rest.rest.now (marks_at c.args.text.now) c.loop-rest.invariant b c.in_err-parameter.ensures)

pub loop-rest-smaller : goal.loop-rest-smaller
loop-rest-smaller c = parameter_shortens c.loop-rest.rest.now (view c.in_ok-parameter.parameter) c.in_ok-parameter.after.now c.in_ok-parameter.ensures

pub loop-rest-preserved : goal.loop-rest-preserved
loop-rest-preserved c =
    let b : begins 59 (after_spaces c.loop-rest.rest.now) ≡ true = cc in
    let e : marks_seen c.with-marks.result ≡ marks_with (marks_seen c.loop-rest.marks) (view c.in_ok-parameter.parameter) = c.with-marks.ensures in
    rw e (goes_on (marks_seen c.loop-rest.marks) c.loop-rest.rest.now (marks_at c.args.text.now) c.loop-rest.invariant b (view c.in_ok-parameter.parameter) c.in_ok-parameter.after.now c.in_ok-parameter.ensures)

pub returns : goal.returns
returns c =
    let b : begins 59 (after_spaces c.loop-rest.rest.now) ≡ false = cc in
    is_done (marks_seen c.loop-rest.marks) c.loop-rest.rest.now (marks_at c.args.text.now) c.loop-rest.invariant b
