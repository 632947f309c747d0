use Rattle.std.proofs.Common.{ℕ, None, inr, get_or, sym, ap, ◌∙◌, arith}
use Rattle.crew.specs.Desks.{standing_of}
use Rattle.service.specs.Releasing.{waits}
use Rattle.service.specs.Running.{opening}
use Rattle.service.proofs.Ran.{on_ok, on_err, no_other, begun_is, runs_with, runs_as, leaves_with, leaves_as, fresh_with}
use Rattle.service.proofs.running.run_crew.Goals as goal

pub run_to_end-requires-clause-some : goal.run_to_end-requires-clause-some
run_to_end-requires-clause-some g c κs within =
    let some = c.in_ok-running.ensures.some in let size = c.in_ok-running.ensures.workers in omega arith

pub run_to_end-requires-clause-new : goal.run_to_end-requires-clause-new
run_to_end-requires-clause-new g c κs within =
    (λ w. standing_of g.P.Package.seen (get_or c.args.desks.items w None), c.in_ok-running.ensures.begun None)

pub run_to_end-requires-clause-none_put : goal.run_to_end-requires-clause-none_put
run_to_end-requires-clause-none_put g c κs within =
    ap (λ waiting. waiting.burst.items) c.in_ok-running.ensures.waiting ∙ c.in_ok-sources.ensures.none_put

pub run_to_end-requires-clause-none_waits : goal.run_to_end-requires-clause-none_waits
run_to_end-requires-clause-none_waits g c κs within =
    λ tag. ap (λ waiting. waits waiting.contacts tag) c.in_ok-running.ensures.waiting ∙ c.in_ok-sources.ensures.none_waits tag

pub run_to_end-requires-clause-unfailed : goal.run_to_end-requires-clause-unfailed
run_to_end-requires-clause-unfailed g c κs within = ap (λ stopwatch. stopwatch.failures) c.in_ok-sources.ensures.stopwatch

pub returns-clause-runs : goal.returns-clause-runs
returns-clause-runs g c =
    let made = c.in_ok-sources.ensures in let run = c.in_ok-running.ensures in
    on_ok c.run_to_end.result c.run_to_end.ensures.served
    (λ o runs d.
    runs_as (begun_is (λ (w : ℕ). standing_of g.P.Package.seen (get_or c.args.desks.items w d)) _ _ c.args.work.repeats c.args.work.begins (ap (λ waiting. waiting.transactions) run.waiting ∙ made.first) (ap (λ stopwatch. stopwatch.tick) made.stopwatch)) (ap (λ sip. sip.admission) made.sip)
    (runs_with run.workers (runs _ (run.begun d) (opening c.args.work.desk) (fresh_with (c.len-workers.ensures ∙ sym run.workers) made.fresh))))

pub returns-clause-no_memory : goal.returns-clause-no_memory
returns-clause-no_memory g c = λ e. no_other c.run_to_end.result _ _ c.run_to_end.ensures.refused e (λ same. cc)

pub returns-clause-bad_desk : goal.returns-clause-bad_desk
returns-clause-bad_desk g c = λ worker e. no_other c.run_to_end.result _ _ c.run_to_end.ensures.refused e (λ same. cc)

pub returns-clause-no_thread : goal.returns-clause-no_thread
returns-clause-no_thread g c =
    let made = c.in_ok-sources.ensures in let run = c.in_ok-running.ensures in
    on_err c.run_to_end.result c.run_to_end.ensures.left
    (λ left. inr (λ d.
    leaves_as (begun_is (λ (w : ℕ). standing_of g.P.Package.seen (get_or c.args.desks.items w d)) _ _ c.args.work.repeats c.args.work.begins (ap (λ waiting. waiting.transactions) run.waiting ∙ made.first) (ap (λ stopwatch. stopwatch.tick) made.stopwatch))
    (leaves_with run.workers (left _ (run.begun d)))))

pub returns-clause-workers : goal.returns-clause-workers
returns-clause-workers g c = on_ok c.run_to_end.result c.run_to_end.ensures.served (λ o runs. c.in_ok-running.ensures.some)
