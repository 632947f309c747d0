use Rattle.std.proofs.Common.{◌≡◌, Ok, Err, refl}
use Rattle.service.proofs.Ran.{started_with}
use Rattle.service.proofs.running.start_running.Goals as goal

ok_is_no_err : {A B : Type 0} {a : A} {b : B} → Ok a ≡ Err b → ⊥
ok_is_no_err e = cc

pub returns-clause-begun : goal.returns-clause-begun
returns-clause-begun g c = λ d. started_with c.len-workers.ensures (c.in-Ok-start_crew.ensures.begun d)

pub returns-clause-workers : goal.returns-clause-workers
returns-clause-workers g c = c.len-workers.ensures

pub returns-clause-some : goal.returns-clause-some
returns-clause-some g c = c.in-Ok-start_crew.ensures.some

pub returns-clause-waiting : goal.returns-clause-waiting
returns-clause-waiting g c = refl

pub returns-clause-fit : goal.returns-clause-fit
returns-clause-fit g c = c.in-Ok-start_crew.ensures.fit

pub returns-clause-bad_desk : goal.returns-clause-bad_desk
returns-clause-bad_desk g c = λ worker e. absurd (ok_is_no_err e)
