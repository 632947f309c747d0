use Rattle.std.proofs.Common.{◌≡◌, None, length, subst, arith}
use Rattle.admission.specs.declared.judging.Admission.{Admission}
use Rattle.service.specs.Running.{opening}
use Rattle.service.proofs.Faults.{faults_new}
use Rattle.std.proofs.lemmas.Result.{err_from_is_err_and}
use Rattle.commands.specs.Serving.{Ran, new_sink}
use Rattle.commands.proofs.Started.{if_both, begun}
use Rattle.commands.proofs.program.run_fitted.Goals as goal

pub returns-clause-ran : goal.returns-clause-ran
returns-clause-ran g c =
    let plan = c.args.plan in let fitted = c.args.fitted in let local = fitted.sockets.sip.local in
    let work = c.new_work-work.result.0 in let is_work = c.new_work-work.ensures.work in
    let size = fitted.desks.ok.0 in let workers = c.requires.fitted.workers in
    let many : length fitted.desks.items ≡ plan.workers = omega (arith, size, workers) in
    if_both c.run.result c.run.ensures.ran c.run.ensures.faults
    (λ served ran_so faults. let ran = rw (c.new-sink.ensures, c.new_work-work.ensures.begins) at ran_so in
    let start =
    begun g.P.Package.seen plan local fitted.desks.items work.repeats fitted.begins fitted.changes g.F.Write.contents plan.journal _
    workers many is_work.repeats c.requires.fitted.anew c.requires.fitted.starts (ran None) in
    let A : Admission → Type 0 = λ a. Ran g.F.Write.contents start.begins plan.workers (opening work.desk) a (new_sink c.args.writer) served.sink served.outcome in record {
      local = local;
      is_at = c.requires.fitted.sockets.at;
      begins = start.begins;
      begins_as = start.begins_as;
      opened = opening work.desk;
      opens_as = is_work.opened;
      ran = subst A is_work.admission start.ran;
      faults = faults_new is_work.sip_misses is_work.line_misses faults;
    })
