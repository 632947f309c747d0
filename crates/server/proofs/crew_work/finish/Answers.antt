use Rattle.std.proofs.Common.{ap, length, arith}
use Rattle.crew.specs.Joined.{Reported}
use Rattle.crew.specs.Started.{Hired}
use Rattle.crew.specs.declared.report.WorkerReport.{WorkerReport}
use Rattle.crew.proofs.Zipped.{zip_len}
use Rattle.server.proofs.crew_work.finish.Goals as goal

pub note_counts-is_counted-requires : goal.note_counts-is_counted-requires
note_counts-is_counted-requires g c =
    let works = ap length c.as_mut_slice.ensures.value in let reports = ap length c.as_slice.ensures.value in
    let len = zip_len (λ (h : Hired) (r : WorkerReport). Reported h c.args.gathered.taker.got r) c.args.crew c.join-report.result.workers.items c.join-report.ensures.reported in
    let size = c.requires.len in let own = c.args.gathered.works.ok.0 in omega arith
