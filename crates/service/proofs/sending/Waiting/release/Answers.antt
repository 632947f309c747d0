use Rattle.service.proofs.Acts.{does_late}
use Rattle.service.proofs.sending.Waiting.release.Goals as goal

pub returns-clause-does : goal.returns-clause-does
returns-clause-does g c =
    let late = c.send_late-fate in (
      late.result,
      does_late c.args.timed.now c.args.timed.out late.result _ _ _ _ late.ensures.taken late.ensures.failures c.keep.ensures.kept late.ensures.went_out,
    )
