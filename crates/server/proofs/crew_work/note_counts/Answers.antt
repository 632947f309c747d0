use Rattle.std.proofs.Common.{◌<◌, length, get_or, arith, ◌∙◌}
use Rattle.std.proofs.lemmas.List.{get_or_default}
use Rattle.server.proofs.Counted.{none_yet, one_more}
use Rattle.server.proofs.crew_work.note_counts.Goals as goal

pub loop-at-init : goal.loop-at-init
loop-at-init c = none_yet c.args.reports.now c.args.works.now

pub loop-at-preserved : goal.loop-at-preserved
loop-at-preserved c =
    let at = c.loop-at.at in let works = c.loop-at.works in let reports = c.args.reports.now in
    let was = get_or works at c.index-works-at.result in let report = c.index-reports-at.result in
    let len = c.loop-at.invariant.counted.len in let below = c.loop-at-test.true in let same = c.requires in
    let in_works : at < length works = omega arith in
    let in_reports : at < length reports = omega arith in
    one_more at reports c.args.works.now works report was c.note_count.new.work in_works in_reports
    (λ r. c.index-reports-at.is ∙ get_or_default reports at report r in_reports)
    (λ w. get_or_default works at c.index-works-at.result w in_works)
    (c.note_count.ensures c.if-not-note_count.false) c.loop-at.invariant
