use Rattle.plans.proofs.LineFiles.{one_more, all_taken}
use Rattle.plans.proofs.line_file.take_lines.Goals as goal

pub loop-line-preserved : goal.loop-line-preserved
loop-line-preserved g c =
    let is = c.loop-line.invariant in
    let (yields, drops) = rw c.in-Ok.is at c.in-Some.ensures.steps.1 in
    let text = rw c.as_str.ensures.value at c.new.ensures.text in record {
      sound = c.in_ok-take_line.ensures.sound;
      first = one_more _ _ _ _ _ _ _ _ _ _ _ is.first c.saturating_add-number.ensures yields drops text c.in_ok-take_line.ensures.taken;
    }

pub returns-clause-taken : goal.returns-clause-taken
returns-clause-taken g c = all_taken _ _ _ _ _ _ c.loop-line.invariant.first c.in-None.ensures.steps.1

pub returns-in-Err-clause-refused : goal.returns-in-Err-clause-refused
returns-in-Err-clause-refused g c = g.met.T.TakesLines.unread c.args.path.now c.unread.result c.unread.ensures.unread
