use Rattle.std.proofs.Common.{ap, sym, ◌∙◌, subst}
use Rattle.queues.specs.Items.{TookInOrder}
use Rattle.crew.specs.declared.report.WorkerReport.{WorkerReport}
use Rattle.crew.proofs.Reporting.{inbox_is, settling_more, all_settled}
use Rattle.crew.proofs.joining.settle_port.Goals as goal

pub settle_one-requires : goal.settle_one-requires
settle_one-requires c =
    let report = c.index-reports-at.is in inbox_is c.loop-sent.invariant c.requires c.pop.new.self.items c.in-Some.sent c.in-Some.ensures.items c.index-reports-at.result report ∙ ap (λ (r : WorkerReport). r.receiver.inbox) report

pub loop-sent-preserved : goal.loop-sent-preserved
loop-sent-preserved c =
    let report = c.index-reports-at.is in let one = c.settle_one.ensures in let s = c.in-Some.sent in
    let P : WorkerReport → Type 0 = λ r. TookInOrder s.number r.receiver.taken s.sent in
    settling_more c.loop-sent.invariant c.requires c.pop.new.self.items s c.in-Some.ensures.items c.index-reports-at.result c.settle_one.new.report report (one.same ∙ sym report) (subst P (sym report) one.came)

pub returns-clause-came : goal.returns-clause-came
returns-clause-came c = all_settled c.loop-sent.invariant c.requires (sym c.loop-sent.sents.ok.0 ∙ c.in_default.ensures.cases.0)
