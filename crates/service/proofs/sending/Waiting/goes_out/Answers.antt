use Rattle.std.proofs.Common.{◌∙◌, refl, ap, sym}
use Rattle.first_contact.specs.Steps.{tag_in}
use Rattle.service.specs.Releasing.{waits}
use Rattle.service.proofs.Releasing.{fewer_same, gone_on_fewer, other_passes, gone_on_passes}
use Rattle.service.proofs.sending.Waiting.goes_out.Goals as goal

pub returns-in_default : goal.returns-in_default
returns-in_default c = record {
  transactions = refl;
  watchers = refl;
  burst = refl;
  fewer = fewer_same (waits c.args.self.now.contacts);
  passes_none = λ goes. other_passes _ (waits c.args.self.now.contacts) c.in_default.not-Notify;
}

pub returns-clause-fewer : goal.returns-clause-fewer
returns-clause-fewer c =
    gone_on_fewer c.args.self.now.contacts c.go_on.new.self _ _ _ c.go_on.result c.go_on.ensures.let_on c.go_on.ensures.same

pub returns-clause-passes_none : goal.returns-clause-passes_none
returns-clause-passes_none c = λ goes.
    gone_on_passes _ _ c.go_on.new.self _ _ _ (ap tag_in c.in-Notify.is ∙ sym c.as_str.ensures) (c.go_on.ensures.let_on goes)
