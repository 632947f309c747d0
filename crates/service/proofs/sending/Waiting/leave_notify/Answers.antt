use Rattle.std.proofs.Common.{◌∷◌, [], refl, ap}
use Rattle.std.specs.Prelude.{is_some}
use Rattle.service.specs.Sending.{Held}
use Rattle.service.proofs.Keeping.{kept_more}
use Rattle.service.specs.Releasing.{waits}
use Rattle.service.proofs.Releasing.{fewer_same, left_behind, unnoticed_passes}
use Rattle.service.proofs.sending.Waiting.leave_notify.Goals as goal

pub returns-in-Ok-clause-notify : goal.returns-in-Ok-clause-notify
returns-in-Ok-clause-notify g c = ap is_some c.in-Ok.ensures.notify

pub returns-in-Ok-clause-held : goal.returns-in-Ok-clause-held
returns-in-Ok-clause-held g c = λ s rows acts now is.
    let last = c.settle.ensures in
    kept_more (last.kept s rows acts is) last.none (Held now c.args.out ∷ []) _ last.none refl (c.settle.new.self.watchers.rows, refl, refl)

pub returns-in-Ok-clause-behind : goal.returns-in-Ok-clause-behind
returns-in-Ok-clause-behind g c = left_behind c.args.out _ _ c.settle.ensures.fewer

pub returns-in-Err-clause-fewer : goal.returns-in-Err-clause-fewer
returns-in-Err-clause-fewer g c = fewer_same (waits c.args.self.now.contacts)

pub returns-in-Err-clause-passes_none : goal.returns-in-Err-clause-passes_none
returns-in-Err-clause-passes_none g c = unnoticed_passes _ (waits c.args.self.now.contacts) c.in-Err.ensures.other.1
