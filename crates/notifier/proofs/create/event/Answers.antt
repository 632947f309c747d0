use Rattle.std.proofs.Common.{sym, ◌∙◌}
use Rattle.notifier.proofs.Fitting.{is_refer_then, unsaid, made_by_refer}
use Rattle.notifier.proofs.create.event.Goals.{in_default-via-in-Value+else-not-incoming, in_default-via-in_default}
use Rattle.notifier.proofs.create.event.Goals as goal

pub returns-in_default : goal.returns-in_default
returns-in_default c = elim c.in_default.branch [
  | in_default-via-in-Value+else-not-incoming w ↦ made_by_refer c.args.incoming.now.request.now c.numbered.result (sym c.args.incoming.now.of_refer ∙ w.if-not-incoming.false) c.numbered.ensures
  | in_default-via-in_default w ↦ made_by_refer c.args.incoming.now.request.now c.numbered.result (is_refer_then c.args.incoming.now.request.now c.requires.fits (unsaid c.args.incoming.now.request.now.event w.in_default.not-Value)) c.numbered.ensures
]
