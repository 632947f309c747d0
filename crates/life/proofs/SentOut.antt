-- What goes out with a subscription's tag, by its own events alone.
use Rattle.std.proofs.Common.{List, subst}
use Rattle.notifier_model.specs.Out.{Notification}
use Rattle.notifier_model.specs.Start.{tag_of}
use Rattle.life.specs.Notices.{newest_first}
use Rattle.life.specs.Laws.{notifies_with, AreNotifies, outs}
use Rattle.life.proofs.Outs.{life_law}
use Rattle.life.specs.IsolationLaws.{OutsLaw}
use Rattle.life.proofs.IsolationLaw.{alone_law}

pub outs_law : OutsLaw
outs_law start other serial x es ok small born like new_keys =
    subst (λ (told : List Notification). AreNotifies (tag_of start.place serial) told (notifies_with (tag_of start.place serial) (outs start es)))
    (alone_law start other serial x (newest_first es) born like new_keys) (life_law start serial es ok small)
