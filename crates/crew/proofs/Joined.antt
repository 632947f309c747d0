-- The laws of lives and of isolation, of what was got of a worker that began with a new desk.
use Rattle.std.proofs.Common.{◌≡◌, ℕ, List, [], ◌++◌, subst, ◌∙◌}
use Rattle.notifier_model.specs.declared.event.Out.{Out}
use Rattle.notifier_model.specs.Out.{Notification}
use Rattle.notifier_model.specs.Start.{Start}
use Rattle.notifier.specs.Standing.{first_standing}
use Rattle.queues.specs.InboxEvents.{events_of}
use Rattle.queues.specs.Items.{items_of}
use Rattle.queues.specs.Values.{values}
use Rattle.crew.specs.Worked.{Ends}
use Rattle.crew.specs.declared.end.End.{End}
use Rattle.life.specs.IsolationLaws.{alone}
use Rattle.life.specs.Laws.{AreNotifies, notifies_with, outs}
use Rattle.life.specs.Notices.{notices}
use Rattle.schedules.proofs.Numbering.{take_all}
use Rattle.crew.specs.GoesOn.{standing_after, outs_in_all}
use Rattle.crew.specs.Laws.{its_notices, its_past, its_tag, AllLaw, LifeLaw, AloneLaw}
use Rattle.crew.specs.Started.{Hired}
use Rattle.crew.proofs.GoingOn.{fresh, none_before, life_goes_on_law, alone_goes_on_law}

pub all_law : AllLaw
all_law h got report r closed =
    let ends = subst (λ (end : End). Ends h.stands.place.stop h.reads.ports report.receiver.taken report.handled end) closed r.ends in
    take_all report.handled (events_of h.stands.place.stop h.reads.ports report.receiver.taken) ends.1

-- behind nothing
alone_out : (start : Start) (tag : List ℕ) (told : List Notification) (sent : List Out) → AreNotifies tag told (notifies_with tag (outs start [] ++ sent)) → AreNotifies tag told (notifies_with tag sent)
alone_out start tag told sent are = subst (λ (l : List Out). AreNotifies tag told (notifies_with tag (l ++ sent))) (none_before start) are

pub joined_life_law : LifeLaw
joined_life_law start h got report serial ok small begins r =
    alone_out start (its_tag h serial) (its_notices start h report serial) (values (items_of h.posts.number got))
    (life_goes_on_law start [] h got report serial ok small (begins ∙ fresh start) r)

pub alone_law : AloneLaw
alone_law start h got report other serial x ok small begins r born like apart =
    alone_out start (its_tag h serial) (notices other 1 (alone start other serial x (its_past h report))) (values (items_of h.posts.number got))
    (alone_goes_on_law start [] h got report other serial x ok small (begins ∙ fresh start) r born like apart)
