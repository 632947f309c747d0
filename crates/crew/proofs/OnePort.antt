-- What a report tells of a crew with one port.
use Rattle.std.proofs.Common.{◌≡◌, ◌<◌, Bool, List, [], ◌∷◌, ◌++◌, length, refl, ap, sym, ◌∙◌, subst, arith}
use Rattle.std.proofs.lemmas.List.Elements.{All-head, All-tail}
use Rattle.queues.specs.declared.items.Item.{Item}
use Rattle.queues.specs.Items.{items_of}
use Rattle.queues.proofs.ItemLists.{items_of_first}
use Rattle.notifier_model.specs.declared.event.Event.{Event}
use Rattle.notifier_model.specs.declared.event.Out.{Out}
use Rattle.notifier_model.specs.Home.{at_the_stop}
use Rattle.queues.specs.InboxEvents.{events_of}
use Rattle.queues.specs.InboxSeats.{SenderSeat}
use Rattle.queues.proofs.InboxEvents.{events_ended}
use Rattle.queues.specs.Values.{values}
use Rattle.crew.specs.Worked.{AllFrom, outs_for}
use Rattle.crew.specs.Worked.{Ends}
use Rattle.crew.specs.Started.{Hired}
use Rattle.crew.specs.Joined.{Reported, Arrived, IsHeard}
use Rattle.crew.specs.One.{all_events, TellsAll}
use Rattle.crew.specs.declared.report.WorkerReport.{WorkerReport}
use Rattle.crew.specs.declared.end.End.{End}
use Rattle.crew.specs.declared.end.End.TheVariants as end
use Rattle.crew.proofs.Folds.{take_whole}

pub all_of_one : (taken : List (Item Event)) → AllFrom 1 taken → items_of 0 taken ≡ taken
all_of_one [] all = refl
all_of_one (x ∷ xs) all =
    let P : Item Event → Type 0 = λ y. y.from < 1 in let first : x.from < 1 = All-head P x xs all in
    items_of_first 0 x xs (omega arith) ∙ ap (λ l. x ∷ l) (all_of_one xs (All-tail P x xs all))

-- a worker that came to the port's end took what the port sent, and the taker got the outs of all its events
pub told_of_one : (h : Hired) (got : List (Item Out)) (report : WorkerReport) (seat : SenderSeat) → Reported h got report → IsHeard report seat → TellsAll h got report seat
told_of_one h got report seat told here one zero_is closed =
    let stop : Bool = h.stands.place.stop in
    let taken : List (Item Event) = report.receiver.taken in
    let A : End → Type 0 = λ e. Arrived e seat.sent (items_of seat.number taken) in
    let E : End → Type 0 = λ e. Ends stop h.reads.ports taken report.handled e in
    let whole : items_of seat.number taken ≡ seat.sent = subst A closed here.arrived in
    let all : AllFrom 1 taken = subst (λ n. AllFrom n taken) one told.among in
    let same : taken ≡ seat.sent = sym (all_of_one taken all) ∙ ap (λ n. items_of n taken) (sym zero_is) ∙ whole in
    let ends : E end.Closed = subst E closed told.ends in
    let events : events_of stop h.reads.ports taken ≡ all_events h seat = events_ended stop h.reads.ports taken ends.0 ∙ ap (λ (l : List (Item Event)). values l ++ at_the_stop stop) same in (
      same,
      ends.1 ∙ ap length events,
      told.outs ∙ ap (outs_for h.stands) (take_whole report.handled (events_of stop h.reads.ports taken) ends.1) ∙ ap (outs_for h.stands) events,
    )
