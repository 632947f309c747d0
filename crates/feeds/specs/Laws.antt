-- What was sent out of a subscription, from whichever worker of a joined crew.
use Rattle.std.specs.Prelude.{ℕ, ◌≡◌, ◌<◌, ◌^◌, ◌++◌, List, [], length, map, slice_get, Some}
use Rattle.queues.specs.declared.items.Item.{Item}
use Rattle.notifier_model.specs.declared.event.Event.{Event}
use Rattle.notifier_model.specs.declared.event.Out.{Out}
use Rattle.notifier_model.specs.Start.{Start}
use Rattle.feeds.specs.declared.sending.Fate.{Fate}
use Rattle.feeds.specs.Emitted.{AreGot, Fates}
use Rattle.crew.specs.Started.{Hired}
use Rattle.crew.specs.declared.report.WorkerReport.{WorkerReport}
use Rattle.life.specs.Laws.{AreNotifies, notifies_with, outs}
use Rattle.schedules.specs.Laws.{Rise}
use Rattle.crew.specs.GoesOn.{notices_in_all, WentOn}
use Rattle.crew.specs.Laws.{its_notices, its_tag}
use Rattle.crew.specs.Whole.{IsCrewRun}

-- the outs that met a fate
abbrev pub outs_of : Fates → List Out
outs_of fates = map (λ (x : Out × Fate). x.0) fates

-- Where the outs that met a fate are those that were got of the workers, from the first on: the NOTIFYs among them with a
-- subscription's tag are those of its life, and they rise.
abbrev pub EmittedLaw : Type 0
EmittedLaw = (start : ℕ → Start) (crew : List Hired) (got : List (Item Out)) (reports : List WorkerReport)
    (w serial : ℕ) (h : Hired) (r : WorkerReport)
    (fates : Fates) →
    IsCrewRun start crew got reports → AreGot (length crew) fates [] got →
    slice_get crew w ≡ Some h → slice_get reports w ≡ Some r → serial < 2 ^ 64 →
    AreNotifies (its_tag h serial) (its_notices (start w) h r serial) (notifies_with (its_tag h serial) (outs_of fates))
    × Rise (notifies_with (its_tag h serial) (outs_of fates))

-- The same where the crew went on from saved books: behind what went out before, as if its process had only been slow.
abbrev pub EmittedGoesOnLaw : Type 0
EmittedGoesOnLaw = (start : ℕ → Start) (before : ℕ → List Event) (crew : List Hired) (got : List (Item Out)) (reports : List WorkerReport)
    (w serial : ℕ) (h : Hired) (r : WorkerReport)
    (fates : Fates) →
    WentOn start before crew got reports → AreGot (length crew) fates [] got →
    slice_get crew w ≡ Some h → slice_get reports w ≡ Some r → serial < 2 ^ 64 →
    AreNotifies (its_tag h serial) (notices_in_all (start w) (before w) h r serial) (notifies_with (its_tag h serial) (outs (start w) (before w) ++ outs_of fates))
    × Rise (notifies_with (its_tag h serial) (outs (start w) (before w) ++ outs_of fates))
