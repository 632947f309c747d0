-- The laws of a crew's world: what stands in its lists, whatever the order of the steps.
use Rattle.std.specs.Prelude.{ℕ, ◌≡◌, ◌<◌, ◌≤◌, ◌^◌, Bool, true, false, not, ◌&&◌, List, [], ◌∷◌, ◌++◌, map, length}
use Rattle.std.specs.List.{list_all}
use Rattle.queues.specs.Items.{items_of, NothingAfterEnd, StartsWith}
use Rattle.notifier_model.specs.declared.event.Out.{Out}
use Rattle.notifier_model.specs.declared.event.Out.TheVariants.{Answer, Notify, Start as Begins}
use Rattle.notifier_model.specs.Start.{tag_of}
use Rattle.notifier_model.specs.Out.{Notification}
use Rattle.life.specs.Notices.{newest_first, notices}
use Rattle.life.specs.Laws.{IsStart, notifies_with, AreNotifies, up_to}
use Rattle.queues.specs.Values.{values}
use Rattle.schedules.specs.World.{Crew, Step, Send, Take, Post, Get, Quit, Worker, World, its_events, all_outs, world}

-- ---- the queues

-- An inbox: what a worker took and what the inbox holds are, port by port and in order, what the port sent. A port sends
-- nothing after its end mark, and there are no other ports.
pub record InboxKeeps (ports : ℕ) (v : Worker) : Type 0 where
  pub in_order : (port : ℕ) → items_of port (v.taken ++ v.held) ≡ v.sent port
  pub ends_last : (port : ℕ) → NothingAfterEnd (v.sent port)
  pub no_others : (port : ℕ) → ports ≤ port → v.sent port ≡ []

abbrev pub InboxLaw : Type 0
InboxLaw = (crew : Crew) (steps : List Step) (w : ℕ) → InboxKeeps crew.ports ((world crew steps).worker w)

-- The outbox: what the taker got and what the outbox holds are, worker by worker and in order, what the worker posted. A worker
-- posts nothing after its end mark.
pub record OutboxKeeps (s : World) (w : ℕ) : Type 0 where
  pub in_order : items_of w (s.got ++ s.held) ≡ (s.worker w).posted
  pub ends_last : NothingAfterEnd (s.worker w).posted

abbrev pub OutboxLaw : Type 0
OutboxLaw = (crew : Crew) (steps : List Step) (w : ℕ) → OutboxKeeps (world crew steps) w

-- ---- what a watcher is told

-- The crew's workers have their numbers, and start as the law of a life asks.
pub record AreStarts (crew : Crew) : Type 0 where
  pub few : crew.workers ≤ 2 ^ 32
  pub each : (w : ℕ) → w < crew.workers → IsStart (crew.start w)
  pub numbers : (w : ℕ) → w < crew.workers → (crew.start w).place.worker ≡ w

-- the local tag of this worker's subscription
abbrev pub its_tag : Crew → ℕ → ℕ → List ℕ
its_tag crew w serial = tag_of (crew.start w).place serial

-- what its watcher is told of the events that the worker took
abbrev pub its_notices : Crew → World → ℕ → ℕ → List Notification
its_notices crew s w serial =
    notices (crew.start w) serial (newest_first (its_events crew w (s.worker w)))

-- The NOTIFYs of this subscription that its worker posted are the first of its life over the events that the worker took; and
-- those among all that the taker got are the first of these.
pub record TellsFront (crew : Crew) (s : World) (w serial : ℕ) : Type 0 where
  pub told : List Notification
  pub of_its_life : StartsWith (its_notices crew s w serial) told
  pub posted : AreNotifies (its_tag crew w serial) told (notifies_with (its_tag crew w serial) (values (s.worker w).posted))
  pub got :
      StartsWith (notifies_with (its_tag crew w serial) (values (s.worker w).posted)) (notifies_with (its_tag crew w serial) (values s.got))

abbrev pub WorldLaw : Type 0
WorldLaw = (crew : Crew) (steps : List Step) (w serial : ℕ) → AreStarts crew → w < crew.workers → serial < 2 ^ 64 →
    TellsFront crew (world crew steps) w serial

-- ---- what is known of the NOTIFYs that were got

abbrev pub number_of : Out → ℕ
number_of (Answer to bytes) = 0
number_of (Notify to number terminated tag note bytes) = number
number_of (Begins tag refer_to) = 0

abbrev pub is_terminated : Out → Bool
is_terminated (Answer to bytes) = false
is_terminated (Notify to number terminated tag note bytes) = terminated
is_terminated (Begins tag refer_to) = false

-- only the last may be terminated
abbrev pub none_follows : List Out → Bool
none_follows [] = true
none_follows (out ∷ []) = true
none_follows (out ∷ next ∷ more) = not (is_terminated out) && none_follows (next ∷ more)

-- numbered 1, 2, 3 and so on, and none after a terminated one
pub record Rise (notifies : List Out) : Type 0 where
  pub numbers : map number_of notifies ≡ up_to (length notifies)
  pub ends : none_follows notifies ≡ true

abbrev pub RisingLaw : Type 0
RisingLaw = (crew : Crew) (steps : List Step) (w serial : ℕ) → AreStarts crew → w < crew.workers → serial < 2 ^ 64 →
    Rise (notifies_with (its_tag crew w serial) (values (world crew steps).got))

-- ---- that all can be told

-- a step of a worker or of the taker, none by which a worker quits
abbrev pub is_work : Step → Bool
is_work (Send port w entry) = false
is_work (Take w) = true
is_work (Post w) = true
is_work Get = true
is_work (Quit w) = false

-- All that was sent is told: each worker took it, and of each that didn't quit the taker got all that the notifier makes of that.
pub record IsDone (crew : Crew) (s : World) : Type 0 where
  pub taken : (w port : ℕ) → w < crew.workers → items_of port (s.worker w).taken ≡ (s.worker w).sent port
  pub got : (w : ℕ) → w < crew.workers → (s.worker w).has_quit ≡ false → values (items_of w s.got) ≡ all_outs crew w (s.worker w)

-- from each world on some work leads there
abbrev pub NoDeadEndLaw : Type 0
NoDeadEndLaw = (crew : Crew) (steps : List Step) →
    (work : List Step) × (list_all is_work work ≡ true) × IsDone crew (world crew (steps ++ work))
