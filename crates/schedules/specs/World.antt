-- The world of a crew: what its ports, workers and taker have done so far, and what any step of theirs makes of that.
--
-- A port sends events to the inboxes of workers, at the end an end mark to each. A worker takes what its inbox holds, item by
-- item, and posts to the outbox what the notifier makes of the events that it took, at the end its own end mark. The taker
-- gets what the outbox holds. A world is what any steps of these leave, in whatever order they come.
use Rattle.std.specs.Prelude.{ℕ, Bool, true, false, not, ◌&&◌, List, [], ◌∷◌, ◌++◌, map, drop, length, nat_lt, ◌==◌, if◌then◌else◌, Option, Some, None}
use Rattle.queues.specs.declared.items.Item.{Item}
use Rattle.queues.specs.declared.items.Entry.{Entry}
use Rattle.queues.specs.Items.{has_end}
use Rattle.package.specs.Content.{Maps, finite_maps}
use Rattle.notifier_model.specs.declared.event.Event.{Event}
use Rattle.notifier_model.specs.declared.event.Out.{Out}
use Rattle.notifier_model.specs.Start.{StartBy}
use Rattle.notifier_model.specs.Out.{out_of}
use Rattle.notifier_model.specs.Run.{made}
use Rattle.queues.specs.Values.{values, value_item, end_item}
use Rattle.queues.specs.InboxEvents.{have_ended, events_of}

module _ (maps : Maps) where
  -- what a crew begins with: how many ports and workers it has, and the start of each worker by its number
  pub record CrewBy : Type 0 where
    pub ports : ℕ
    pub workers : ℕ
    pub start : ℕ → StartBy maps

abbrev pub Crew : Type 0
Crew = CrewBy finite_maps

-- one step of a port, of a worker or of the taker
pub data Step : Type 0 where
  Send : (port worker : ℕ) (entry : Entry Event) → Step
  Take : (worker : ℕ) → Step
  Post : (worker : ℕ) → Step
  Get : Step
  Quit : (worker : ℕ) → Step

-- Of one worker: what each port sent to its inbox, what the inbox holds, what the worker took and posted, and whether it quit:
-- as it met want of memory, or as its ports had left.
pub record Worker : Type 0 where
  pub sent : ℕ → List (Item Event)
  pub held : List (Item Event)
  pub taken : List (Item Event)
  pub posted : List (Item Out)
  pub has_quit : Bool

-- each worker by its number, what the outbox holds, and what the taker got
pub record World : Type 0 where
  pub worker : ℕ → Worker
  pub held : List (Item Out)
  pub got : List (Item Out)

-- before any step
abbrev pub new_worker : Worker
new_worker = record { sent = λ port. []; held = []; taken = []; posted = []; has_quit = false }

abbrev pub new_world : World
new_world = record { worker = λ w. new_worker; held = []; got = [] }

-- ---- what a step does to one worker's lists

-- the item goes to the back of the inbox, and none after its port's end mark
abbrev pub sends : Item Event → Worker → Worker
sends x v =
    if not (has_end (v.sent x.from))
    then record v { sent = λ port. if x.from == port then v.sent port ++ x ∷ [] else v.sent port; held = v.held ++ x ∷ [] }
    else v

-- the first item of those that the inbox holds
abbrev pub takes_first : List (Item Event) → Worker → Worker
takes_first [] v = v
takes_first (x ∷ rest) v = record v { held = rest; taken = v.taken ++ x ∷ [] }

abbrev pub takes : Worker → Worker
takes v = takes_first v.held v

abbrev pub posts : Item Out → Worker → Worker
posts x v = record v { posted = v.posted ++ x ∷ [] }

abbrev pub quits : Worker → Worker
quits v = record v { has_quit = true }

-- ---- what a worker posts next

-- the first that is lacking; where none is, its end mark, if all ports have ended
abbrev pub first_or_end : ℕ → List Out → Bool → Option (Item Out)
first_or_end w (out ∷ more) ended = Some (value_item w out)
first_or_end w [] true = Some (end_item w)
first_or_end w [] false = None

module _ {maps : Maps} where
  -- the events among what the worker took; after all ports' end marks, the stop if one is planned
  abbrev pub its_events : CrewBy maps → ℕ → Worker → List Event
  its_events crew w v = events_of (crew.start w).place.stop crew.ports v.taken

  -- all that the notifier makes of them
  abbrev pub all_outs : CrewBy maps → ℕ → Worker → List Out
  all_outs crew w v = map out_of (made (crew.start w) (its_events crew w v))

  -- those of them that it didn't post yet
  abbrev pub lacking : CrewBy maps → ℕ → Worker → List Out
  lacking crew w v = drop (length (values v.posted)) (all_outs crew w v)

  -- nothing after its end mark; its end mark once it quit
  abbrev pub next_post : CrewBy maps → ℕ → Worker → Option (Item Out)
  next_post crew w v =
      if has_end v.posted then None
      else if v.has_quit then Some (end_item w)
      else first_or_end w (lacking crew w v) (have_ended crew.ports v.taken)

-- ---- what a step does to the world

-- to one worker
abbrev pub at : ℕ → (Worker → Worker) → World → World
at w change s = record s { worker = λ v. if w == v then change (s.worker v) else s.worker v }

-- to the back of the outbox
abbrev pub posted_to : World → ℕ → Option (Item Out) → World
posted_to s w None = s
posted_to s w (Some x) = record (at w (posts x) s) { held = s.held ++ x ∷ [] }

-- the first item of those that the outbox holds
abbrev pub got_first : World → List (Item Out) → World
got_first s [] = s
got_first s (x ∷ rest) = record s { held = rest; got = s.got ++ x ∷ [] }

module _ {maps : Maps} where
  -- is it a step of the crew's ports, workers and taker?
  abbrev pub is_step_of : CrewBy maps → Step → Bool
  is_step_of crew (Send port w entry) = nat_lt port crew.ports && nat_lt w crew.workers
  is_step_of crew (Take w) = nat_lt w crew.workers
  is_step_of crew (Post w) = nat_lt w crew.workers
  is_step_of crew Get = true
  is_step_of crew (Quit w) = nat_lt w crew.workers

  abbrev pub stepped : CrewBy maps → World → Step → World
  stepped crew s (Send port w entry) = at w (sends (record { from = port; entry = entry })) s
  stepped crew s (Take w) = at w takes s
  stepped crew s (Post w) = posted_to s w (next_post crew w (s.worker w))
  stepped crew s Get = got_first s s.held
  stepped crew s (Quit w) = at w quits s

  -- the world after these steps, from this world on
  abbrev pub after : CrewBy maps → World → List Step → World
  after crew s [] = s
  after crew s (step ∷ more) = after crew (if is_step_of crew step then stepped crew s step else s) more

  -- the world that these steps leave
  abbrev pub world : CrewBy maps → List Step → World
  world crew steps = after crew new_world steps
