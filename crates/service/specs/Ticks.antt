-- The time, and which transfers fail since nobody was told to start them, as the workers are told.
use Rattle.std.specs.Prelude.{◌≡◌, ◌<◌, ℕ, List, [], ◌∷◌, ◌++◌}
use Rattle.notifier_model.specs.declared.event.Event.{Event}
use Rattle.notifier_model.specs.declared.event.Event.TheVariants as event
use Rattle.crew.specs.Ports.{PortSeats}
use Rattle.feeds.specs.declared.feeding.FeedEnd.{FeedEnd}
use Rattle.feeds.specs.declared.feeding.FeedEnd.TheVariants.{Done, Fault, Gone}
use Rattle.feeds.specs.Fed.{Sends, Misses}
use Rattle.service.specs.declared.clock.Stopwatch.{Stopwatch}

-- what read the time from this second on, and never failed
abbrev pub new_stopwatch : ℕ → Stopwatch
new_stopwatch tick = record { tick = tick; failures = 0 }

-- what may be told after this second: a later one, or that a transfer fails (RFC 3261 section 21.5.1)
abbrev pub MayTell : ℕ → Event → Type 0
MayTell now (event.Request source r) = ⊥
MayTell now (event.Reply r) = ⊥
MayTell now (event.Mail m) = ⊥
MayTell now (event.Progress p) = p.code ≡ 500
MayTell now (event.Tick time) = now < time
MayTell now event.Shut = ⊥

-- the second after it
abbrev pub second_after : ℕ → Event → ℕ
second_after now (event.Tick time) = time
second_after now other = now

-- each of these may be told after this second and those before it
abbrev pub AreNotices : ℕ → List Event → Type 0
AreNotices now [] = Unit {0}
AreNotices now (e ∷ events) = MayTell now e × AreNotices (second_after now e) events

-- the last one was missed, and those before it were sent
pub record MissesLast (events : List Event) (old new : PortSeats) : Type 0 where
  pub before : List Event
  pub last : Event
  pub mid : PortSeats
  pub whole : events ≡ before ++ last ∷ []
  pub sent : Sends old before mid
  pub missed : Misses mid last new

-- the port has sent these, in order, and nothing else; where a worker is gone it missed the last
abbrev pub ArePassedOn : List Event → PortSeats → PortSeats → FeedEnd → Type 0
ArePassedOn events old new Done = Sends old events new
ArePassedOn events old new Fault = Sends old events new
ArePassedOn events old new Gone = MissesLast events old new
