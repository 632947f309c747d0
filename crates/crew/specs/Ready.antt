-- What a worker is launched with.
use Rattle.std.specs.Prelude.{◌≡◌, ℕ, Bool, List, [], map, Option, Some}
use Rattle.package.specs.Content.{Seen}
use Rattle.notifier_model.specs.declared.place.Setup.{Setup}
use Rattle.notifier.specs.Held.{seen_by}
use Rattle.notifier.specs.Standing.{Standing}
use Rattle.notifier_model.specs.Start.{Start, place_of}
use Rattle.queues.specs.InboxSeats.{ReceiverSeat, new_receiver}
use Rattle.queues.specs.OutboxSeats.{PosterSeat}
use Rattle.crew.specs.declared.launching.NewWorker.{NewWorker}

-- the worker of this number, with these boxes
abbrev pub start_of : {P : Type 0} → (P → Seen) → Setup → ℕ → List P → Start
start_of seen setup worker boxes = record { place = place_of setup worker; boxes = map seen boxes }

-- what a worker is given, as contracts see it: with what it begins, whether a stop is planned, its desk, and its ends of the queues
pub record NewWorkerSeen : Type 0 where
  pub stands : Standing
  pub stop : Bool
  pub desk : Option Standing
  pub reads : ReceiverSeat
  pub posts : PosterSeat

abbrev pub new_worker_seen : {P : Type 0} → (P → Seen) → NewWorker P → NewWorkerSeen
new_worker_seen seen s = record { stands = s.token.stands; stop = s.stop; desk = seen_by seen s.desk; reads = s.receiver; posts = s.poster }

-- a desk that stands so, and its stop, an inbox of its capacity of which nothing was taken, and this poster
pub record IsReady (stands : Standing) (ports : ℕ) (posts : PosterSeat) (worker : NewWorkerSeen) : Type 0 where
  pub begins : worker.stands ≡ stands
  pub stops : worker.stop ≡ stands.place.stop
  pub desk : worker.desk ≡ Some stands
  pub hears : worker.reads ≡ new_receiver worker.reads.inbox ports
  pub holds : worker.reads.inbox.capacity ≡ stands.place.limits.inbox
  pub tells : worker.posts ≡ posts

-- nothing was taken or posted yet, and the desk stands as the worker is to begin
pub record IsFit (worker : NewWorkerSeen) : Type 0 where
  pub stops : worker.stop ≡ worker.stands.place.stop
  pub desk : worker.desk ≡ Some worker.stands
  pub untaken : worker.reads.taken ≡ []
  pub unposted : worker.posts.posted ≡ []
