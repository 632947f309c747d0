-- What workers did with the events of a script. No public contract cites this.
use Rattle.std.specs.Prelude.{◌≡◌, ℕ, ◌<◌, List, ◌++◌, length, map, get_or}
use Rattle.std.specs.List.{flat_map}
use Rattle.scripts.specs.Page.{worker_text}
use Rattle.notifier_model.specs.declared.event.Event.{Event}
use Rattle.notifier_model.specs.Start.{Start}
use Rattle.notifier_model.specs.Out.{out_of}
use Rattle.notifier_model.specs.Run.{made}
use Rattle.server.specs.declared.work.Work.{Work}
use Rattle.server.specs.Page.{out_text}

-- from this start a worker handled these events, and sent what they make
pub record IsWork (start : Start) (events : List Event) (work : Work) : Type 0 where
  pub number : work.number ≡ start.place.worker
  pub handled : work.handled ≡ length events
  pub outs : work.outs.items ≡ map out_of (made start events)

-- from each of these starts a worker did so with what is given to it
pub record AreWorks (starts : List Start) (given : Start → List Event) (works : List Work) : Type 0 where
  pub len : length works ≡ length starts
  pub each : (k : ℕ) (start : Start) (work : Work) → k < length starts
      → IsWork (get_or starts k start) (given (get_or starts k start)) (get_or works k work)

-- the k-th start is that of worker k
abbrev pub AreNumbered : List Start → Type 0
AreNumbered starts = (k : ℕ) (start : Start) → k < length starts → (get_or starts k start).place.worker ≡ k

-- what is printed of a worker
abbrev pub printed : Work → List ℕ
printed work = worker_text work.number work.handled (length work.outs.items) ++ flat_map out_text work.outs.items
