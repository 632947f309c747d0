-- How the seats of a port are joined to the workers'.
use Rattle.std.specs.Prelude.{◌≡◌, ◌<◌, ℕ, List, length, get_or}
use Rattle.queues.specs.Items.{TookInOrder}
use Rattle.queues.specs.InboxSeats.{SenderSeat}
use Rattle.crew.specs.declared.report.WorkerReport.{WorkerReport}

-- a seat of the inbox of each report
pub record AreSeatsOf (reports : List WorkerReport) (seats : List SenderSeat) : Type 0 where
  pub len : length seats ≡ length reports
  pub inboxes : (k : ℕ) (s : SenderSeat) (r : WorkerReport) → k < length reports → (get_or seats k s).inbox ≡ (get_or reports k r).receiver.inbox

-- of the first n seats, what was taken is compared with what was sent
abbrev pub HaveCome : List WorkerReport → List SenderSeat → ℕ → Type 0
HaveCome reports seats n = (k : ℕ) (s : SenderSeat) (r : WorkerReport) → k < n → TookInOrder (get_or seats k s).number (get_or reports k r).receiver.taken (get_or seats k s).sent
