use Rattle.std.proofs.Common.{◌≡◌, ℕ, ◌+◌, ◌<◌, ◌≤◌, length, get_or}
use Rattle.std.specs.Vec.Iter.{into_iter_items, into_iter_len}
use Rattle.queues.specs.InboxSeats.{SenderSeat}
use Rattle.crew.specs.Ports.{PortSeats, TakeSeats}
use Rattle.crew.proofs.port.deal_out.Given as goal

abbrev pub invariant-loop-sender : goal.invariant-loop-sender
invariant-loop-sender l =
    let rest = l.sender-iterator in record {
      count : l.at + into_iter_len rest ≡ length l.fn.ports;
      left : (k : ℕ) (d : SenderSeat) → k < into_iter_len rest → get_or (into_iter_items rest) k d ≡ get_or l.fn.senders.items (l.at + k) d;
      done : TakeSeats l.fn.ports l.ports l.fn.senders.items l.at;
      same : (k : ℕ) (d : PortSeats) → l.at ≤ k → k < length l.fn.ports → get_or l.ports k d ≡ get_or l.fn.ports k d;
    }
