use Rattle.std.proofs.Common.{◌≡◌, ◌≤◌, ◌+◌, ◌++◌, List, true, false, map, reverse, vec_len, vec_capacity}
use Rattle.queues.specs.Values.{end_item}
use Rattle.queues.specs.InboxSeats.{SenderSeat, with_sent}
use Rattle.crew.specs.Ports.{ClosesSome, OneStays}
use Rattle.crew.proofs.port.Port.close.Given as goal

abbrev pub invariant-loop-sender : goal.invariant-loop-sender
invariant-loop-sender g l = record {
  room : vec_len l.self-inside.senders + vec_len l.self-inside.sents ≤ vec_capacity l.self-inside.sents;
  few : vec_len l.self-inside.senders ≤ 256;
  some : (olds : List SenderSeat) × (l.fn.self.seats ≡ l.self-inside.senders.items ++ olds) × ClosesSome olds (reverse l.self-inside.sents.items)
      × (l.all_there ≡ true → l.fn.self.is_open ≡ true → reverse l.self-inside.sents.items ≡ map (λ s. with_sent s (end_item s.number)) olds)
      × (l.all_there ≡ false → OneStays olds (reverse l.self-inside.sents.items));
  missed : l.self-inside.missed ≡ l.fn.self.missed;
  none : l.fn.self.is_open ≡ false → (l.self-inside.sents.items ≡ l.initial.self-inside.sents.items) × (vec_len l.self-inside.senders ≡ 0) × (l.all_there ≡ true);
}

abbrev pub decreases-loop-sender : goal.decreases-loop-sender
decreases-loop-sender g l = vec_len l.self-inside.senders
