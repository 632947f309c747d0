use Rattle.std.proofs.Common.{◌≡◌, List, map}
use Rattle.transactions.specs.Runs.{state_after}
use Rattle.service.specs.Noted.{answer_of}
use Rattle.service.specs.Sending.{noting}
use Rattle.service.specs.Watched.{AreRowed}
use Rattle.service.specs.Releasing.{Fewer, waits}
use Rattle.service.specs.declared.post.Note.{Note}
use Rattle.service.proofs.sending.Waiting.take_notes.Given as goal

abbrev pub invariant-loop : goal.invariant-loop
invariant-loop g l = record {
  taken : List Note;
  open_now : l.self.transactions ≡ state_after (map answer_of taken) l.fn.self.transactions;
  rows : AreRowed (map noting taken) l.fn.self.watchers.rows l.self.watchers.rows;
  burst : l.self.burst ≡ l.fn.self.burst;
  fewer : Fewer (waits l.fn.self.contacts) (waits l.self.contacts);
}
