use Rattle.std.proofs.Common.{◌≡◌, ◌≤◌, take}
use Rattle.std.specs.Prelude.{count_by}
use Rattle.journal.specs.Generations.{is_mail}
use Rattle.journal.proofs.known.mails.Given as goal

abbrev pub invariant-loop-event : goal.invariant-loop-event
invariant-loop-event l = record {
  so_far : l.count ≡ count_by is_mail (take l.event-index l.events);
  few : l.count ≤ l.event-index;
}
