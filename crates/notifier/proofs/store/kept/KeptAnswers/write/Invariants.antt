use Rattle.std.proofs.Common.{◌≡◌, ◌++◌}
use Rattle.std.specs.List.{flat_map, AllByRecursion}
use Rattle.snapshots.specs.Books.{kept_text, IsKept}
use Rattle.notifier.proofs.store.kept.KeptAnswers.write.Given as goal

abbrev pub invariant-loop-kept : goal.invariant-loop-kept
invariant-loop-kept l = record {
  text : l.out.items ++ flat_map kept_text l.kept-iterator ≡ l.initial.out.items ++ flat_map kept_text l.initial.kept-iterator;
  fit : AllByRecursion IsKept l.kept-iterator → AllByRecursion IsKept l.initial.kept-iterator;
}
