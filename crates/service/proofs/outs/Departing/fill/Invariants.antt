use Rattle.std.proofs.Common.{◌≡◌, ◌++◌, List, true}
use Rattle.notifier_model.specs.declared.event.Out.{Out}
use Rattle.service.specs.Departing.{Takes}
use Rattle.service.proofs.outs.Departing.fill.Given as goal

abbrev pub invariant-loop : goal.invariant-loop
invariant-loop g l = record {
  outs : List Out;
  takes : Takes l.fn.taker l.taker l.fn.left l.left outs;
  pushed : l.self.outs.items ≡ l.fn.self.outs.items ++ outs;
  unwritten : l.self.is_written ≡ true → (l.fn.self.is_written ≡ true) × (l.taker ≡ l.fn.taker);
}
