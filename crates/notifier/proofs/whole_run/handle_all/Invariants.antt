use Rattle.std.proofs.Common.{◌≡◌, Some, map, take}
use Rattle.notifier_model.specs.Out.{out_of}
use Rattle.notifier_model.specs.Run.{run_from, made_from}
use Rattle.notifier.specs.Held.{seen_by}
use Rattle.notifier.specs.Standing.{Standing}
use Rattle.notifier.proofs.whole_run.handle_all.Given as goal

abbrev pub invariant-loop-event : goal.invariant-loop-event
invariant-loop-event g l = (s : Standing) → seen_by g.P.Package.seen l.initial.desk ≡ Some s → record {
  book : seen_by g.P.Package.seen l.desk ≡ Some (record { place = s.place; book = run_from s.place s.book (take l.event-index l.events) });
  outs : l.outs.items ≡ map out_of (made_from s.place s.book (take l.event-index l.events));
}
