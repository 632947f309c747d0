use Rattle.std.proofs.Common.{◌≡◌, ◌++◌, map, take, All}
use Rattle.notifier.specs.Among.{among}
use Rattle.notifier.specs.Causes.{CanTell}
use Rattle.notifier.specs.Tellers.{rule_by}
use Rattle.notifier_model.specs.Out.{out_of}
use Rattle.notifier_model.specs.Rows as spec
use Rattle.notifier.specs.Stored.{rows_of, IsIndexed}
use Rattle.notifier.proofs.notice.Teller.tell_each.Given as goal

abbrev pub invariant-loop-serial : goal.invariant-loop-serial
invariant-loop-serial g l =
    let rule = among (take l.serial-index l.serials) (rule_by g.P.Package.seen l.self l.cause) in
    record {
      indexed : IsIndexed l.rows;
      live : All (CanTell l.self.place.now l.self.clock l.cause) (rows_of l.rows);
      rows : rows_of l.rows ≡ (spec.sweep rule (rows_of l.initial.rows)).rows;
      gone : l.tags.items ≡ (spec.sweep rule (rows_of l.initial.rows)).gone;
      outs : l.outs.items ≡ l.initial.outs.items ++ map out_of (spec.sweep rule (rows_of l.initial.rows)).notifies;
    }
