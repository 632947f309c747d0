-- From what the subscriptions of a desk are told, and the rule of a cause.
use Rattle.std.specs.Prelude.{map}
use Rattle.package.specs.Content.{Seen, finite_maps}
use Rattle.notifier_model.specs.declared.row.Row.{Row}
use Rattle.notifier.specs.declared.sweep.cause.Cause.{Cause}
use Rattle.notifier.specs.declared.notice.Teller.{Teller}
use Rattle.notifier.specs.Causes.{rule_of}
use Rattle.notifier_model.specs.Rows.{Telling, Turned}

module _ {P : Type 0} (seen : P → Seen) where
  abbrev pub telling : Teller P → Telling finite_maps
  telling teller = record { place = teller.place.now; boxes = map seen teller.boxes.now.items; clock = teller.clock }

  abbrev pub rule_by : Teller P → Cause → Row → Turned
  rule_by teller = rule_of (telling teller)
