-- The rule by which each cause tells the live subscriptions.
use Rattle.std.specs.Prelude.{◌≡◌, ℕ}
use Rattle.package.specs.Content.{Maps}
use Rattle.notifier_model.specs.declared.place.Place.{Place}
use Rattle.notifier_model.specs.declared.row.Row.{Row}
use Rattle.notifier.specs.declared.sweep.cause.Cause.{Cause}
use Rattle.notifier.specs.declared.sweep.cause.Cause.TheVariants.{Response, Refused, Renewal, Change, Time, Stop}
use Rattle.notifier.specs.Sound.{IsLive, AreInOrder}
use Rattle.notifier_model.specs.Rows.{Telling, Turned, only, answered, counted, renewed, tells_watcher, times_out, stops}

module _ {maps : Maps} where
  abbrev pub rule_of : Telling maps → Cause → Row → Turned
  rule_of t (Response response) = answered response.now
  rule_of t (Refused serial r) = only serial (counted r.now)
  rule_of t (Renewal serial came) = only serial (renewed t came.now.source came.now.request.now)
  rule_of t (Change name resource is_over) = tells_watcher t name.now resource.now is_over
  rule_of t Time = times_out t
  rule_of t Stop = stops t

-- a change can tell rows that have time left. Time can tell rows whose oldest unanswered NOTIFY is the first. A SUBSCRIBE
-- renews rows of the place to which it came
abbrev pub CanTell : Place → ℕ → Cause → Row → Type 0
CanTell place clock (Response response) row = Unit {0}
CanTell place clock (Refused serial r) row = Unit {0}
CanTell place clock (Renewal serial came) row = came.now.place.now ≡ place
CanTell place clock (Change name resource is_over) row = IsLive clock row
CanTell place clock Time row = AreInOrder row.unanswered
CanTell place clock Stop row = Unit {0}
