-- What the code tells of a row is what the rule says.
use Rattle.std.specs.Prelude.{◌≡◌, ℕ, Bool, true, false, List, map, Option, Some, None, option_to_list, if◌then◌else◌}
use Rattle.notifier_model.specs.declared.birth.Birth.{Birth}
use Rattle.notifier_model.specs.declared.birth.Birth.TheVariants.{Watch, Fetch, Transfer, Unwatched}
use Rattle.notifier_model.specs.declared.event.Out.{Out}
use Rattle.notifier_model.specs.declared.row.Row.{Row}
use Rattle.notifier.specs.declared.sweep.row.After.{After}
use Rattle.notifier.specs.declared.sweep.row.After.TheVariants.{Stays, Goes}
use Rattle.notifier.specs.declared.sweep.row.Gone.{Gone}
use Rattle.subscription.specs.declared.life.Step.{Step}
use Rattle.subscription.specs.declared.life.Step.TheVariants.{Live, Over}
use Rattle.subscription.specs.declared.terms.Usage.{Usage}
use Rattle.subscription.specs.declared.terms.Want.{Want}
use Rattle.notifier_model.specs.Out.{out_of}
use Rattle.notifier_model.specs.Requests.{is_of_refer}
use Rattle.notifier_model.specs.Rows.{Turned, gone_at}
use Rattle.notifier.specs.Watchers.{topic}

-- what was asked for, after a step
abbrev pub want_after : Step → Want
want_after (Live sub notice) = sub.want
want_after (Over usage want notice) = want

-- what a subscription that is over leaves
abbrev pub gone_from : Usage → Want → Gone
gone_from usage want = record {
  want = want;
  transfer = if is_of_refer want.event then Some usage.local_tag else None;
}

-- the row that stays, its NOTIFY, and the transfer that goes with it
abbrev pub row_after : After → Option Row
row_after (Stays row out) = Some row
row_after (Goes gone out) = None

abbrev pub out_after : After → Option Out
out_after (Stays row out) = out
out_after (Goes gone out) = out

abbrev pub transfer_after : After → Option (List ℕ)
transfer_after (Stays row out) = None
transfer_after (Goes gone out) = gone.transfer

-- what is told as long as it lasts, and not once or never
abbrev pub lasts : Birth → Bool
lasts Watch = true
lasts Fetch = false
lasts Transfer = true
lasts Unwatched = false

-- a row that goes says what it watched
abbrev pub Names : List ℕ × List ℕ → After → Type 0
Names watch (Stays row out) = Unit {0}
Names watch (Goes gone out) = topic gone.want ≡ watch

-- what the code makes of a row, its NOTIFY and its transfer, is what the rule says
pub record FollowsRule (rule : Row → Turned) (row : Row) (after : After) : Type 0 where
  pub stays : row_after after ≡ (rule row).row
  pub sends : option_to_list (out_after after) ≡ map out_of (rule row).notifies
  pub forgets : option_to_list (transfer_after after) ≡ gone_at rule row
  pub names : Names (topic row.sub.want) after
