-- What a service goes on with that begins over these desks: its second, and its subscriptions.
--
-- Time goes on where it stood: a desk takes no second that isn't later than its last one, and only seconds end subscriptions (RFC 6665 section
-- 4.2.2) and NOTIFYs that nobody answers (RFC 3261 section 17.1.2.2). Of a desk that is spent nothing is known.
use Rattle.std.specs.Prelude.{◌≡◌, ℕ, max, List, [], ◌∷◌, ◌++◌, map, Option, Some}
use Rattle.notifier.specs.Standing.{Standing}
use Rattle.notifier_model.specs.declared.event.Out.{Out}
use Rattle.restarts.specs.declared.living.Living.{Living as Row}
use Rattle.restarts.specs.Living.{known}
use Rattle.service.specs.declared.begins.Begins.{Begins}
use Rattle.service.specs.declared.begins.Living.{Living}

-- ---- its second

-- the desk that stands so was told this second last
abbrev pub IsSecond : Option Standing → ℕ → Type 0
IsSecond desk second = (s : Standing) → desk ≡ Some s → second ≡ s.book.clock

-- the last one of which one of these desks was told
abbrev pub IsLastSecond : List (Option Standing) → ℕ → Type 0
IsLastSecond [] last = last ≡ 0
IsLastSecond (desk ∷ desks) last = (second others : ℕ) × IsSecond desk second × IsLastSecond desks others × (last ≡ max second others)

-- ---- its subscriptions

-- what a row of a desk tells, as a service begins with it
abbrev pub living_row : Row → Living
living_row row = record { tag = row.tag; number = row.number; to = row.to; note = row.note }

-- these live at the desk that stands so, in the order of its rows
abbrev pub AreRows : Option Standing → List Living → Type 0
AreRows desk living = (s : Standing) → desk ≡ Some s → living ≡ map living_row (map (known s.book.clock) s.book.rows)

-- these live at the desks, one desk behind the other
abbrev pub AreLiving : List (Option Standing) → List Living → Type 0
AreLiving [] living = living ≡ []
AreLiving (desk ∷ desks) living = (first others : List Living) × AreRows desk first × AreLiving desks others × (living ≡ first ++ others)

-- ---- all of it

-- what a service begins with over desks that stand so, where these are sent first
pub record BeginsOver (desks : List (Option Standing)) (first : List Out) (begins : Begins) : Type 0 where
  pub unanswered : begins.unanswered.items ≡ first
  pub tick : IsLastSecond desks begins.tick
  pub living : AreLiving desks begins.living.items
