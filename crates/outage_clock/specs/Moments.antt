-- Which moment the clock of a service gives for a reading of the system's clock. All are milliseconds.
use Rattle.std.specs.Prelude.{ℕ, ◌+◌, ◌-◌, Bool, true, false, ◌&&◌, nat_le, nat_lt, min, max, Option, Some, None}
use Rattle.outage_clock.specs.declared.clock.OutageClock.{OutageClock}
use Rattle.outage_clock.specs.declared.clock.TheConstants.{GAP}

-- how far a clock is
pub record ClockSeen : Type 0 where
  -- how much of all outages is left out at most
  pub limit : ℕ
  -- the last reading, and the moment that was given for it
  pub read : ℕ
  pub given : ℕ
  -- in an outage, how far it may run
  pub stop : Option ℕ
  -- how much of outages may still be left out
  pub left : ℕ

abbrev pub seen : OutageClock → ClockSeen
seen c = record { limit = c.limit; read = c.read; given = c.given; stop = c.stop; left = c.left }

-- it begins at this reading, which is its first moment
abbrev pub begun : ℕ → ℕ → ClockSeen
begun limit reading = record { limit = limit; read = reading; given = reading; stop = None; left = limit }

-- Sends fail, and up to the moment `stop` it may run: the next NOTIFY is due to be sent again then. Without one a send succeeded since
abbrev pub held : Option ℕ → ClockSeen → ClockSeen
held stop c = record c { stop = stop }

-- what passed since the last reading
abbrev pub span : ℕ → ClockSeen → ℕ
span reading c = reading - c.read

-- of that no more than two seconds count
abbrev pub passed : ℕ → ClockSeen → ℕ
passed reading c = min (span reading c) GAP

-- in the rest the process stood still
abbrev pub stalled : ℕ → ClockSeen → ℕ
stalled reading c = span reading c - passed reading c

-- how much of such a span lies behind the moment at which it is to stand, from this moment on
abbrev pub beyond : Option ℕ → ℕ → ℕ → ℕ
beyond None given span = 0
beyond (Some stop) given span = span - (stop - given)

-- that is left out, as far as more of outages may be
abbrev pub lost : ℕ → ClockSeen → ℕ
lost passed c = min (beyond c.stop c.given passed) c.left

-- all else counts
abbrev pub counted : ℕ → ClockSeen → ℕ
counted reading c = passed reading c - lost (passed reading c) c

-- how much more may be left out then: what counts outside of an outage gives back what outages took
abbrev pub budget : Option ℕ → ℕ → ℕ → ℕ → ℕ → ℕ
budget None limit left counted lost = left + min counted (limit - left)
budget (Some stop) limit left counted lost = left - lost

-- after a reading, where so much counts of what passed, and so much is left out of an outage
abbrev pub ran : ℕ → ℕ → ℕ → ClockSeen → ClockSeen
ran reading counted lost c = record c {
  read = max c.read reading;
  given = c.given + counted;
  left = budget c.stop c.limit c.left counted lost;
}

-- after a look at this reading
abbrev pub looked : ℕ → ClockSeen → ClockSeen
looked reading c = ran reading (counted reading c) (lost (passed reading c) c) c

-- how much was left out since it began, where it began at its first reading
abbrev pub left_out : ClockSeen → ℕ
left_out c = c.read - c.given

-- it has run as far as it may, and more may be left out
abbrev pub stands_by : Option ℕ → ℕ → ℕ → Bool
stands_by None given left = false
stands_by (Some stop) given left = nat_le stop given && nat_lt 0 left

abbrev pub stands : ClockSeen → Bool
stands c = stands_by c.stop c.given c.left
