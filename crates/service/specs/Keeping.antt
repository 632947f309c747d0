-- How far the thread that sends is with what it put. It sends the outs of a burst first, and keeps them behind it: so the last ones are
-- sent, written or failed, and not kept yet.
use Rattle.std.specs.Prelude.{◌≡◌, List, [], ◌++◌, map}
use Rattle.feeds.specs.Emitted.{WireSeen}
use Rattle.transactions.specs.Machine.{State}
use Rattle.transactions.specs.Runs.{state_after}
use Rattle.watchers.specs.Rows.{Row}
use Rattle.service.specs.declared.fates.Put.{Put as OutPut}
use Rattle.service.specs.declared.sending.Waiting.{Waiting}
use Rattle.service.specs.Sending.{Act, Put, Does, calls, fates}
use Rattle.service.specs.Watched.{AreRowed}

abbrev pub act_of : OutPut → Act
act_of p = Put p.now p.out p.fate

-- From these transactions and rows on all these acts were kept but the outs of the burst, which come last: what is open, and the rows,
-- are what those that were kept make of them
pub record AreKept (s : State) (rows : List Row) (acts : List Act) (w : Waiting) : Type 0 where
  pub kept : List Act
  pub all : acts ≡ kept ++ map act_of w.burst.items
  pub open_now : w.transactions ≡ state_after (calls kept) s
  pub rowed : AreRowed kept rows w.watchers.rows

-- the open transactions once the outs of the burst are kept, too
abbrev pub open_then : Waiting → State
open_then w = state_after (calls (map act_of w.burst.items)) w.transactions

-- these acts come behind all that was done until then: they are no outs, and all that the wire took meanwhile is theirs
pub record GoesOnBy (more : List Act) (w w' : Waiting) (wire wire' : WireSeen) : Type 0 where
  pub no_outs : fates more ≡ []
  pub kept : (s : State) (rows : List Row) (acts : List Act) → AreKept s rows acts w → AreKept s rows (acts ++ more) w'
  pub does : Does more (open_then w) (state_after (calls more) (open_then w)) wire wire'
