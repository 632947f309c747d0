-- How numbers go on where the end of what was handled may be lost.
--
-- A NOTIFY that was sent after the last event that is known has a number that the desk would give again, to other content.
-- Who hears numbers of a dialog takes a leap, but nothing at or below what came before (RFC 3261 section 12.2.2).
-- So a subscription may have begun whose serial the desk would give again, and with it its tag, which no other dialog may have
-- (RFC 3261 section 19.3).
use Rattle.std.specs.Prelude.{ℕ, ◌+◌, ◌-◌, ◌^◌, min, Bool, not, List, [], map, filter, nat_lt}
use Rattle.notifier_model.specs.declared.row.Row.{Row}
use Rattle.notifier_model.specs.declared.saved.Saved.{Saved}

-- by how much a number or a serial rises: more NOTIFYs of one subscription, or more subscriptions of one worker, are never lost
abbrev pub leap : ℕ
leap = 65536

-- it has numbers for a leap, and one behind that
abbrev pub has_room : Row → Bool
has_room row = nat_lt (row.sub.count + leap) row.sub.want.max_cseq

-- told so often, and waiting for no answer
abbrev pub told_so_often : ℕ → Row → Row
told_so_often count row = record row { sub = record row.sub { count = count }; unanswered = [] }

abbrev pub ahead : Row → Row
ahead row = told_so_often (row.sub.count + leap) row

-- with its last number left, which is above all that it can have had while it went on
abbrev pub at_last : Row → Row
at_last row = told_so_often (row.sub.want.max_cseq - 1) row

-- the rows that have room go on a leap further
abbrev pub all_ahead : List Row → List Row
all_ahead rows = map ahead (filter has_room rows)

-- the others are left out
abbrev pub left_out : List Row → List Row
left_out rows = map at_last (filter (λ row. not (has_room row)) rows)

-- the next serial a leap further: at 2 ^ 32 all are used up
abbrev pub serial_ahead : ℕ → ℕ
serial_ahead next = min (next + leap) (2 ^ 32)

abbrev pub book_ahead : Saved → Saved
book_ahead book = record book { next = serial_ahead book.next; rows = all_ahead book.rows }
