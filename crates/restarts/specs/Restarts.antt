-- What is sent again at a restart.
use Rattle.std.specs.Prelude.{Bool, false, List, Option, Some, None}
use Rattle.notifier_model.specs.declared.event.Out.{Out}
use Rattle.notifier_model.specs.declared.event.Out.TheVariants.{Answer, Notify, Start}
use Rattle.notifier_model.specs.declared.row.Row.{Row}
use Rattle.notifier.specs.Awaiting.{is_unanswered}
use Rattle.notifier.specs.Standing.{Standing}

-- is this a NOTIFY for whose answer one of these rows waits?
abbrev pub is_open : List Row → Out → Bool
is_open rows (Answer to bytes) = false
is_open rows (Notify to number terminated tag note bytes) = is_unanswered rows tag number
is_open rows (Start tag refer_to) = false

-- the same of the rows of a desk that isn't spent
abbrev pub is_open_at : Option Standing → Out → Bool
is_open_at None out = false
is_open_at (Some s) out = is_open s.book.rows out
