-- What a keeper notes of a worker that goes on.
use Rattle.std.specs.Prelude.{ℕ, List, fold}
use Rattle.notifier_model.specs.declared.event.Event.{Event}
use Rattle.journal.specs.declared.file.Account.{Account}
use Rattle.keeper.specs.Keeping.{State, after_passed, after_handled, after_catching_up}
use Rattle.resumption.specs.Accounts.{lines_of}

-- it handled these events, which stand in its journal
abbrev pub passed_all : ℕ → List Event → State → State
passed_all worker events s = fold (λ (t : State) e. after_passed worker e t) s events

-- it handles these now, which are to be written
abbrev pub handled_all : ℕ → List Event → State → State
handled_all worker events s = fold (λ (t : State) e. after_handled worker e t) s events

abbrev pub noted : ℕ → Account → State → State
noted worker a s = after_catching_up worker (handled_all worker (lines_of a) (passed_all worker a.events s))
