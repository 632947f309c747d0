-- What the page of a script tells the watchers of subscriptions: the laws of a life, carried to the words that ask for the script.
use Rattle.std.specs.Prelude.{ℕ, ◌<◌, ◌^◌, List, length, Contains}
use Rattle.std.specs.List.{All}
use Rattle.notifier_model.specs.declared.event.Event.{Event}
use Rattle.notifier_model.specs.Start.{Start, tag_of}
use Rattle.life.specs.Laws.{AreNotifies, IsStart, notifies_with, outs}
use Rattle.life.specs.Notices.{newest_first, notices}
use Rattle.schedules.specs.Laws.{Rise}
use Rattle.arguments.specs.declared.arguments.Arguments.{Arguments}
use Rattle.arguments.specs.Arguments.{AreArguments}
use Rattle.server.specs.Call.{starts_for}
use Rattle.server.specs.Page.{events_at}

-- The workers that the words ask for start with limits in their ranges, and with no transfer yet
abbrev pub StartsOfAScriptLaw : Type 0
StartsOfAScriptLaw = (words : List (List ℕ)) (a : Arguments) → AreArguments words a → All IsStart (starts_for a)

-- Of what a worker sends for a script with these events, as its page shows it: the NOTIFYs with a subscription's tag are those of its life over
-- the events that the worker handles. They are numbered 1, 2, 3 and so on, and none follows a terminated one (RFC 6665 section 4.2.2)
abbrev pub ScriptLaw : Type 0
ScriptLaw = (words : List (List ℕ)) (a : Arguments) (es : List Event) (start : Start) (serial : ℕ) →
    AreArguments words a → Contains (starts_for a) start → serial < 2 ^ 64 →
    let its : List Event = events_at (length (starts_for a)) es start in
    let tag : List ℕ = tag_of start.place serial in
    AreNotifies tag (notices start serial (newest_first its)) (notifies_with tag (outs start its)) × Rise (notifies_with tag (outs start its))
