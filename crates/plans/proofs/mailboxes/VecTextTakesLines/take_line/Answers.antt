use Rattle.std.proofs.Common.{◌≡◌, ◌∙◌}
use Rattle.std.proofs.lemmas.List.Elements.{All-append}
use Rattle.arguments.specs.Settings.{IsMailbox}
use Rattle.plans.proofs.mailboxes.VecTextTakesLines.take_line.Goals as goal

pub returns-clause-sound : goal.returns-clause-sound
returns-clause-sound c = rw c.in_ok-append.ensures.items (All-append IsMailbox _ _ c.requires.sound c.in-Ok.ensures.mailboxes)

pub returns-clause-taken : goal.returns-clause-taken
returns-clause-taken c = record { more = _; names = c.in-Ok.ensures.names; added = c.in_ok-append.ensures.items }
