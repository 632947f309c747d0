-- The packages that a worker of the program is to have, as they are at first.
use Rattle.std.specs.Prelude.{◌≡◌, Result, IfOk}
use Rattle.sip_text.specs.declared.error.NoMemory.{NoMemory}
use Rattle.package.specs.Content.{Seen}
use Rattle.message_summary.specs.Mailboxes.{new_mailboxes}
use Rattle.refer.specs.Transfers.{new_transfers}
use Rattle.arguments.specs.declared.wanted.Wanted.{Wanted}
use Rattle.arguments.specs.declared.wanted.Wanted.TheVariants.{Mailboxes, Transfers}

abbrev pub first_seen : Wanted → Seen
first_seen (Mailboxes names) = new_mailboxes names.items
first_seen Transfers = new_transfers

-- whatever it answers that is a package is a new one of those that are wanted
abbrev pub Gives : {P : Type 0} → (P → Seen) → (Wanted → Result P NoMemory → Type 0) → Type 0
Gives seen answers = (wanted : Wanted) (made : _) → answers wanted made → IfOk made (λ p. seen p ≡ first_seen wanted)
