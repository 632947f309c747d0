-- What a caller is told of a NOTIFY that it offered, and of an answer.
use Rattle.std.specs.Prelude.{◌≡◌, ◌⊎◌, ◌==◌, ℕ, ◌+◌, ◌-◌, nat_le, Bool, true, false, Option, List, [], ◌∷◌, length}
use Rattle.sip_text.specs.declared.address.Addr.{Addr}
use Rattle.first_contact.specs.declared.contact.Heard.{Heard}
use Rattle.first_contact.specs.declared.contact.Heard.TheVariants.{Nothing, Opened, Ends, Elsewhere}
use Rattle.first_contact.specs.declared.contact.Notice.{Notice}
use Rattle.first_contact.specs.declared.contact.Offered.{Offered}
use Rattle.first_contact.specs.declared.contact.Offered.TheVariants.{Through, Waits, Lost}
use Rattle.first_contact.specs.declared.contact.Passed.{Passed}
use Rattle.first_contact.specs.declared.contact.Room.{Room}
use Rattle.first_contact.specs.declared.contact.TheConstants.{GONE, FINAL}
use Rattle.first_contact.specs.declared.table.Contacts.{Contacts}
use Rattle.first_contact.specs.Steps.{ContactSeen, Step, waiting, offered, opened_more, ended, answered, is_told, is_open, is_ending}
use Rattle.first_contact.specs.Tables.{IsStepped, at}

-- it is let through, waits or is lost as the step says
abbrev pub IsOffered : Step → Offered → Type 0
IsOffered step (Through notice lost) = (step.through ≡ notice ∷ []) × (lost ≡ length step.lost)
IsOffered step Waits = (step.through ≡ []) × (step.lost ≡ [])
IsOffered step Lost = (step.through ≡ []) × (length step.lost ≡ 1)

-- so many wait then, where so many did before
abbrev pub counted : Offered → ℕ → ℕ
counted (Through notice lost) waiting = waiting - lost
counted Waits waiting = waiting + 1
counted Lost waiting = waiting

-- Each NOTIFY of the dialog that goes to this address, and is the last one or not, is let through by this, and none is dropped: as where it
-- is offered, whatever room there is.
abbrev pub IsLetOn : Contacts → Contacts → List ℕ → Addr → Bool → Type 0
IsLetOn old new tag to is_last = (room : Room) (n : Notice) → n.to ≡ to → n.is_last ≡ is_last
    → IsStepped old new tag (offered room n (at old tag)) × IsOffered (offered room n (at old tag)) (Through n 0)

-- a final answer from this address, to the NOTIFY with this number, says this of the dialog
abbrev pub IsHeard : ℕ → Addr → Option ContactSeen → Heard → Type 0
IsHeard number source c Nothing = is_told number c ≡ false
IsHeard number source c (Opened waited) = (is_told number c ≡ true) × (is_open source c ≡ true) × (is_ending c ≡ false) × (waited.items ≡ waiting c)
IsHeard number source c Ends = (is_told number c ≡ true) × (is_open source c ≡ true) × (is_ending c ≡ true)
IsHeard number source c Elsewhere = (is_told number c ≡ true) × (is_open source c ≡ false)

-- what is known of it as that is heard
abbrev pub known_then : Heard → Option ContactSeen → Option ContactSeen
known_then Nothing c = c
known_then (Opened waited) c = (opened_more c).contact
known_then Ends c = c
known_then Elsewhere c = c

-- The dialog with this tag went through this step, and that is told.
pub record IsPassed (old new : Contacts) (tag : List ℕ) (step : Step) (passed : Passed) : Type 0 where
  pub stepped : IsStepped old new tag step
  pub through : passed.through.items ≡ step.through
  pub lost : passed.lost ≡ length step.lost

-- A final answer with this status to the NOTIFY with this number, which is under way, comes from an address that opens nothing; it doesn't say
-- that the dialog is gone.
pub record IsElsewhere (number status : ℕ) (source : Addr) (c : Option ContactSeen) : Type 0 where
  pub final : nat_le FINAL status ≡ true
  pub alive : (status == GONE) ≡ false
  pub told : is_told number c ≡ true
  pub closed : is_open source c ≡ false

-- An answer does what the definition says. Where a final one came from elsewhere, and memory for the next one that waits is wanting, the dialog
-- ends (`Forget` in specs/Runs).
abbrev pub IsAnswer : Contacts → Contacts → List ℕ → ℕ → ℕ → Addr → Passed → Type 0
IsAnswer old new tag number status source passed =
    IsPassed old new tag (answered number status source (at old tag)) passed
    ⊎ (IsElsewhere number status source (at old tag) × IsPassed old new tag (ended (at old tag)) passed)
