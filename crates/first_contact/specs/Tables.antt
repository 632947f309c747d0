-- What is known of all dialogs.
use Rattle.std.specs.Prelude.{◌≡◌, ℕ, ◌+◌, ◌-◌, ◌/◌, Bool, ◌&&◌, nat_lt, Option, option_map, List, length, bytes_eq, if◌then◌else◌}
use Rattle.std.specs.HashMap.{get_by_text, hash_map_len}
use Rattle.first_contact.specs.declared.contact.Room.{Room}
use Rattle.first_contact.specs.declared.table.Contacts.{Contacts}
use Rattle.first_contact.specs.Steps.{ContactSeen, Step, seen, waiting}

-- of how many dialogs something is known
abbrev pub many : Contacts → ℕ
many c = hash_map_len c.known

-- what is known of the dialog with this local tag
abbrev pub at : Contacts → List ℕ → Option ContactSeen
at c tag = option_map seen (get_by_text c.known tag)

-- The room for a dialog more, where its first NOTIFY may be tracked or not, and for a NOTIFY more that waits. Once half of the places are taken
-- one waits only where none of its dialog does: so who has few dialogs leaves the other half to others.
abbrev pub room : Bool → Contacts → Room
room may_begin c = record { begins = may_begin && nat_lt (many c) c.limit; first_waits = nat_lt c.waiting c.places; more_wait = nat_lt c.waiting (c.places - c.places / 2) }

-- The dialog with this tag, and no other one, went through this step; and so many more wait, or fewer.
pub record IsStepped (old new : Contacts) (tag : List ℕ) (step : Step) : Type 0 where
  pub limit : new.limit ≡ old.limit
  pub places : new.places ≡ old.places
  pub at_tag : (t : List ℕ) → at new t ≡ (if bytes_eq tag t then step.contact else at old t)
  pub count : new.waiting ≡ (old.waiting + length (waiting step.contact)) - length (waiting (at old tag))

-- nothing changed
pub record IsSame (old new : Contacts) : Type 0 where
  pub limit : new.limit ≡ old.limit
  pub places : new.places ≡ old.places
  pub at_tag : (t : List ℕ) → at new t ≡ at old t
  pub count : new.waiting ≡ old.waiting
