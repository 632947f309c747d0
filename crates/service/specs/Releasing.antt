-- What waits of each dialog until its address has answered (specs/Steps of the crate first_contact), and what is released of that.
use Rattle.std.specs.Prelude.{◌≡◌, ℕ, true, List, [], ◌∷◌, ◌++◌, map, is_some, bytes_eq, if◌then◌else◌}
use Rattle.notifier_model.specs.declared.event.Out.{Out}
use Rattle.feeds.specs.declared.sending.Fate.{Fate}
use Rattle.first_contact.specs.declared.contact.Notice.{Notice}
use Rattle.first_contact.specs.declared.table.Contacts.{Contacts}
use Rattle.first_contact.specs.Steps.{waiting, notice_of, tag_in}
use Rattle.first_contact.specs.Tables.{at}
use Rattle.service.specs.Sending.{Act, Released, held, released, of_dialog, IsPart, EachWasHeld, sent_first, taken_outs, notifys, NoneOvertakes}

abbrev pub outs : List Notice → List Out
outs notices = map (λ (n : Notice). n.out) notices

-- ---- what waits

-- of each dialog, by its local tag, what waits, in order
abbrev pub Waits : Type 0
Waits = List ℕ → List Out

abbrev pub waits : Contacts → Waits
waits contacts tag = outs (waiting (at contacts tag))

-- what waits then had waited before, in the same order: the rest was dropped
abbrev pub Fewer : Waits → Waits → Type 0
Fewer w w' = (tag : List ℕ) → IsPart (w' tag) (w tag)

-- the same, but for this out: it may wait then behind the others of its dialog
abbrev pub WaitsBehind : Out → Waits → Waits → Type 0
WaitsBehind o w w' = (tag : List ℕ) → IsPart (w' tag) (w tag ++ of_dialog tag (o ∷ []))

-- this out passes none that waits: where it is a NOTIFY nothing waits in its dialog then
abbrev pub PassesNone : Out → Waits → Type 0
PassesNone o w = is_some (notice_of o) ≡ true → w (tag_in o) ≡ []

-- these, and then what waits of the dialog with this tag
abbrev pub ahead : List ℕ → List Notice → Waits → Waits
ahead named notices w tag = (if bytes_eq named tag then outs notices else []) ++ w tag

-- ---- what is released

-- these are released at this moment, one after the other, and nothing else is done
abbrev pub AreReleased : ℕ → List Notice → List Act → Type 0
AreReleased now [] acts = acts ≡ []
AreReleased now (n ∷ notices) acts = (fate : Fate) × (more : List Act) × (acts ≡ Released now n.out fate ∷ more) × AreReleased now notices more

-- Of each dialog, what was released and then what waits is what was held back, in that order, but for what was dropped. The same holds of what
-- went out first and then what waits, and the NOTIFYs that were taken
pub record AreHeld (acts : List Act) (w : Waits) : Type 0 where
  pub so_far : EachWasHeld acts
  pub in_order : (tag : List ℕ) → IsPart (of_dialog tag (released acts) ++ w tag) (of_dialog tag (held acts))
  pub none_overtook : NoneOvertakes acts
  pub behind_sent : (tag : List ℕ) → IsPart (notifys tag (sent_first acts) ++ w tag) (notifys tag (taken_outs acts))

-- the same holds behind these acts, where this waited before and that waits then
abbrev pub HoldsOn : List Act → Waits → Waits → Type 0
HoldsOn more w w' = (acts : List Act) → AreHeld acts w → AreHeld (acts ++ more) w'

-- first these are released at this moment, then the rest is done
abbrev pub ReleasesFirst : ℕ → List Notice → List Act → Waits → Waits → Type 0
ReleasesFirst now notices acts w w' = (first : List Act) × (rest : List Act) × (acts ≡ first ++ rest) × AreReleased now notices first × HoldsOn rest w w'
