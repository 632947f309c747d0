-- The rows of the live subscriptions, as the thread that sends keeps them, and a page of some rows.
use Rattle.std.specs.Prelude.{◌≡◌, ◌⊎◌, ℕ, Bool, true, false, nat_lt, List, [], ◌∷◌, length, Option, unwrap_or, bytes_eq}
use Rattle.std.specs.Option.{option_map_or}
use Rattle.notifier_model.specs.declared.event.Note.{Note as KnownNote}
use Rattle.notifier_model.specs.declared.event.Out.{Out}
use Rattle.notifier_model.specs.declared.event.Out.TheVariants as out
use Rattle.watchers.specs.declared.inquiry.Inquiry.{Inquiry}
use Rattle.watchers.specs.declared.row.Watcher.{Watcher}
use Rattle.watchers.specs.Notifies.{Known}
use Rattle.watchers.specs.Rows.{Row, found, begins, after_notify, after_retarget, without, answered_rows}
use Rattle.watchers.specs.Pages.{page, page_text}
use Rattle.service.specs.Sending.{Act, Put, Held, Released, Noted, Repeated, Tried, GaveUp, Gone}

-- ---- what one act makes of the rows

-- what a row is made of: what is known with a NOTIFY that isn't the last one, and who is known to have made the dialog
abbrev pub known_from : Option (List ℕ) → KnownNote → Known
known_from user note = record { watcher = note.watcher; contact = note.target; call_id = note.call_id; user = user; resource = note.resource; seconds = unwrap_or note.left 0 }

-- its Contact is this one, as the row has it
abbrev pub has_contact : List ℕ → List ℕ → List Row → Bool
has_contact tag contact rows = option_map_or (λ (w : Watcher). bytes_eq w.contact contact) (found tag rows) false

-- the row with this tag has this Contact: from now on, or as it had before
abbrev pub IsRetargeted : List ℕ → List ℕ → List Row → List Row → Type 0
IsRetargeted tag contact rows rows' = (rows' ≡ after_retarget tag contact rows) ⊎ ((rows' ≡ rows) × (has_contact tag contact rows ≡ true))

-- the same, but for the first NOTIFY: the row that begins with it has its Contact
abbrev pub HasContact : ℕ → List ℕ → List ℕ → List Row → List Row → Type 0
HasContact number tag contact rows rows' = ((number ≡ 1) × (rows' ≡ rows)) ⊎ IsRetargeted tag contact rows rows'

-- a NOTIFY that isn't the last one finds no row, and there are as many as there may be
abbrev pub IsFull : ℕ → List ℕ → List Row → List Row → Type 0
IsFull limit tag rows rows' = (begins tag rows ≡ true) × (nat_lt (length rows) limit ≡ false) × (rows' ≡ rows)

-- An out was put, and there was memory for all that it tells. The row of a subscription goes with its last NOTIFY, and begins with the first
-- one that finds none, unless there are so many. Whom it names, nothing is said of
abbrev pub IsTold : ℕ → ℕ → Out → List Row → List Row → Type 0
IsTold limit now (out.Answer to octets) rows rows' = rows' ≡ rows
IsTold limit now (out.Notify to number true tag note octets) rows rows' = rows' ≡ without tag rows
IsTold limit now (out.Notify to number false tag note octets) rows rows' =
    ((user : Option (List ℕ)) × HasContact number tag note.target (after_notify now tag number to (known_from user note) rows) rows')
    ⊎ IsFull limit tag rows rows'
IsTold limit now (out.Start tag refer_to) rows rows' = rows' ≡ rows

-- the same, but where memory is wanting: then it keeps the one that it had
abbrev pub MayRetarget : List ℕ → List ℕ → List Row → List Row → Type 0
MayRetarget tag contact rows rows' = (rows' ≡ after_retarget tag contact rows) ⊎ (rows' ≡ rows)

-- An out was put. The same, but where memory is wanting: then no row begins, and a row keeps the Contact that it had
abbrev pub IsSeen : ℕ → Out → List Row → List Row → Type 0
IsSeen now (out.Answer to octets) rows rows' = rows' ≡ rows
IsSeen now (out.Notify to number true tag note octets) rows rows' = rows' ≡ without tag rows
IsSeen now (out.Notify to number false tag note octets) rows rows' =
    ((user : Option (List ℕ)) × MayRetarget tag note.target (after_notify now tag number to (known_from user note) rows) rows')
    ⊎ ((begins tag rows ≡ true) × (rows' ≡ rows))
IsSeen now (out.Start tag refer_to) rows rows' = rows' ≡ rows

-- Is an answer with this local tag and this Call-ID one of the dialog (RFC 3261 section 12), as its row tells? Where it has no row the tag alone
-- names it
abbrev pub is_of_dialog : List ℕ → List ℕ → List Row → Bool
is_of_dialog tag call_id rows = option_map_or (λ (w : Watcher). bytes_eq w.call_id call_id) (found tag rows) true

-- The act makes these rows of those. The note of an answer is taken only where it is one of its dialog. A NOTIFY that nobody answers ends no
-- row: its worker does, and says so
abbrev pub IsRowed : Act → List Row → List Row → Type 0
IsRowed (Put now o fate) rows rows' = IsSeen now o rows rows'
IsRowed (Held now o) rows rows' = rows' ≡ rows
IsRowed (Released now o fate) rows rows' = IsSeen now o rows rows'
IsRowed (Noted tag call_id number status) rows rows' = (is_of_dialog tag call_id rows ≡ true) × (rows' ≡ answered_rows tag number status rows)
IsRowed (Repeated now sent fails) rows rows' = rows' ≡ rows
IsRowed (Tried now sent fails) rows rows' = rows' ≡ rows
IsRowed (GaveUp now) rows rows' = rows' ≡ rows
IsRowed (Gone tag) rows rows' = rows' ≡ without tag rows

-- ---- what all acts make of them, one after the other

abbrev pub AreRowed : List Act → List Row → List Row → Type 0
AreRowed [] rows rows' = rows' ≡ rows
AreRowed (act ∷ acts) rows rows' = (next : List Row) × IsRowed act rows next × AreRowed acts next rows'

-- ---- a page

-- at some moment some rows were told so to this inquiry
abbrev pub IsPage : Inquiry → List ℕ → Type 0
IsPage q octets = ∥ ((now : ℕ) × (rows : List Row) × (octets ≡ page_text (page now q.mailbox q.place rows))) ∥₁
