-- What each call makes of what is known of one dialog, what it lets through, and what it drops.
use Rattle.std.specs.Prelude.{ℕ, Bool, true, false, ◌&&◌, ◌||◌, ◌==◌, nat_le, nat_lt, Option, Some, None, List, [], ◌∷◌, ◌++◌, length, option_map, bytes_eq, if◌then◌else◌}
use Rattle.std.specs.Option.{option_map_or}
use Rattle.sip_text.specs.declared.address.Addr.{Addr}
use Rattle.notifier_model.specs.declared.event.Out.{Out}
use Rattle.notifier_model.specs.declared.event.Out.TheVariants as out
use Rattle.first_contact.specs.declared.contact.Contact.{Contact}
use Rattle.first_contact.specs.declared.contact.Notice.{Notice}
use Rattle.first_contact.specs.declared.contact.Room.{Room}
use Rattle.first_contact.specs.declared.contact.TheConstants.{GONE, FINAL, MOST}

-- ---- NOTIFYs

-- an out as a NOTIFY that is offered, if it is one
abbrev pub notice_of : Out → Option Notice
notice_of (out.Answer to octets) = None
notice_of (out.Notify to number terminated tag note octets) =
    Some (record { number = number; to = to; is_last = terminated; out = out.Notify to number terminated tag note octets })
notice_of (out.Start tag refer_to) = None

-- the local tag of its dialog
abbrev pub tag_in : Out → List ℕ
tag_in (out.Answer to octets) = []
tag_in (out.Notify to number terminated tag note octets) = tag
tag_in (out.Start tag refer_to) = []

-- ---- what is known

-- what is known of a dialog
pub record ContactSeen : Type 0 where
  -- where its latest NOTIFY goes
  pub to : Addr
  -- the number of the one that is under way there: of the first one, or of the next that was let through since
  pub under_way : ℕ
  -- whether that address answered it
  pub is_known : Bool
  -- whether none follows the latest
  pub is_ending : Bool
  -- what waits for that answer, in order
  pub held : List Notice

abbrev pub seen : Contact → ContactSeen
seen c = record { to = c.to; under_way = c.under_way; is_known = c.is_known; is_ending = c.is_ending; held = c.held.items }

pub record Step : Type 0 where
  -- what is known of the dialog then
  pub contact : Option ContactSeen
  -- the NOTIFYs that are let through, in order
  pub through : List Notice
  -- the NOTIFYs that are never let through
  pub lost : List Notice

abbrev pub same_addr : Addr → Addr → Bool
same_addr a b = bytes_eq a.ip b.ip && (a.port == b.port)

-- the NOTIFYs that wait
abbrev pub waiting : Option ContactSeen → List Notice
waiting None = []
waiting (Some c) = c.held

-- nothing happens
abbrev pub idle : Option ContactSeen → Step
idle c = record { contact = c; through = []; lost = [] }

-- ---- a NOTIFY is offered

-- it goes to an address of which nothing is known
abbrev pub begun : Notice → ContactSeen
begun n = record { to = n.to; under_way = n.number; is_known = false; is_ending = n.is_last; held = [] }

-- it is let through as the first one to its address, and what waited is dropped
abbrev pub begins_anew : Notice → Option ContactSeen → Step
begins_anew n c = record { contact = Some (begun n); through = n ∷ []; lost = waiting c }

-- it is let through, and what waited is dropped; nothing is known of the dialog then
abbrev pub goes_once : Notice → Option ContactSeen → Step
goes_once n c = record { contact = None; through = n ∷ []; lost = waiting c }

-- the first one to its address, where its dialog may begin or not
abbrev pub goes_first : Room → Notice → Option ContactSeen → Step
goes_first room n c = if room.begins then begins_anew n c else goes_once n c

-- the address has answered: it is let through
abbrev pub passes : Notice → ContactSeen → Step
passes n c = record { contact = Some (record c { is_ending = n.is_last; held = [] }); through = n ∷ []; lost = c.held }

-- it waits behind those that wait
abbrev pub waits : Notice → ContactSeen → Step
waits n c = record { contact = Some (record c { is_ending = n.is_last; held = c.held ++ n ∷ [] }); through = []; lost = [] }

-- it is dropped, and those that wait stay
abbrev pub drops : Notice → ContactSeen → Step
drops n c = record { contact = Some (record c { is_ending = n.is_last }); through = []; lost = n ∷ [] }

-- may one more of this dialog wait, behind none that waits, or behind others?
abbrev pub has_place : Room → ContactSeen → Bool
has_place room c = if length c.held == 0 then room.first_waits else room.more_wait && nat_lt (length c.held) MOST

-- it goes where the latest one went
abbrev pub offered_there : Room → Notice → ContactSeen → Step
offered_there room n c = if c.is_known then passes n c else if has_place room c then waits n c else drops n c

-- did the latest one go to this address?
abbrev pub is_there : Addr → Option ContactSeen → Bool
is_there to c = option_map_or (λ (x : ContactSeen). same_addr x.to to) c false

-- it is the first one of its dialog, or to another address than the latest, or a further one
abbrev pub offered : Room → Notice → Option ContactSeen → Step
offered room n None = goes_first room n None
offered room n (Some c) = if same_addr c.to n.to then offered_there room n c else goes_first room n (Some c)

-- has this address answered one of the dialog, and does none wait for that?
abbrev pub is_free : Addr → ContactSeen → Bool
is_free to c = c.is_known && ((length c.held == 0) && same_addr c.to to)

-- so a NOTIFY to it is let through at once
abbrev pub goes_at_once : Addr → Option ContactSeen → Bool
goes_at_once to c = option_map_or (is_free to) c false

-- Where it is, and is the last one or not, this is known then: else what was known before.
abbrev pub gone_on : Bool → Bool → Option ContactSeen → Option ContactSeen
gone_on goes is_last c = if goes then option_map (λ (x : ContactSeen). record x { is_ending = is_last }) c else c

-- ---- an answer comes, or a NOTIFY is given up

-- does what became of the NOTIFY with this number tell of the address?
abbrev pub is_told_by : ℕ → ContactSeen → Bool
is_told_by number c = c.is_known || (number == c.under_way)

abbrev pub is_told : ℕ → Option ContactSeen → Bool
is_told number c = option_map_or (is_told_by number) c false

-- the dialog is gone, and what waited is dropped
abbrev pub ended : Option ContactSeen → Step
ended c = record { contact = None; through = []; lost = waiting c }

-- The address has answered: what waited is let through.
abbrev pub opened_more : Option ContactSeen → Step
opened_more None = idle None
opened_more (Some c) = record { contact = Some (record c { is_known = true; held = [] }); through = c.held; lost = [] }

-- where none follows that, nothing more is to be known
abbrev pub opened_last : Option ContactSeen → Step
opened_last c = record { contact = None; through = waiting c; lost = [] }

abbrev pub is_ending : Option ContactSeen → Bool
is_ending c = option_map_or (λ (x : ContactSeen). x.is_ending) c false

abbrev pub opened : Option ContactSeen → Step
opened c = if is_ending c then opened_last c else opened_more c

-- An answer from this address comes from where the NOTIFY went: from the same IP address. Ports don't count, since a NAT may send what
-- comes back from another one.
abbrev pub is_from : Addr → Addr → Bool
is_from source to = bytes_eq source.ip to.ip

-- It comes from where the dialog's NOTIFYs go, or that address has answered before.
abbrev pub opens : Addr → ContactSeen → Bool
opens source c = c.is_known || is_from source c.to

abbrev pub is_open : Addr → Option ContactSeen → Bool
is_open source c = option_map_or (opens source) c true

-- the first one of those that wait, if one does, is under way then
abbrev pub moved_to : List Notice → ContactSeen → ContactSeen
moved_to [] c = c
moved_to (n ∷ held) c = record c { under_way = n.number; held = held }

abbrev pub moved_on : ContactSeen → ContactSeen
moved_on c = moved_to c.held c

-- Another address has answered: the first one that waits is let through alone. Where none waits none is under way then: the next one that is offered
-- is the first one again.
abbrev pub passed_to : List Notice → ContactSeen → Step
passed_to [] c = ended (Some c)
passed_to (n ∷ held) c = record { contact = Some (moved_to (n ∷ held) c); through = n ∷ []; lost = [] }

abbrev pub passed_on : ContactSeen → Step
passed_on c = passed_to c.held c

abbrev pub passed : Option ContactSeen → Step
passed None = idle None
passed (Some c) = passed_on c

-- a final answer from this address, to the NOTIFY under way
abbrev pub heard : Addr → Option ContactSeen → Step
heard source c = if is_open source c then opened c else passed c

-- What an answer from this address, with this status, to the NOTIFY with this number does: a 481 ends the dialog, a provisional one does
-- nothing.
abbrev pub answered : ℕ → ℕ → Addr → Option ContactSeen → Step
answered number status source c =
    if nat_le FINAL status then (if status == GONE then ended c else if is_told number c then heard source c else idle c) else idle c

-- the NOTIFY with this number is given up
abbrev pub given_up : ℕ → Option ContactSeen → Step
given_up number c = if is_told number c then ended c else idle c
