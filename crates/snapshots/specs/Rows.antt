-- How the rows of a book, its kept answers and the whole book are written.
use Rattle.std.specs.Prelude.{◌≡◌, ℕ, ◌<◌, ◌≤◌, Bool, true, false, ◌&&◌, nat_lt, nat_le, List, [], ◌∷◌, ◌++◌, if◌then◌else◌, Option, Some, None, codes, bytes_eq}
use Rattle.sip_text.specs.declared.address.Addr.{Addr}
use Rattle.sip_text.specs.Addresses.{IsAddr}
use Rattle.sip_text.specs.Tokens.{is_token}
use Rattle.sip_text.specs.Reading.{◌>>=◌}
use Rattle.event_headers.specs.Values.{EventValue}
use Rattle.subscription.specs.declared.terms.Usage.{Usage}
use Rattle.subscription.specs.declared.terms.Want.{Want}
use Rattle.subscription.specs.State.{State}
use Rattle.notifier_model.specs.declared.row.Row.{Row}
use Rattle.notifier_model.specs.declared.row.Unanswered.{Unanswered}
use Rattle.notifier_model.specs.declared.row.Key.{Key}
use Rattle.notifier_model.specs.declared.row.Kept.{Kept}
use Rattle.notifier_model.specs.declared.saved.Saved.{Saved}
use Rattle.snapshots.specs.Forms.{number_text, number_at, count_at, IsNumber, IsCount, bytes_text, bytes_at, text_at, AreBytes, IsText, address_text, address_at, option_text, option_at, IsOption, both_at, made_at, list_text, list_at, AreAll}

-- ---- a dialog

abbrev pub usage_text : Usage → List ℕ
usage_text u =
    bytes_text u.call_id ++ (bytes_text u.local_tag ++ (bytes_text u.remote_tag ++ (bytes_text u.local
    ++ (bytes_text u.remote ++ (bytes_text u.target ++ (list_text bytes_text u.routes ++ number_text u.remote_cseq))))))

abbrev pub UsageParts : Type 0
UsageParts = List ℕ × (List ℕ × (List ℕ × (List ℕ × (List ℕ × (List ℕ × (List (List ℕ) × ℕ))))))

abbrev pub usage_of : UsageParts → Option Usage
usage_of p = Some (record {
  call_id = p.0;
  local_tag = p.1.0;
  remote_tag = p.1.1.0;
  local = p.1.1.1.0;
  remote = p.1.1.1.1.0;
  target = p.1.1.1.1.1.0;
  routes = p.1.1.1.1.1.1.0;
  remote_cseq = p.1.1.1.1.1.1.1;
})

unfoldable pub usage_at : List ℕ → Option (Usage × List ℕ)
usage_at t =
    made_at usage_of (both_at text_at (both_at text_at (both_at text_at (both_at text_at
    (both_at text_at (both_at text_at (both_at (list_at text_at) count_at))))))) t

pub record IsUsage (u : Usage) : Type 0 where
  pub call_id : IsText u.call_id
  pub local_tag : IsText u.local_tag
  pub remote_tag : IsText u.remote_tag
  pub local : IsText u.local
  pub remote : IsText u.remote
  pub target : IsText u.target
  pub routes : AreAll IsText u.routes
  pub remote_cseq : IsCount u.remote_cseq

-- ---- what is watched

abbrev pub event_text : EventValue → List ℕ
event_text e = bytes_text e.package ++ option_text e.id

abbrev pub is_some_token : Option (List ℕ) → Bool
is_some_token None = true
is_some_token (Some w) = is_token w

-- both are tokens
abbrev pub is_event : EventValue → Bool
is_event e = is_token e.package && is_some_token e.id

unfoldable pub event_of : List ℕ × Option (List ℕ) → Option EventValue
event_of p = if is_token p.0 && is_some_token p.1 then Some (record { «package» = p.0; id = p.1 }) else None

unfoldable pub event_at : List ℕ → Option (EventValue × List ℕ)
event_at t = made_at event_of (both_at text_at option_at) t

pub record IsEvent (e : EventValue) : Type 0 where
  pub «package» : IsText e.package
  pub id : IsOption e.id
  pub tokens : is_event e ≡ true

abbrev pub want_text : Want → List ℕ
want_text w = event_text w.event ++ (bytes_text w.resource ++ (address_text w.to ++ number_text w.max_cseq))

abbrev pub WantParts : Type 0
WantParts = EventValue × (List ℕ × (Addr × ℕ))

abbrev pub want_of : WantParts → Option Want
want_of p = Some (record { event = p.0; resource = p.1.0; to = p.1.1.0; max_cseq = p.1.1.1 })

unfoldable pub want_at : List ℕ → Option (Want × List ℕ)
want_at t = made_at want_of (both_at event_at (both_at text_at (both_at address_at count_at))) t

pub record IsWant (w : Want) : Type 0 where
  pub event : IsEvent w.event
  pub resource : IsText w.resource
  pub to : IsAddr w.to
  pub max_cseq : IsCount w.max_cseq

-- ---- a subscription

abbrev pub state_text : State → List ℕ
state_text s = usage_text s.usage ++ (want_text s.want ++ (number_text s.count ++ number_text s.due))

abbrev pub StateParts : Type 0
StateParts = Usage × (Want × (ℕ × ℕ))

-- it was told of, and has a number left
unfoldable pub state_of : StateParts → Option State
state_of p =
    if nat_lt 0 p.1.1.0 && nat_lt p.1.1.0 p.1.0.max_cseq
    then Some (record { usage = p.0; want = p.1.0; count = p.1.1.0; due = p.1.1.1 }) else None

unfoldable pub state_at : List ℕ → Option (State × List ℕ)
state_at t = made_at state_of (both_at usage_at (both_at want_at (both_at count_at number_at))) t

pub record IsState (s : State) : Type 0 where
  pub usage : IsUsage s.usage
  pub want : IsWant s.want
  pub count : IsCount s.count
  pub due : IsNumber s.due
  pub told : 0 < s.count
  pub left : s.count < s.want.max_cseq

-- ---- a row

abbrev pub unanswered_text : Unanswered → List ℕ
unanswered_text n = number_text n.number ++ number_text n.moment

abbrev pub unanswered_of : ℕ × ℕ → Option Unanswered
unanswered_of p = Some (record { number = p.0; moment = p.1 })

unfoldable pub unanswered_at : List ℕ → Option (Unanswered × List ℕ)
unanswered_at t = made_at unanswered_of (both_at count_at number_at) t

abbrev pub IsUnanswered : Unanswered → Type 0
IsUnanswered n = IsCount n.number × IsNumber n.moment

abbrev pub row_text : Row → List ℕ
row_text r = number_text r.serial ++ (state_text r.sub ++ (number_text r.last_cseq ++ list_text unanswered_text r.unanswered))

abbrev pub RowParts : Type 0
RowParts = ℕ × (State × (ℕ × List Unanswered))

abbrev pub row_of : RowParts → Option Row
row_of p = Some (record { serial = p.0; sub = p.1.0; last_cseq = p.1.1.0; unanswered = p.1.1.1 })

unfoldable pub row_at : List ℕ → Option (Row × List ℕ)
row_at t = made_at row_of (both_at count_at (both_at state_at (both_at count_at (list_at unanswered_at)))) t

pub record IsRow (r : Row) : Type 0 where
  pub serial : IsCount r.serial
  pub sub : IsState r.sub
  pub last_cseq : IsCount r.last_cseq
  pub unanswered : AreAll IsUnanswered r.unanswered
