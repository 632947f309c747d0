-- What an event is to a living subscription, kind by kind.
use Rattle.std.proofs.Common.{◌≡◌, ℕ, List, ◌∷◌, Option, Some, None, Bool, true, false, ◌&&◌, ◌+◌, refl, ap, ◌∙◌}
use Rattle.std.specs.Prelude.{if◌then◌else◌, option_map, unwrap_or, is_some, bytes_eq}
use Rattle.sip_text.specs.declared.address.Addr.{Addr}
use Rattle.sip_read.specs.declared.message.Request.{Request}
use Rattle.sip_read.specs.declared.message.Response.{Response}
use Rattle.package.specs.Content.{mail_package}
use Rattle.package.specs.Values.{MailChange, Progress}
use Rattle.notifier_model.specs.Start.{Start, tag_of}
use Rattle.notifier_model.specs.declared.event.Event.{Event}
use Rattle.notifier_model.specs.declared.event.Event.TheVariants.{Request as Comes, Reply as Replies, Mail as Mails, Progress as Progresses, Tick as Ticks, Shut as Shuts}
use Rattle.notifier_model.specs.Fields.{value_of, or_empty}
use Rattle.notifier_model.specs.Limits.{Limits}
use Rattle.notifier_model.specs.Requests.{is_refer, event_of, user_part, granted}
use Rattle.life.specs.Past.{now, is_fresh}
use Rattle.life.specs.Life.{Deed, Life, Then, Heard, MailChanged, Progressed, Stopped, hearing, last_heard, birth, accepts, grants, retargets, target, last_accepted, last_grant, address, end_of, end_of_grant}
use Rattle.life.specs.Lives.{when, is_in_dialog, is_answer_in_dialog, concerns, may_hear, is_to_notify, answer_deed, tick_deed, is_changed, deed_at, lived}
use Rattle.life.proofs.Rows.{accepted_cseq}

-- a deed, by both of its tests
by-tests : {A B : Type 0} (c d : Bool) (a : A) (f : A → B) → (if c then option_map f (when d a) else None) ≡ when (c && d) (f a)
by-tests true true a f = refl
by-tests true false a f = refl
by-tests false d a f = refl

-- does it hear this request?
unfoldable pub hears : Start → ℕ → List Event → Request → Life → Bool
hears start s past r l = is_in_dialog (tag_of start.place s) (birth l) r && (is_fresh start.place.limits past r && may_hear r l)

pub lived-comes : (start : Start) (s : ℕ) (past : List Event) (source : Addr) (r : Request) (l : Life) → lived start s past (Comes source r) l ≡ when (hears start s past r l) (Then (now past) (Heard source r) l)
unfolding lived concerns deed_at hears now
lived-comes start s past source r l = by-tests (is_in_dialog (tag_of start.place s) (birth l) r) (is_fresh start.place.limits past r && may_hear r l) (Heard source r) (λ d. Then (now past) d l)

pub lived-replies : (start : Start) (s : ℕ) (past : List Event) (r : Response) (l : Life) → lived start s past (Replies r) l ≡ (if is_answer_in_dialog (tag_of start.place s) (birth l) r && is_to_notify start.place.limits r l then option_map (λ d. Then (now past) d l) (answer_deed r) else None)
unfolding lived concerns deed_at now
lived-replies start s past r l = by_both (is_answer_in_dialog (tag_of start.place s) (birth l) r) (is_to_notify start.place.limits r l)
  where
    by_both : (c d : Bool) → (if c then option_map (λ x. Then (now past) x l) (if d then answer_deed r else None) else None) ≡ (if c && d then option_map (λ x. Then (now past) x l) (answer_deed r) else None)
    by_both true true = refl
    by_both true false = refl
    by_both false d = refl

pub lived-mails : (start : Start) (s : ℕ) (past : List Event) (m : MailChange) (l : Life) → lived start s past (Mails m) l ≡ when ((bytes_eq (event_of (birth l)).package mail_package && bytes_eq (user_part (birth l).uri) m.mailbox) && is_changed start past m) (Then (now past) MailChanged l)
unfolding lived concerns deed_at now
lived-mails start s past m l = by-tests (bytes_eq (event_of (birth l)).package mail_package && bytes_eq (user_part (birth l).uri) m.mailbox) (is_changed start past m) MailChanged (λ d. Then (now past) d l)

pub lived-progresses : (start : Start) (s : ℕ) (past : List Event) (p : Progress) (l : Life) → lived start s past (Progresses p) l ≡ when (bytes_eq (tag_of start.place s) p.tag && is_refer (birth l)) (Then (now past) (Progressed p) l)
unfolding lived concerns deed_at now
lived-progresses start s past p l = by-tests (bytes_eq (tag_of start.place s) p.tag) (is_refer (birth l)) (Progressed p) (λ d. Then (now past) d l)

pub lived-ticks : (start : Start) (s : ℕ) (past : List Event) (t : ℕ) (l : Life) → lived start s past (Ticks t) l ≡ option_map (λ d. Then (now (Ticks t ∷ past)) d l) (tick_deed start.place.limits (now (Ticks t ∷ past)) l)
unfolding lived concerns deed_at
lived-ticks start s past t l = refl

pub lived-shuts : (start : Start) (s : ℕ) (past : List Event) (l : Life) → lived start s past Shuts l ≡ Some (Then (now past) Stopped l)
unfolding lived concerns deed_at now
lived-shuts start s past l = refl

-- whatever the event is: nothing, or a deed
pub lived_is : (start : Start) (s : ℕ) (past : List Event) (e : Event) (l : Life) (P : Option Life → Type 0) → P None → ((d : Deed) → P (Some (Then (now (e ∷ past)) d l))) → P (lived start s past e l)
unfolding lived
lived_is start s past e l P none some = by_tests (concerns (tag_of start.place s) (birth l) e) (deed_at start past e l)
  where
    by_tests : (c : Bool) (o : Option Deed) → P (if c then option_map (λ d. Then (now (e ∷ past)) d l) o else None)
    by_tests true (Some d) = some d
    by_tests true None = none
    by_tests false o = none

-- ---- what a request that is heard makes of the last accepted one and of the last grant

pub address-accepted : (limits : Limits) (t : ℕ) (source : Addr) (r : Request) (l : Life) → accepts limits l r ≡ true → address limits (Then t (Heard source r) l) ≡ source
unfolding address last_heard birth
address-accepted limits t source r l e = ap (λ (d : Bool). (if d then hearing t source r else last_accepted limits l).source) e

pub address-refused : (limits : Limits) (t : ℕ) (source : Addr) (r : Request) (l : Life) → accepts limits l r ≡ false → address limits (Then t (Heard source r) l) ≡ address limits l
unfolding address last_heard birth
address-refused limits t source r l e = ap (λ (d : Bool). (if d then hearing t source r else last_accepted limits l).source) e

pub cseq-accepted : (limits : Limits) (t : ℕ) (source : Addr) (r : Request) (l : Life) → accepts limits l r ≡ true → accepted_cseq limits (Then t (Heard source r) l) ≡ r.head.cseq
unfolding accepted_cseq last_heard birth
cseq-accepted limits t source r l e = ap (λ (d : Bool). (if d then hearing t source r else last_accepted limits l).request.head.cseq) e

pub cseq-refused : (limits : Limits) (t : ℕ) (source : Addr) (r : Request) (l : Life) → accepts limits l r ≡ false → accepted_cseq limits (Then t (Heard source r) l) ≡ accepted_cseq limits l
unfolding accepted_cseq last_heard birth
cseq-refused limits t source r l e = ap (λ (d : Bool). (if d then hearing t source r else last_accepted limits l).request.head.cseq) e

pub end-granted : (limits : Limits) (t : ℕ) (source : Addr) (r : Request) (l : Life) → grants limits l r ≡ true → end_of_grant limits (Then t (Heard source r) l) ≡ t + granted limits r
unfolding end_of_grant last_heard birth
end-granted limits t source r l e = ap (λ (d : Bool). end_of limits (if d then hearing t source r else last_grant limits l)) e

pub end-not_granted : (limits : Limits) (t : ℕ) (source : Addr) (r : Request) (l : Life) → grants limits l r ≡ false → end_of_grant limits (Then t (Heard source r) l) ≡ end_of_grant limits l
unfolding end_of_grant last_heard birth
end-not_granted limits t source r l e = ap (λ (d : Bool). end_of limits (if d then hearing t source r else last_grant limits l)) e

pub target-granted : (limits : Limits) (t : ℕ) (source : Addr) (r : Request) (l : Life) → grants limits l r ≡ true → target limits (Then t (Heard source r) l) ≡ unwrap_or (value_of r.contact) (target limits l)
unfolding target last_heard birth
target-granted limits t source r l e =
    ap (λ (d : Bool). or_empty (value_of (if d && is_some (value_of r.contact) then hearing t source r else last_heard (retargets limits l) l).request.contact)) e
    ∙ by_contact (value_of r.contact) refl
  where
    by_contact : (o : Option (List ℕ)) → value_of r.contact ≡ o
        → or_empty (value_of (if is_some (value_of r.contact) then hearing t source r else last_heard (retargets limits l) l).request.contact) ≡ unwrap_or (value_of r.contact) (target limits l)
    by_contact None same = rw same refl
    by_contact (Some contact) same = rw same (ap or_empty same)

pub target-not_granted : (limits : Limits) (t : ℕ) (source : Addr) (r : Request) (l : Life) → grants limits l r ≡ false → target limits (Then t (Heard source r) l) ≡ target limits l
unfolding target last_heard birth
target-not_granted limits t source r l e =
    ap (λ (d : Bool). or_empty (value_of (if d && is_some (value_of r.contact) then hearing t source r else last_heard (retargets limits l) l).request.contact)) e
