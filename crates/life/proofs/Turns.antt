-- What a turn of the book's subscription tells is what the life says then.
use Rattle.std.proofs.Common.{◌≡◌, ℕ, ◌-◌, List, [], ◌∷◌, Option, Some, None, Bool, true, false, refl, sym, ◌∙◌, ap, subst}
use Rattle.std.specs.Prelude.{if◌then◌else◌, ◌==◌, bytes_eq}
use Rattle.life.proofs.Texts.{Bytes, bytes_own}
use Rattle.sip_text.specs.declared.address.Addr.{Addr}
use Rattle.event_headers.specs.Values.{StateValue}
use Rattle.package.specs.Content.{Seen}
use Rattle.package.specs.Boxes.{content_in}
use Rattle.package.specs.Bodies.{body_of_held}
use Rattle.subscription.specs.declared.terms.Usage.{Usage}
use Rattle.subscription.specs.declared.terms.Want.{Want}
use Rattle.subscription.specs.State.{State}
use Rattle.subscription.specs.declared.notify.Reason.{Reason}
use Rattle.subscription.specs.declared.notify.Reason.TheVariants.{Deactivated}
use Rattle.subscription.specs.declared.notify.Phase.TheVariants.{Active, Terminated}
use Rattle.subscription.specs.declared.life.Step.TheVariants.{Live, Over}
use Rattle.subscription.specs.Table.{told}
use Rattle.subscription.specs.Written.{state_of}
use Rattle.notifier_model.specs.Limits.{Limits}
use Rattle.notifier_model.specs.Start.{Start, tag_of}
use Rattle.notifier_model.specs.declared.event.Event.{Event}
use Rattle.sip_write.specs.Notify.{NotifyText}
use Rattle.notifier_model.specs.declared.row.Row.{Row}
use Rattle.package.specs.Content.{finite_maps}
use Rattle.notifier_model.specs.declared.place.Place.{Place}
use Rattle.sip_read.specs.declared.message.Request.{Request}
use Rattle.notifier_model.specs.Requests.{is_refer, is_of_refer, user_part, event_of}
use Rattle.notifier_model.specs.Rows.{Telling, Turned, mailbox_of, opened, turned, notify}
use Rattle.notifier_model.specs.Out.{Notifies, Notification, notification, notifications}
use Rattle.life.specs.Past.{now}
use Rattle.life.specs.Life.{Life, birth, mailbox, target, address, number, end_of_grant, is_touched, ended, terminated, is_removed, is_gone}
use Rattle.life.specs.Notices.{phase, body, notice_of, notices_at}
use Rattle.life.proofs.Rows.{usage_of, want_of, sub_of, row_of, live_row}

abbrev pub told_from : Place → List Seen → ℕ → Telling finite_maps
told_from place boxes clock = record { place = place; boxes = boxes; clock = clock }

-- a row after it was told, and what the life says then
pub record Follows (start : Start) (serial : ℕ) (es : List Event) (told : Turned) (l : Life) : Type 0 where
  pub row : told.row ≡ live_row start serial (Some l)
  pub own : notifications (tag_of start.place serial) told.notifies ≡ notices_at start es (Some l)
  pub others : (tag : Bytes) → bytes_eq (tag_of start.place serial) tag ≡ false → notifications tag told.notifies ≡ []

-- what a NOTIFY tells of this dialog and of what it asked for is who watches in this life, what, its remote target, and its Call-ID
pub record Knows (start : Start) (usage : Usage) (asked : Want) (l : Life) : Type 0 where
  pub watcher : usage.remote ≡ (birth l).head.from.text
  pub watched : mailbox_of asked ≡ mailbox l
  pub target : usage.target ≡ target start.place.limits l
  pub call_id : usage.call_id ≡ (birth l).head.call_id

-- a REFER makes the event `refer`
pub watched-is : (r : Request) (tag : Bytes) → (if is_of_refer (event_of r) then None else Some (if is_refer r then tag else user_part r.uri)) ≡ (if is_of_refer (event_of r) then None else Some (user_part r.uri))
unfolding event_of
watched-is r tag = by_refer (is_refer r) refl
  where
    by_refer : (d : Bool) → is_refer r ≡ d → (if is_of_refer (event_of r) then None else Some (if is_refer r then tag else user_part r.uri)) ≡ (if is_of_refer (event_of r) then None else Some (user_part r.uri))
    by_refer true e = rw e refl
    by_refer false e = rw e refl

pub knows_own : (start : Start) (serial : ℕ) (l : Life) → Knows start (usage_of start serial l) (want_of start serial l) l
unfolding usage_of want_of mailbox
knows_own start serial l = record { watcher = refl; watched = watched-is (birth l) (tag_of start.place serial); target = refl; call_id = refl }

-- the same of a life that goes on
pub knows_on : (start : Start) (serial : ℕ) (l m : Life) → birth l ≡ birth m → target start.place.limits l ≡ target start.place.limits m → Knows start (usage_of start serial l) (want_of start serial l) m
unfolding mailbox
knows_on start serial l m born same =
    let own = knows_own start serial l in
    record {
      watcher = own.watcher ∙ ap (λ (r : Request). r.head.from.text) born;
      watched = own.watched ∙ ap (λ (r : Request). if is_of_refer (event_of r) then None else Some (user_part r.uri)) born;
      target = own.target ∙ same;
      call_id = own.call_id ∙ ap (λ (r : Request). r.head.call_id) born;
    }

abbrev noticed : ℕ → StateValue → Bytes → Addr → Bytes → Option Bytes → Bytes → Bytes → Notification
noticed n s b a w m t c = record { number = n; state = s; body = b; to = a; watcher = w; mailbox = m; target = t; call_id = c }

-- one NOTIFY
notice-is : (start : Start) (es : List Event) (l : Life) (to : Addr) (watched : Option Bytes) (n : NotifyText) → n.number ≡ number start.place.limits l → n.state ≡ state_of (phase start.place.limits (now es) l (terminated start.place.limits l)) → n.body ≡ body start es l → to ≡ address start.place.limits l → n.remote ≡ (birth l).head.from.text → watched ≡ mailbox l → n.target ≡ target start.place.limits l → n.call_id ≡ (birth l).head.call_id → notification to watched n ≡ notice_of start es l
unfolding notice_of
notice-is start es l to watched n a b c d w m t i =
    let e : noticed n.number n.state n.body to n.remote watched n.target n.call_id ≡ noticed (number start.place.limits l) (state_of (phase start.place.limits (now es) l (terminated start.place.limits l))) (body start es l) (address start.place.limits l) (birth l).head.from.text (mailbox l) (target start.place.limits l) (birth l).head.call_id = cc in e

own_notify : (start : Start) (serial : ℕ) (es : List Event) (l : Life) (to : Addr) (watched : Option Bytes) (n : NotifyText) → is_touched start.place.limits l ≡ true → n.local_tag ≡ tag_of start.place serial → notification to watched n ≡ notice_of start es l → notifications (tag_of start.place serial) (Notifies to watched n ∷ []) ≡ notices_at start es (Some l)
unfolding notifications notices_at
own_notify start serial es l to watched n touched tag is =
    let own : bytes_eq n.local_tag (tag_of start.place serial) ≡ true = subst (λ (x : Bytes). bytes_eq x (tag_of start.place serial) ≡ true) (sym tag) (bytes_own (tag_of start.place serial)) in
    ap (λ (d : Bool). if d then notification to watched n ∷ [] else []) own ∙ (ap (λ (m : Notification). m ∷ []) is ∙ ap (λ (d : Bool). if d then notice_of start es l ∷ [] else []) (sym touched))

others_notify : (tag mine : Bytes) (to : Addr) (watched : Option Bytes) (n : NotifyText) → n.local_tag ≡ mine → bytes_eq mine tag ≡ false → notifications tag (Notifies to watched n ∷ []) ≡ []
unfolding notifications
others_notify tag mine to watched n e h =
    let other : bytes_eq n.local_tag tag ≡ false = subst (λ (x : Bytes). bytes_eq x tag ≡ false) (sym e) h in
    ap (λ (d : Bool). if d then notification to watched n ∷ [] else []) other

-- a turn after which no state is left
pub over_follows : (start : Start) (boxes : List Seen) (clock : ℕ) (to : Addr) (mk : State → Row) (usage : Usage) (asked : Want) (n : ℕ) (reason : Reason) (serial : ℕ) (es : List Event) (l : Life)
    → usage.local_tag ≡ tag_of start.place serial → n ≡ number start.place.limits l → to ≡ address start.place.limits l → body_of_held (content_in boxes asked.event.package asked.resource) ≡ body start es l → Knows start usage asked l
    → is_touched start.place.limits l ≡ true → terminated start.place.limits l ≡ Some reason → Follows start serial es (turned (told_from start.place boxes clock) to mk (Over usage asked (record { number = n; phase = Terminated reason }))) l
unfolding turned notify live_row is_gone phase
over_follows start boxes clock to mk usage asked n reason serial es l tag num at b knows touched out = record {
  row = rw out refl;
  own = own_notify start serial es l to (mailbox_of asked) (notify (told_from start.place boxes clock) usage asked (record { number = n; phase = Terminated reason })) touched tag (notice-is start es l to (mailbox_of asked) (notify (told_from start.place boxes clock) usage asked (record { number = n; phase = Terminated reason })) num (rw out refl) b at knows.watcher knows.watched knows.target knows.call_id);
  others = λ other h. others_notify other (tag_of start.place serial) to (mailbox_of asked) (notify (told_from start.place boxes clock) usage asked (record { number = n; phase = Terminated reason })) tag h;
}

-- a turn after which it goes on
live_follows : (start : Start) (boxes : List Seen) (clock : ℕ) (to : Addr) (mk : State → Row) (sub : State) (n left : ℕ) (serial : ℕ) (es : List Event) (l : Life)
    → sub.usage.local_tag ≡ tag_of start.place serial → n ≡ number start.place.limits l → to ≡ address start.place.limits l → body_of_held (content_in boxes sub.want.event.package sub.want.resource) ≡ body start es l → Knows start sub.usage sub.want l
    → opened clock (record { number = n; phase = Active left }) (mk sub) ≡ row_of start serial l → left ≡ end_of_grant start.place.limits l - now es
    → is_touched start.place.limits l ≡ true → terminated start.place.limits l ≡ None → is_removed l ≡ false → Follows start serial es (turned (told_from start.place boxes clock) to mk (Live sub (record { number = n; phase = Active left }))) l
unfolding turned notify live_row is_gone phase
live_follows start boxes clock to mk sub n left serial es l tag num at b knows row time touched out not_removed = record {
  row = rw (out, not_removed) (ap Some row);
  own = own_notify start serial es l to (mailbox_of sub.want) (notify (told_from start.place boxes clock) sub.usage sub.want (record { number = n; phase = Active left })) touched tag (notice-is start es l to (mailbox_of sub.want) (notify (told_from start.place boxes clock) sub.usage sub.want (record { number = n; phase = Active left })) num (rw (out, time) refl) b at knows.watcher knows.watched knows.target knows.call_id);
  others = λ other h. others_notify other (tag_of start.place serial) to (mailbox_of sub.want) (notify (told_from start.place boxes clock) sub.usage sub.want (record { number = n; phase = Active left })) tag h;
}

terminated-told : (limits : Limits) (l : Life) (d : Bool) → is_touched limits l ≡ true → ended limits l ≡ None → (number limits l == limits.max_cseq) ≡ d → terminated limits l ≡ (if d then Some Deactivated else None)
unfolding terminated
terminated-told limits l d touched goes_on e = rw (touched, goes_on, e) refl

-- a turn that tells of something that doesn't end it: the last number does
told_at : (start : Start) (boxes : List Seen) (clock : ℕ) (to : Addr) (mk : State → Row) (left : ℕ) (serial : ℕ) (es : List Event) (l : Life)
    → to ≡ address start.place.limits l → body_of_held (content_in boxes (want_of start serial l).event.package (want_of start serial l).resource) ≡ body start es l
    → opened clock (record { number = number start.place.limits l; phase = Active left }) (mk (sub_of start serial l)) ≡ row_of start serial l → left ≡ end_of_grant start.place.limits l - now es
    → is_touched start.place.limits l ≡ true → ended start.place.limits l ≡ None → is_removed l ≡ false → Follows start serial es (turned (told_from start.place boxes clock) to mk (told (sub_of start serial l) left)) l
unfolding told
told_at start boxes clock to mk left serial es l at b row time touched goes_on not_removed = unfold sub_of want_of in by_max (number start.place.limits l == start.place.limits.max_cseq) refl
  where
    by_max : (d : Bool) → (number start.place.limits l == start.place.limits.max_cseq) ≡ d → Follows start serial es (turned (told_from start.place boxes clock) to mk (if d then Over (sub_of start serial l).usage (sub_of start serial l).want (record { number = (sub_of start serial l).count; phase = Terminated Deactivated }) else Live (sub_of start serial l) (record { number = (sub_of start serial l).count; phase = Active left }))) l
    by_max true e = unfold sub_of usage_of in over_follows start boxes clock to mk (sub_of start serial l).usage (sub_of start serial l).want (sub_of start serial l).count Deactivated serial es l refl refl at b (knows_own start serial l) touched (terminated-told start.place.limits l true touched goes_on e)
    by_max false e = unfold sub_of usage_of in live_follows start boxes clock to mk (sub_of start serial l) (sub_of start serial l).count left serial es l refl refl at b (knows_own start serial l) row time touched (terminated-told start.place.limits l false touched goes_on e) not_removed

pub told_follows : (start : Start) (boxes : List Seen) (clock : ℕ) (to : Addr) (mk : State → Row) (sub : State) (left : ℕ) (serial : ℕ) (es : List Event) (l : Life)
    → sub ≡ sub_of start serial l → to ≡ address start.place.limits l → body_of_held (content_in boxes (want_of start serial l).event.package (want_of start serial l).resource) ≡ body start es l
    → opened clock (record { number = number start.place.limits l; phase = Active left }) (mk (sub_of start serial l)) ≡ row_of start serial l → left ≡ end_of_grant start.place.limits l - now es
    → is_touched start.place.limits l ≡ true → ended start.place.limits l ≡ None → is_removed l ≡ false → Follows start serial es (turned (told_from start.place boxes clock) to mk (told sub left)) l
told_follows start boxes clock to mk sub left serial es l is at b row time touched goes_on not_removed =
    subst (λ (x : State). Follows start serial es (turned (told_from start.place boxes clock) to mk (told x left)) l) (sym is) (told_at start boxes clock to mk left serial es l at b row time touched goes_on not_removed)
