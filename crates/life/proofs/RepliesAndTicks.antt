-- The steps at which no request comes.
use Rattle.std.proofs.Common.{◌≡◌, ℕ, ◌+◌, ◌-◌, ◌<◌, List, [], ◌∷◌, ◌++◌, Option, Some, None, Bool, true, false, ◌&&◌, refl, sym, ◌∙◌, ap, subst, arith}
use Rattle.std.specs.Prelude.{if◌then◌else◌, nat_le, nat_lt, max, take, bytes_eq, codes, option_map}
use Rattle.std.specs.List.{list_any}
use Rattle.std.proofs.lemmas.Bool.Decides.{nat_tests}
use Rattle.package.specs.declared.counts.Counts.{Counts}
use Rattle.package.specs.Content.{Content, OfMail, OfStatus, refer_package, Seen, is_final}
use Rattle.life.proofs.Texts.{Bytes, and-false}
use Rattle.sip_read.specs.declared.message.Response.{Response}
use Rattle.package.specs.declared.counts.Class.{Class}
use Rattle.package.specs.declared.counts.Class.TheVariants.{Voice, Fax, Pager, Multimedia, Text}
use Rattle.package.specs.Boxes.{content_in}
use Rattle.package.specs.Bodies.{body_of_held, status_body}
use Rattle.subscription.specs.declared.notify.Reason.{Reason}
use Rattle.subscription.specs.declared.notify.Reason.TheVariants.{Timeout, Deactivated}
use Rattle.subscription.specs.Table.{end, over, is_answer_to, refuses, is_tag}
use Rattle.notifier_model.specs.Start.{Start, tag_of, last_moment, patience}
use Rattle.notifier_model.specs.declared.event.Event.{Event}
use Rattle.notifier_model.specs.declared.event.Event.TheVariants.{Request as Comes, Reply as Replies, Mail as Mails, Progress as Progresses, Tick as Ticks, Shut as Shuts}
use Rattle.notifier_model.specs.Requests.{is_refer, user_part, event_of, is_of_refer}
use Rattle.notifier_model.specs.declared.row.Row.{Row}
use Rattle.notifier_model.specs.declared.row.Unanswered.{Unanswered}
use Rattle.notifier_model.specs.Book.{Book, nothing, all_rows, telling, replied, ticked, shut, step}
use Rattle.notifier_model.specs.Rows.{Turned, stays, goes, wherever, with_sub, tells, ends, sweep, closed, takes_answer, answered, is_overdue as is_overdue_row, times_out, stops}
use Rattle.notifier_model.specs.Out.{Send, notifications}
use Rattle.life.specs.Past.{now, content, mail_content, last_counts, keys}
use Rattle.life.specs.Life.{Deed, Life, Then, Due, Answered, Disowned, Lost, Stopped, birth, last_heard, address, number, end_of_grant, status, is_touched, unanswered, is_overdue, ended, terminated, is_removed, is_gone, target}
use Rattle.life.specs.Lives.{is_answer_in_dialog, is_to_notify, answer_deed, tick_deed, is_due, when, lived, births, life, birth_at, begun}
use Rattle.life.specs.Notices.{notices_at, body}
use Rattle.life.proofs.Rows.{row_of, sub_of, want_of, usage_of, accepted_cseq, last_cseq, live_row, rows_to, left, said}
use Rattle.life.proofs.Deeds.{lived-replies, lived-ticks, lived-shuts}
use Rattle.life.proofs.NextLives.{births-of_none, Ranges}
use Rattle.life.proofs.SoundLives.{sound_of, came, lived-birth, lived-status, next-birth, next-status, is_progress}
use Rattle.life.proofs.Turns.{told_from, Follows, Knows, knows_on, over_follows}
use Rattle.life.proofs.AllRows.{TurnsInto, Rules, by_rule}
use Rattle.life.proofs.Invariant.{forgot, forgot-is, keys_of, Transfers, Holdings, Holds, Goes, forget_holdings}

-- a rule for all rows, of a book that is otherwise as after e
pub by_all_rows : (start : Start) (past : List Event) (e : Event) (b : Book) (rule : Row → Turned) (outs : List Send) → Ranges start.place.limits → birth_at start past e ≡ None
    → b.clock ≡ now (e ∷ past) → b.next ≡ births start past + 1 → b.rows ≡ rows_to start (life start past) (births start past) → Holdings start (e ∷ past) b.boxes → keys_of b.ring ≡ take start.place.limits.kept (keys start.place.limits (e ∷ past))
    → ((tag : Bytes) (more : List Send) → notifications tag (outs ++ more) ≡ notifications tag more) → Rules start past e rule → Goes start past e (all_rows b rule outs)
unfolding all_rows
by_all_rows start past e b rule outs ok none clock next rows hold ring silent h =
    let ruled = by_rule start past e rule ok none h in
    record {
      book = record {
        clock_is = clock;
        next_is = rw (births-of_none start past e none) next;
        rows_are = rw rows ruled.rows;
        boxes_hold = subst (λ (bs : List Seen). Holdings start (e ∷ past) bs) (sym (forgot-is rule b.rows b.boxes)) (subst (λ (rs : List Row). Holdings start (e ∷ past) (forgot rule rs b.boxes)) (sym rows) (forget_holdings start past e rule b.boxes ok none h hold));
        ring_is = ring;
      };
      notices = λ k small. silent (tag_of start.place k) (said rule b.rows) ∙ rw rows (ruled.notices k small);
    }

left-stays : (rows : List Row) → left stays rows ≡ rows
unfolding sweep stays
left-stays [] = refl
left-stays (r ∷ rows) = ap (λ (rs : List Row). r ∷ rs) (left-stays rows)

said-stays : (rows : List Row) → said stays rows ≡ []
unfolding sweep stays
said-stays [] = refl
said-stays (r ∷ rows) = said-stays rows

-- an event that changes no row
pub by_nothing : (start : Start) (past : List Event) (e : Event) (b : Book) (outs : List Send) → Ranges start.place.limits → birth_at start past e ≡ None
    → b.clock ≡ now (e ∷ past) → b.next ≡ births start past + 1 → b.rows ≡ rows_to start (life start past) (births start past) → Holdings start (e ∷ past) b.boxes → keys_of b.ring ≡ take start.place.limits.kept (keys start.place.limits (e ∷ past))
    → ((tag : Bytes) → notifications tag outs ≡ []) → Rules start past e stays → Goes start past e (record { book = b; outs = outs })
unfolding notifications
by_nothing start past e b outs ok none clock next rows hold ring silent h =
    let ruled = by_rule start past e stays ok none h in
    record {
      book = record { clock_is = clock; next_is = rw (births-of_none start past e none) next; rows_are = rows ∙ (sym (left-stays _) ∙ ruled.rows); boxes_hold = hold; ring_is = ring };
      notices = λ k small. silent (tag_of start.place k) ∙ (sym (ap (notifications (tag_of start.place k)) (said-stays (rows_to start (life start past) (births start past)))) ∙ ruled.notices k small);
    }

-- ---- events that change no content

abbrev pub is_quiet : Event → Bool
is_quiet (Comes source r) = true
is_quiet (Replies r) = true
is_quiet (Mails m) = false
is_quiet (Progresses p) = false
is_quiet (Ticks t) = true
is_quiet Shuts = true

mail_content-same : (mailbox : Bytes) (past es : List Event) → ((class : Class) (first : Option Counts) → last_counts mailbox class first es ≡ last_counts mailbox class first past) → (o : Option Content) → mail_content mailbox es o ≡ mail_content mailbox past o
unfolding mail_content
mail_content-same mailbox past es h None = refl
mail_content-same mailbox past es h (Some (OfStatus code reason)) = refl
mail_content-same mailbox past es h (Some (OfMail first)) = rw (h Voice first.voice, h Fax first.fax, h Pager first.pager, h Multimedia first.multimedia, h Text first.text) refl

pub quiet-counts : (mailbox : Bytes) (past : List Event) (e : Event) → is_quiet e ≡ true → (class : Class) (first : Option Counts) → last_counts mailbox class first (e ∷ past) ≡ last_counts mailbox class first past
unfolding last_counts
quiet-counts mailbox past (Comes source r) q class first = refl
quiet-counts mailbox past (Replies r) q class first = refl
quiet-counts mailbox past (Mails m) q class first = absurd (cc)
quiet-counts mailbox past (Progresses p) q class first = absurd (cc)
quiet-counts mailbox past (Ticks t) q class first = refl
quiet-counts mailbox past Shuts q class first = refl

pub content-same : (start : Start) (past : List Event) (e : Event) (name resource : Bytes) → ((class : Class) (first : Option Counts) → last_counts resource class first (e ∷ past) ≡ last_counts resource class first past) → content start (e ∷ past) name resource ≡ content start past name resource
unfolding content
content-same start past e name resource h = rw (mail_content-same resource past (e ∷ past) h (content_in start.boxes name resource)) refl

not_both : (e : Event) → is_quiet e ≡ true → is_progress e ≡ false
not_both (Comes source r) q = refl
not_both (Replies r) q = refl
not_both (Mails m) q = refl
not_both (Progresses p) q = absurd (cc)
not_both (Ticks t) q = refl
not_both Shuts q = refl

-- the transfers of those that live on
pub transfers_same : (start : Start) (past : List Event) (e : Event) (boxes : List Seen) → birth_at start past e ≡ None → is_progress e ≡ false → Transfers start past boxes → Transfers start (e ∷ past) boxes
transfers_same start past e boxes none other h s m is alive refers =
    let from = came start past e s m none is alive in
    let same = next-birth from.before m (lived start s past e from.before) (lived-birth start s past e from.before) from.next in
    let now_as = next-status from.before m (lived start s past e from.before) (lived-status start s past e from.before other) from.next in
    h s from.before from.is from.alive (ap is_refer (sym same) ∙ refers) ∙ ap (λ (st : ℕ × Bytes). Some (OfStatus st.0 st.1)) (sym now_as)

pub holdings_quiet : (start : Start) (past : List Event) (e : Event) (boxes : List Seen) → birth_at start past e ≡ None → is_quiet e ≡ true → Holdings start past boxes → Holdings start (e ∷ past) boxes
holdings_quiet start past e boxes none quiet hold = record {
  types = hold.types;
  contents = λ name resource f. hold.contents name resource f ∙ sym (content-same start past e name resource (quiet-counts resource past e quiet));
  transfers = transfers_same start past e boxes none (not_both e quiet) hold.transfers;
  not_begun = λ s later small. hold.not_begun s (rw (← births-of_none start past e none) later) small;
}

-- ---- the body of a NOTIFY

pub body-is : (start : Start) (es : List Event) (boxes : List Seen) (s : ℕ) (l : Life)
    → (is_refer (birth l) ≡ false → is_of_refer (event_of (birth l)) ≡ false)
    → ((name resource : Bytes) → bytes_eq name refer_package ≡ false → content_in boxes name resource ≡ content start es name resource)
    → (is_refer (birth l) ≡ true → content_in boxes refer_package (tag_of start.place s) ≡ Some (OfStatus (status l).0 (status l).1))
    → body_of_held (content_in boxes (want_of start s l).event.package (want_of start s l).resource) ≡ body start es l
unfolding want_of body event_of
body-is start es boxes s l plain contents transfer = by_refer (is_refer (birth l)) refl
  where
    by_refer : (d : Bool) → is_refer (birth l) ≡ d → body_of_held (content_in boxes (event_of (birth l)).package (if d then tag_of start.place s else user_part (birth l).uri)) ≡ (if d then status_body (status l).0 (status l).1 else body_of_held (content start es (event_of (birth l)).package (user_part (birth l).uri)))
    by_refer true e =
        let named : (event_of (birth l)).package ≡ refer_package = unfold event_of in (rw e refl) in
        subst (λ (name : Bytes). body_of_held (content_in boxes name (tag_of start.place s)) ≡ status_body (status l).0 (status l).1) (sym named) (ap body_of_held (transfer e))
    by_refer false e = ap body_of_held (contents (event_of (birth l)).package (user_part (birth l).uri) (plain e))

-- ---- a reply

-- what removes it tells nothing
pub goes_follows : (start : Start) (s : ℕ) (es : List Event) (m : Life) → is_touched start.place.limits m ≡ false → is_removed m ≡ true → Follows start s es goes m
unfolding goes live_row notices_at notifications is_gone terminated
goes_follows start s es m untouched removed = record { row = rw (untouched, removed) refl; own = rw untouched refl; others = λ tag f. refl }

-- an answer closes its NOTIFY
answered_follows : (start : Start) (s : ℕ) (es : List Event) (moment n : ℕ) (l : Life) → is_gone start.place.limits l ≡ false → Follows start s es (stays (closed n (row_of start s l))) (Then moment (Answered n) l)
unfolding stays closed notices_at notifications live_row is_gone terminated is_touched is_removed row_of sub_of usage_of want_of target accepted_cseq number address end_of_grant last_heard birth last_cseq unanswered
answered_follows start s es moment n l alive = record { row = rw (zero_more (number start.place.limits l)) refl; own = refl; others = λ tag f. refl }
  where
    zero_more : (n : ℕ) → n + 0 ≡ n
    zero_more n = omega arith

by_dialog : (a b c d : Bool) → (a && (b && (c && d))) ≡ ((b && c) && (a && d))
by_dialog a true true d = refl
by_dialog a true false d = and-false a
by_dialog a false c d = and-false a

-- an answer to the row's NOTIFY is one in the dialog of the life, to one of its NOTIFYs
answer-is : (start : Start) (r : Response) (s : ℕ) (l : Life) → is_answer_to (row_of start s l).sub r ≡ (is_answer_in_dialog (tag_of start.place s) (birth l) r && is_to_notify start.place.limits r l)
unfolding is_answer_to is_answer_in_dialog is_to_notify row_of sub_of usage_of
answer-is start r s l =
    by_dialog (bytes_eq r.head.cseq_method (codes "NOTIFY")) (bytes_eq r.head.call_id (birth l).head.call_id) (is_tag r.head.from.tag (tag_of start.place s)) (nat_le 1 r.head.cseq && nat_le r.head.cseq (number start.place.limits l))

reply_turns : (start : Start) (past : List Event) (r : Response) → Rules start past (Replies r) (answered r)
unfolding answered wherever takes_answer answer_deed
reply_turns start past r s l is alive = rw (lived-replies start s past r l, answer-is start r s l) (by_test (is_answer_in_dialog (tag_of start.place s) (birth l) r && is_to_notify start.place.limits r l))
  where
    by_status : (a b : Bool) → TurnsInto start s (Replies r ∷ past) (if a then goes else if b then stays (closed r.head.cseq (row_of start s l)) else stays (row_of start s l)) l (option_map (λ d. Then (now past) d l) (if a then Some Disowned else when b (Answered r.head.cseq)))
    by_status true b = goes_follows start s (Replies r ∷ past) (Then (now past) Disowned l) (unfold is_touched in refl) (unfold is_removed in refl)
    by_status false true = answered_follows start s (Replies r ∷ past) (now past) r.head.cseq l alive
    by_status false false = refl

    by_test : (d : Bool) → TurnsInto start s (Replies r ∷ past) (if d then takes_answer r (row_of start s l) else stays (row_of start s l)) l (if d then option_map (λ x. Then (now past) x l) (answer_deed r) else None)
    by_test true = by_status (refuses r) (is_final r.status)
    by_test false = refl

pub reply_goes : (start : Start) (past : List Event) (r : Response) (b : Book) → Ranges start.place.limits → Holds start past b → Goes start past (Replies r) (step start.place b (Replies r))
unfolding step replied now keys birth_at begun
reply_goes start past r b ok h =
    by_all_rows start past (Replies r) b (answered r) [] ok refl h.clock_is h.next_is h.rows_are (holdings_quiet start past (Replies r) b.boxes refl refl h.boxes_hold) h.ring_is (λ tag more. refl) (reply_turns start past r)

-- ---- a last NOTIFY

-- it ends with a last NOTIFY
pub ended_follows : (start : Start) (es : List Event) (boxes : List Seen) (clock s : ℕ) (l m : Life) (reason : Reason) → number start.place.limits l + 1 ≡ number start.place.limits m → address start.place.limits l ≡ address start.place.limits m → body_of_held (content_in boxes (want_of start s l).event.package (want_of start s l).resource) ≡ body start es m → Knows start (usage_of start s l) (want_of start s l) m
    → is_touched start.place.limits m ≡ true → terminated start.place.limits m ≡ Some reason → Follows start s es (tells (told_from start.place boxes clock) (row_of start s l) (over (end (row_of start s l).sub reason))) m
unfolding tells end row_of sub_of usage_of want_of
ended_follows start es boxes clock s l m reason num at b knows touched out =
    over_follows start boxes clock (address start.place.limits l) (with_sub (row_of start s l)) (usage_of start s l) (want_of start s l) (number start.place.limits l + 1) reason s es m refl num at b knows touched out

-- the body after an event that changes no content, without a birth
quiet_body : (start : Start) (past : List Event) (e : Event) (boxes : List Seen) (s : ℕ) (l : Life) (moment : ℕ) (deed : Deed) → Ranges start.place.limits → birth_at start past e ≡ None → is_quiet e ≡ true → Holdings start past boxes → life start past s ≡ Some l → is_gone start.place.limits l ≡ false → status (Then moment deed l) ≡ status l
    → body_of_held (content_in boxes (want_of start s l).event.package (want_of start s l).resource) ≡ body start (e ∷ past) (Then moment deed l)
quiet_body start past e boxes s l moment deed ok none quiet hold is alive same =
    body-is start (e ∷ past) boxes s l (sound_of start past s l ok is).plain (holdings_quiet start past e boxes none quiet hold).contents (hold.transfers s l is alive)
    ∙ (unfold body birth in ap (λ (st : ℕ × Bytes). if is_refer (birth l) then status_body st.0 st.1 else body_of_held (content start (e ∷ past) (event_of (birth l)).package (user_part (birth l).uri))) (sym same))

-- ---- the planned stop

shut_turns : (start : Start) (past : List Event) (b : Book) → Ranges start.place.limits → Holdings start past b.boxes → Rules start past Shuts (stops (telling start.place b))
unfolding stops ends
shut_turns start past b ok hold s l is alive = rw (lived-shuts start s past l)
    (ended_follows start (Shuts ∷ past) b.boxes b.clock s l (Then (now past) Stopped l) Deactivated (unfold number is_touched in refl) (unfold address last_heard birth in refl)
    (quiet_body start past Shuts b.boxes s l (now past) Stopped ok (unfold birth_at begun in refl) refl hold is alive (unfold status in refl)) (knows_on start s l _ (unfold birth in refl) (unfold target last_heard birth in refl)) (unfold is_touched in refl) (unfold terminated is_touched ended in refl))

pub shut_goes : (start : Start) (past : List Event) (b : Book) → Ranges start.place.limits → Holds start past b → Goes start past Shuts (step start.place b Shuts)
unfolding step shut now keys birth_at begun
shut_goes start past b ok h =
    by_all_rows start past Shuts b (stops (telling start.place b)) [] ok refl h.clock_is h.next_is h.rows_are (holdings_quiet start past Shuts b.boxes refl refl h.boxes_hold) h.ring_is (λ tag more. refl) (shut_turns start past b ok h.boxes_hold)

-- ---- a Tick

any-same : (p q : Unanswered → Bool) (xs : List Unanswered) → ((x : Unanswered) → p x ≡ q x) → list_any p xs ≡ list_any q xs
any-same p q [] h = refl
any-same p q (x ∷ xs) h = rw (h x, any-same p q xs h) refl

-- the row has a NOTIFY that is late where the life has
overdue-is : (start : Start) (s : ℕ) (l : Life) (clock : ℕ) → is_overdue_row clock (row_of start s l) ≡ is_overdue start.place.limits clock l
unfolding is_overdue_row is_overdue row_of
overdue-is start s l clock = any-same _ _ (unanswered start.place.limits l) (λ notify. since notify.moment)
  where
    since : (moment : ℕ) → nat_le patience (clock - moment) ≡ nat_le (moment + patience) clock
    since moment = grind (arith, nat_tests)

tick_turns : (start : Start) (past : List Event) (t : ℕ) (b : Book) → Ranges start.place.limits → b.clock ≡ now (Ticks t ∷ past) → Holdings start past b.boxes → Rules start past (Ticks t) (times_out (telling start.place b))
unfolding times_out wherever ends tick_deed is_due
tick_turns start past t b ok clock hold s l is alive = unfold row_of sub_of in rw (lived-ticks start s past t l, overdue-is start s l b.clock, clock) (by_tests (is_overdue start.place.limits (now (Ticks t ∷ past)) l) (nat_le (end_of_grant start.place.limits l) (now (Ticks t ∷ past))))
  where
    follows : Follows start s (Ticks t ∷ past) (tells (told_from start.place b.boxes (now (Ticks t ∷ past))) (row_of start s l) (over (end (row_of start s l).sub Timeout))) (Then (now (Ticks t ∷ past)) Due l)
    follows = ended_follows start (Ticks t ∷ past) b.boxes (now (Ticks t ∷ past)) s l (Then (now (Ticks t ∷ past)) Due l) Timeout (unfold number is_touched in refl) (unfold address last_heard birth in refl)
        (quiet_body start past (Ticks t) b.boxes s l (now (Ticks t ∷ past)) Due ok (unfold birth_at begun in refl) refl hold is alive (unfold status in refl)) (knows_on start s l _ (unfold birth in refl) (unfold target last_heard birth in refl)) (unfold is_touched in refl) (unfold terminated is_touched ended in refl)

    by_tests : (a d : Bool) → TurnsInto start s (Ticks t ∷ past) (if a then goes else if d then tells (told_from start.place b.boxes (now (Ticks t ∷ past))) (row_of start s l) (over (end (row_of start s l).sub Timeout)) else stays (row_of start s l)) l (option_map (λ x. Then (now (Ticks t ∷ past)) x l) (if a then Some Lost else when d Due))
    by_tests true d = goes_follows start s (Ticks t ∷ past) (Then (now (Ticks t ∷ past)) Lost l) (unfold is_touched in refl) (unfold is_removed in refl)
    by_tests false true = follows
    by_tests false false = refl

tick_nothing : (start : Start) (past : List Event) (t : ℕ) → nat_lt last_moment t ≡ true → Ranges start.place.limits → Rules start past (Ticks t) stays
unfolding tick_deed is_due now
tick_nothing start past t late ok s l is alive =
    let above : nat_le t last_moment ≡ false = grind (arith, nat_tests) in
    let sound = sound_of start past s l ok is in
    rw (lived-ticks start s past t l, above, sound.patient alive, not_yet (end_of_grant start.place.limits l) (now past) (sound.time alive)) refl
  where
    not_yet : (a b : ℕ) → b < a → nat_le a b ≡ false
    not_yet a b h = grind (arith, nat_tests)

now-early : (past : List Event) (t : ℕ) → nat_lt last_moment t ≡ false → now (Ticks t ∷ past) ≡ max (now past) t
unfolding now
now-early past t early = let within : nat_le t last_moment ≡ true = grind (arith, nat_tests) in rw within refl

now-late : (past : List Event) (t : ℕ) → nat_lt last_moment t ≡ true → now (Ticks t ∷ past) ≡ now past
unfolding now
now-late past t late = let above : nat_le t last_moment ≡ false = grind (arith, nat_tests) in rw above refl

pub tick_goes : (start : Start) (past : List Event) (t : ℕ) (b : Book) → Ranges start.place.limits → Holds start past b → Goes start past (Ticks t) (step start.place b (Ticks t))
unfolding step ticked keys birth_at begun nothing
tick_goes start past t b ok h = by_time (nat_lt last_moment t) refl
  where
    after : Holdings start (Ticks t ∷ past) b.boxes
    after = holdings_quiet start past (Ticks t) b.boxes refl refl h.boxes_hold

    clock : nat_lt last_moment t ≡ false → max b.clock t ≡ now (Ticks t ∷ past)
    clock e = ap (λ (n : ℕ). max n t) h.clock_is ∙ sym (now-early past t e)

    by_time : (d : Bool) → nat_lt last_moment t ≡ d → Goes start past (Ticks t) (if d then record { book = b; outs = [] } else all_rows (record b { clock = max b.clock t }) (times_out (told_from start.place b.boxes (max b.clock t))) [])
    by_time true e =
        by_nothing start past (Ticks t) b [] ok refl (h.clock_is ∙ sym (now-late past t e)) h.next_is h.rows_are after h.ring_is (λ tag. unfold notifications in refl) (tick_nothing start past t e ok)
    by_time false e =
        by_all_rows start past (Ticks t) (record b { clock = max b.clock t }) (times_out (told_from start.place b.boxes (max b.clock t))) [] ok refl (clock e) h.next_is h.rows_are after h.ring_is (λ tag more. refl)
        (tick_turns start past t (record b { clock = max b.clock t }) ok (clock e) h.boxes_hold)
