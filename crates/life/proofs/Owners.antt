-- Each NOTIFY that goes out has the tag of a serial, and so is that of a notice of its life.
use Rattle.std.proofs.Common.{◌≡◌, ℕ, ◌+◌, ◌<◌, ◌≤◌, ◌^◌, List, [], ◌∷◌, ◌++◌, map, Option, Some, None, Bool, true, false, refl, sym, ◌∙◌, subst, arith, append_assoc}
use Prim.Native.Nat.{zero, suc}
use Rattle.std.specs.Prelude.{if◌then◌else◌, max, nat_lt, ◌==◌, bytes_eq, option_to_list}
use Rattle.std.specs.List.{Contains}
use Rattle.std.proofs.lemmas.List.Elements.{Contains-append_right}
use Rattle.sip_text.specs.declared.address.Addr.{Addr}
use Rattle.sip_read.specs.declared.message.Request.{Request}
use Rattle.sip_read.specs.declared.message.Response.{Response}
use Rattle.sip_write.specs.Notify.{NotifyText}
use Rattle.subscription.specs.declared.terms.Want.{Want}
use Rattle.subscription.specs.declared.notify.Reason.{Reason}
use Rattle.subscription.specs.declared.notify.Reason.TheVariants.{Timeout, Deactivated}
use Rattle.subscription.specs.declared.life.Step.{Step}
use Rattle.subscription.specs.declared.life.Step.TheVariants.{Live, Over}
use Rattle.subscription.specs.State.{State}
use Rattle.subscription.specs.Table.{told, accept, fetch, refresh, end, over, changed, refuses}
use Rattle.package.specs.declared.change.Outcome.{Outcome}
use Rattle.package.specs.declared.change.Outcome.TheVariants.{Changed, Same, Unknown}
use Rattle.package.specs.Content.{Seen, is_final, mail_package, refer_package}
use Rattle.package.specs.Boxes.{change_first}
use Rattle.package.specs.declared.change.Change.TheVariants.{Mail as MailTo, Step as StepOf}
use Rattle.notifier_model.specs.declared.place.Place.{Place}
use Rattle.notifier_model.specs.declared.event.Event.{Event}
use Rattle.notifier_model.specs.declared.event.Event.TheVariants.{Request as Comes, Reply as Replies, Mail as Mails, Progress as Progresses, Tick as Ticks, Shut as Shuts}
use Rattle.notifier_model.specs.declared.row.Row.{Row}
use Rattle.notifier_model.specs.Start.{Start, tag_of, last_moment}
use Rattle.notifier_model.specs.Requests.{is_refer, asks_nothing}
use Rattle.notifier_model.specs.Fields.{value_of, or_empty}
use Rattle.notifier_model.specs.Out.{Send, Answers, Notifies, Starts, out_of, notification, notifications}
use Rattle.notifier_model.specs.Rows.{Turned, notify, stays, goes, wherever, with_sub, turned, tells, ends, usage_after, sweep, has_serial, only, counted, renewed, renewed_sub, watches, tells_change, tells_watcher, is_due, is_overdue, times_out, stops, is_answered_by, takes_answer, answered}
use Rattle.notifier_model.specs.declared.birth.Birth.{Birth}
use Rattle.notifier_model.specs.declared.birth.Birth.TheVariants.{Watch, Fetch, Transfer, Unwatched}
use Rattle.notifier_model.specs.Book.{Book, Verdict, Silent, Repeated, Refused, Denied, Renewed, Born as Makes, new_usage, new_want, new_row, first_step, first_word, newborn, nothing, keeping, telling, refused, denied, accepted, all_rows, first_boxes, first_turned, first_told, born, verdict, served, content_changed, replied, ticked, shut, step}
use Rattle.notifier_model.specs.Run.{made, made_from, empty}
use Rattle.life.specs.Life.{Life, is_gone}
use Rattle.life.specs.Lives.{births}
use Rattle.life.specs.Laws.{IsStart, IsOfALife, AreOfLives, NoOtherLaw}
use Rattle.life.proofs.Texts.{Bytes, bytes_own, if_is}
use Rattle.life.proofs.NextLives.{Ranges, ranges}
use Rattle.life.proofs.Rows.{row_of, sub_of, usage_of, live_row, rows_to, said, notifications-append}
use Rattle.life.proofs.Turns.{told_from}
use Rattle.life.proofs.AllRows.{born_small}
use Rattle.life.proofs.Invariant.{Holds, Stepped}
use Rattle.life.proofs.Law.{step_goes, empty_holds, notices_law}
use Rattle.life.proofs.Outs.{of_record}

-- each NOTIFY among these has a tag of which this holds
abbrev AllTags : (Bytes → Type 0) → List Send → Type 0
AllTags P [] = Unit {0}
AllTags P (Answers to bytes ∷ more) = AllTags P more
AllTags P (Starts tag refer_to ∷ more) = AllTags P more
AllTags P (Notifies to mailbox n ∷ more) = P n.local_tag × AllTags P more

tags-append : (P : Bytes → Type 0) (xs ys : List Send) → AllTags P xs → AllTags P ys → AllTags P (xs ++ ys)
tags-append P [] ys p q = q
tags-append P (Answers to bytes ∷ xs) ys p q = tags-append P xs ys p q
tags-append P (Starts tag refer_to ∷ xs) ys p q = tags-append P xs ys p q
tags-append P (Notifies to mailbox n ∷ xs) ys p q = (p.0, tags-append P xs ys p.1 q)

-- ---- what is told of a row has its tag

abbrev Own : (Bytes → Type 0) → (Row → Turned) → Type 0
Own P rule = (row : Row) → P row.sub.usage.local_tag → AllTags P (rule row).notifies

turned-own : (place : Place) (boxes : List Seen) (clock : ℕ) (to : Addr) (mk : State → Row) (next : Step) (P : Bytes → Type 0) → P (usage_after next).local_tag → AllTags P (turned (told_from place boxes clock) to mk next).notifies
unfolding turned notify
turned-own place boxes clock to mk (Live sub notice) P p = (p, tt)
turned-own place boxes clock to mk (Over usage asked notice) P p = (p, tt)

told-own : (s : State) (left : ℕ) (P : Bytes → Type 0) → P s.usage.local_tag → P (usage_after (told s left)).local_tag
unfolding told
told-own s left P p = if_is (λ (next : Step). P (usage_after next).local_tag) (s.count == s.want.max_cseq) _ _ (λ e. p) (λ e. p)

counted-own : (P : Bytes → Type 0) (r : Request) → Own P (counted r)
unfolding counted stays
counted-own P r row p = tt

wherever-own : (P : Bytes → Type 0) (test : Row → Bool) (rule : Row → Turned) → Own P rule → Own P (wherever test rule)
unfolding wherever stays
wherever-own P test rule own row p = if_is (λ (t : Turned). AllTags P t.notifies) (test row) (rule row) (stays row) (λ e. own row p) (λ e. tt)

takes_answer-own : (P : Bytes → Type 0) (response : Response) → Own P (takes_answer response)
unfolding takes_answer stays goes
takes_answer-own P response row p =
    if_is (λ (t : Turned). AllTags P t.notifies) (refuses response) _ _ (λ e. tt) (λ e. if_is (λ (t : Turned). AllTags P t.notifies) (is_final response.status) _ _ (λ e. tt) (λ e. tt))

answered-own : (P : Bytes → Type 0) (response : Response) → Own P (answered response)
unfolding answered
answered-own P response = wherever-own P (is_answered_by response) (takes_answer response) (takes_answer-own P response)

ends-own : (P : Bytes → Type 0) (place : Place) (boxes : List Seen) (clock : ℕ) (reason : Reason) → Own P (ends (told_from place boxes clock) reason)
unfolding ends tells end
ends-own P place boxes clock reason row p = turned-own place boxes clock row.sub.want.to (with_sub row) (over (end row.sub reason)) P p

stops-own : (P : Bytes → Type 0) (place : Place) (boxes : List Seen) (clock : ℕ) → Own P (stops (told_from place boxes clock))
unfolding stops
stops-own P place boxes clock = ends-own P place boxes clock Deactivated

times_out-own : (P : Bytes → Type 0) (place : Place) (boxes : List Seen) (clock : ℕ) → Own P (times_out (told_from place boxes clock))
unfolding times_out goes
times_out-own P place boxes clock row p =
    if_is (λ (t : Turned). AllTags P t.notifies) (is_overdue clock row) goes (wherever (is_due clock) (ends (told_from place boxes clock) Timeout) row)
    (λ e. tt) (λ e. wherever-own P (is_due clock) (ends (told_from place boxes clock) Timeout) (ends-own P place boxes clock Timeout) row p)

changed-own : (s : State) (clock : ℕ) (is_over : Bool) (P : Bytes → Type 0) → P s.usage.local_tag → P (usage_after (changed s clock is_over)).local_tag
unfolding changed end
changed-own s clock true P p = p
changed-own s clock false P p = told-own (record s { count = s.count + 1 }) _ P p

tells_watcher-own : (P : Bytes → Type 0) (place : Place) (boxes : List Seen) (clock : ℕ) (name resource : Bytes) (is_over : Bool) → Own P (tells_watcher (told_from place boxes clock) name resource is_over)
unfolding tells_watcher
tells_watcher-own P place boxes clock name resource is_over = wherever-own P (watches name resource) (tells_change (told_from place boxes clock) is_over) change-own
  where
    change-own : Own P (tells_change (told_from place boxes clock) is_over)
    change-own row p = unfold tells_change tells in turned-own place boxes clock row.sub.want.to (with_sub row) (changed row.sub clock is_over) P (changed-own row.sub clock is_over P p)

renewed-own : (P : Bytes → Type 0) (place : Place) (boxes : List Seen) (clock : ℕ) (source : Addr) (r : Request) → Own P (renewed (told_from place boxes clock) source r)
unfolding renewed
renewed-own P place boxes clock source r row p =
    turned-own place boxes clock source (with_sub (record row { last_cseq = r.head.cseq })) (renewed_sub place clock source r row.sub) P by_time
  where
    by_time : P (usage_after (renewed_sub place clock source r row.sub)).local_tag
    by_time = unfold renewed_sub refresh end in if_is (λ (next : Step). P (usage_after next).local_tag) (asks_nothing place.limits r) _ _ (λ e. p) (λ e. told-own _ _ P p)

only-own : (P : Bytes → Type 0) (serial : ℕ) (rule : Row → Turned) → Own P rule → Own P (only serial rule)
unfolding only
only-own P serial rule own = wherever-own P (has_serial serial) rule own

-- ---- all rows

abbrev RowTags : (Bytes → Type 0) → List Row → Type 0
RowTags P [] = Unit {0}
RowTags P (row ∷ rows) = P row.sub.usage.local_tag × RowTags P rows

said-own : (P : Bytes → Type 0) (rule : Row → Turned) → Own P rule → (rows : List Row) → RowTags P rows → AllTags P (said rule rows)
unfolding sweep
said-own P rule own [] p = tt
said-own P rule own (row ∷ rows) p = tags-append P (rule row).notifies (said rule rows) (own row p.0) (said-own P rule own rows p.1)

rows-append : (P : Bytes → Type 0) (xs ys : List Row) → RowTags P xs → RowTags P ys → RowTags P (xs ++ ys)
rows-append P [] ys p q = q
rows-append P (x ∷ xs) ys p q = (p.0, rows-append P xs ys p.1 q)

-- the tag of a serial
abbrev IsTag : Start → Bytes → Type 0
IsTag start tag = (serial : ℕ) × (serial < 2 ^ 64) × (tag ≡ tag_of start.place serial)

one-tag : (start : Start) (s : ℕ) (o : Option Life) → s < 2 ^ 64 → RowTags (IsTag start) (option_to_list (live_row start s o))
unfolding live_row row_of sub_of usage_of
one-tag start s None small = tt
one-tag start s (Some l) small = if_is (λ (o : Option Row). RowTags (IsTag start) (option_to_list o)) (is_gone start.place.limits l) _ _ (λ e. tt) (λ e. ((s, small, refl), tt))

rows-tags : (start : Start) (life : ℕ → Option Life) (n : ℕ) → ((s : ℕ) → s ≤ n → s < 2 ^ 64) → RowTags (IsTag start) (rows_to start life n)
unfolding rows_to
rows-tags start life zero small = tt
rows-tags start life (suc n) small =
    rows-append (IsTag start) (rows_to start life n) (option_to_list (live_row start (suc n) (life (suc n)))) (rows-tags start life n (λ s le. small s (omega arith))) (one-tag start (suc n) (life (suc n)) (small (suc n) (omega arith)))

-- ---- a step

abbrev Tagged : Start → Stepped → Type 0
Tagged start stepped = AllTags (IsTag start) stepped.outs

abbrev Tags : Start → Book → Type 0
Tags start b = RowTags (IsTag start) b.rows

first-tag : (place : Place) (boxes : List Seen) (clock : ℕ) (tag : Bytes) (source : Addr) (r : Request) (serial : ℕ) (kind : Birth) (P : Bytes → Type 0) → P tag → AllTags P (first_told (told_from place boxes clock) source r (record { kind = kind; serial = serial; tag = tag })).notifies
unfolding first_told first_turned first_step goes
first-tag place boxes clock tag source r serial Watch P p = turned-own place boxes clock source (new_row serial r) _ P (unfold accept new_usage in told-own _ _ P p)
first-tag place boxes clock tag source r serial Fetch P p = turned-own place boxes clock source (new_row serial r) _ P (unfold fetch new_usage in p)
first-tag place boxes clock tag source r serial Transfer P p = turned-own place boxes clock source (new_row serial r) _ P (unfold accept new_usage in told-own _ _ P p)
first-tag place boxes clock tag source r serial Unwatched P p = tt

no_tags : (P : Bytes → Type 0) (tag : Bytes) (r : Request) → AllTags P (first_word tag r)
unfolding first_word
no_tags P tag r = if_is (AllTags P) (is_refer r) (Starts tag (or_empty (value_of r.refer_to)) ∷ []) [] (λ e. tt) (λ e. tt)

born-tags : (start : Start) (b : Book) (source : Addr) (r : Request) (kind : Birth) → b.next < 2 ^ 64 → Tagged start (born start.place b source r (newborn start.place b.next kind))
unfolding born
born-tags start b source r kind small =
    tags-append (IsTag start) (first_told (told_from start.place (first_boxes b.boxes (tag_of start.place b.next) kind) b.clock) source r (newborn start.place b.next kind)).notifies (first_word (tag_of start.place b.next) r)
    (first-tag start.place (first_boxes b.boxes (tag_of start.place b.next) kind) b.clock (tag_of start.place b.next) source r b.next kind (IsTag start) (b.next, small, refl))
    (no_tags (IsTag start) (tag_of start.place b.next) r)

served-tags : (start : Start) (b : Book) (source : Addr) (r : Request) (v : Verdict) → b.next < 2 ^ 64 → Tags start b → Tagged start (served start.place b source r v)
unfolding served nothing refused denied accepted all_rows keeping
served-tags start b source r Silent small p = tt
served-tags start b source r (Repeated bytes) small p = tt
served-tags start b source r (Refused cause) small p = tt
served-tags start b source r (Denied serial cause) small p = said-own (IsTag start) (only serial (counted r)) (only-own (IsTag start) serial (counted r) (counted-own (IsTag start) r)) b.rows p
served-tags start b source r (Renewed serial) small p =
    said-own (IsTag start) (only serial (renewed (telling start.place b) source r)) (only-own (IsTag start) serial (renewed (telling start.place b) source r) (renewed-own (IsTag start) start.place b.boxes b.clock source r)) b.rows p
served-tags start b source r (Makes kind) small p = born-tags start b source r kind small

content-tags : (start : Start) (b : Book) (name resource : Bytes) (is_over : Bool) (changed : Outcome × List Seen) → Tags start b → Tagged start (content_changed start.place b name resource is_over changed)
unfolding content_changed all_rows nothing
content-tags start b name resource is_over (Changed, boxes) p = said-own (IsTag start) (tells_watcher (told_from start.place boxes b.clock) name resource is_over) (tells_watcher-own (IsTag start) start.place boxes b.clock name resource is_over) b.rows p
content-tags start b name resource is_over (Same, boxes) p = tt
content-tags start b name resource is_over (Unknown, boxes) p = tt

step-tags : (start : Start) (b : Book) (e : Event) → b.next < 2 ^ 64 → Tags start b → Tagged start (step start.place b e)
unfolding step
step-tags start b (Comes source r) small p = served-tags start b source r (verdict start.place.limits b r) small p
step-tags start b (Replies r) small p = unfold replied all_rows in said-own (IsTag start) (answered r) (answered-own (IsTag start) r) b.rows p
step-tags start b (Mails m) small p = content-tags start b mail_package m.mailbox false (change_first b.boxes (MailTo m)) p
step-tags start b (Progresses q) small p = content-tags start b refer_package q.tag (is_final q.code) (change_first b.boxes (StepOf q)) p
step-tags start b (Ticks t) small p =
    if_is (Tagged start) (nat_lt last_moment t) _ _ (λ e. unfold nothing in tt)
    (λ e. unfold ticked all_rows in said-own (IsTag start) (times_out (told_from start.place b.boxes (max b.clock t))) (times_out-own (IsTag start) start.place b.boxes (max b.clock t)) b.rows p)
step-tags start b Shuts small p = unfold shut all_rows in said-own (IsTag start) (stops (telling start.place b)) (stops-own (IsTag start) start.place b.boxes b.clock) b.rows p

-- ---- a run

small_next : (start : Start) (past : List Event) (b : Book) → Ranges start.place.limits → Holds start past b → b.next < 2 ^ 64
small_next start past b ok h = subst (λ (n : ℕ). n < 2 ^ 64) (sym h.next_is) (born_small start past (births start past + 1) ok (omega arith))

tags_of : (start : Start) (past : List Event) (b : Book) → Ranges start.place.limits → Holds start past b → Tags start b
tags_of start past b ok h =
    subst (RowTags (IsTag start)) (sym h.rows_are) (rows-tags start _ (births start past) (λ s le. born_small start past s ok (omega arith)))

made-tags : (start : Start) (past es : List Event) (b : Book) → Ranges start.place.limits → Holds start past b → AllTags (IsTag start) (made_from start.place b es)
unfolding made_from
made-tags start past [] b ok h = tt
made-tags start past (e ∷ es) b ok h =
    tags-append (IsTag start) (step start.place b e).outs _ (step-tags start b e (small_next start past b ok h) (tags_of start past b ok h)) (made-tags start (e ∷ past) es (step start.place b e).book ok (step_goes start past e b ok h).book)

-- ---- each is that of a notice

first-of : {A : Type 0} (x : A) (xs : List A) → Contains (x ∷ xs) x
first-of x xs = (0, omega arith, refl)

noticed : (tag : Bytes) (before more : List Send) (to : Addr) (mailbox : Option Bytes) (n : NotifyText) → n.local_tag ≡ tag → Contains (notifications tag (before ++ Notifies to mailbox n ∷ more)) (notification to mailbox n)
unfolding notifications
noticed tag before more to mailbox n same =
    rw (notifications-append tag before (Notifies to mailbox n ∷ more)) (Contains-append_right (notifications tag before) (notifications tag (Notifies to mailbox n ∷ more)) (notification to mailbox n) here)
  where
    own : bytes_eq n.local_tag tag ≡ true
    own = subst (λ (x : Bytes). bytes_eq n.local_tag x ≡ true) same (bytes_own n.local_tag)

    here : Contains (notifications tag (Notifies to mailbox n ∷ more)) (notification to mailbox n)
    here = subst (λ (d : Bool). Contains (if d then notification to mailbox n ∷ notifications tag more else notifications tag more) (notification to mailbox n)) (sym own) (first-of (notification to mailbox n) (notifications tag more))

of_lives : (start : Start) (es : List Event) → IsStart start → (before sends : List Send) → before ++ sends ≡ made start es → AllTags (IsTag start) sends → AreOfLives start es (map out_of sends)
unfolding out_of
of_lives start es ok before [] e p = tt
of_lives start es ok before (Answers to bytes ∷ more) e p = of_lives start es ok (before ++ Answers to bytes ∷ []) more (append_assoc before (Answers to bytes ∷ []) more ∙ e) p
of_lives start es ok before (Starts tag refer_to ∷ more) e p = of_lives start es ok (before ++ Starts tag refer_to ∷ []) more (append_assoc before (Starts tag refer_to ∷ []) more ∙ e) p
of_lives start es ok before (Notifies to mailbox n ∷ more) e p = (here, of_lives start es ok (before ++ Notifies to mailbox n ∷ []) more (append_assoc before (Notifies to mailbox n ∷ []) more ∙ e) p.1)
  where
    here : IsOfALife start es (out_of (Notifies to mailbox n))
    here = record {
      serial = p.0.0;
      notice = notification to mailbox n;
      among = subst (λ ns. Contains ns (notification to mailbox n)) (notices_law start p.0.0 es ok p.0.1) (subst (λ sends. Contains (notifications (tag_of start.place p.0.0) sends) (notification to mailbox n)) e (noticed (tag_of start.place p.0.0) before more to mailbox n p.0.2));
      notify = of_record (tag_of start.place p.0.0) to mailbox n p.0.2;
    }

pub no_other_law : NoOtherLaw
unfolding made
no_other_law start es ok = of_lives start es ok [] (made start es) refl (made-tags start [] es (empty start) (ranges start.place.limits ok.limits) (empty_holds start ok))
