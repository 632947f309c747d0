-- The steps at which a request comes outside a dialog.
use Rattle.std.proofs.Common.{◌≡◌, ℕ, ◌+◌, ◌-◌, ◌<◌, ◌≤◌, ◌^◌, List, [], ◌∷◌, ◌++◌, length, Option, Some, None, Bool, true, false, not, ◌&&◌, refl, sym, ◌∙◌, ap, arith, subst, add-one}
use Prim.Native.Nat.{suc}
use Rattle.std.specs.Prelude.{if◌then◌else◌, ◌==◌, is_none, is_some, bytes_eq, option_map, option_to_list, codes}
use Rattle.std.proofs.lemmas.Bool.Decides.{nat_tests}
use Rattle.std.proofs.lemmas.List.{append-nil}
use Rattle.package.specs.Content.{Content, OfMail, OfStatus, held, mail_package, refer_package, Seen}
use Rattle.life.proofs.Texts.{Bytes, never_both, bytes_other_way, and-false, if_is}
use Rattle.sip_text.specs.declared.address.Addr.{Addr}
use Rattle.sip_read.specs.declared.message.Request.{Request}
use Rattle.notifier_model.specs.Fields.{value_of, or_empty, same_text}
use Rattle.package.specs.declared.change.Change.TheVariants.{Begin, Forget}
use Rattle.package.specs.Boxes.{first_box, held_by, content_in}
use Rattle.package.specs.Bodies.{body_of_held}
use Rattle.subscription.specs.declared.notify.Reason.TheVariants.{Timeout}
use Rattle.subscription.specs.Table.{accept, fetch, over}
use Rattle.notifier_model.specs.Limits.{Limits}
use Rattle.notifier_model.specs.Start.{Start, tag_of}
use Rattle.notifier_model.specs.declared.event.Event.{Event}
use Rattle.notifier_model.specs.declared.event.Event.TheVariants.{Request as Comes}
use Rattle.notifier_model.specs.declared.refusal.Refusal.{Refusal}
use Rattle.notifier_model.specs.declared.refusal.Refusal.TheVariants.{OnlyByRefer, NotAcceptable, NoResource, TooBrief, Full}
use Rattle.notifier_model.specs.Requests.{is_refer, user_part, event_of, is_of_refer, is_acceptable, granted, asks_nothing, is_too_brief, misfit, misplaced, misplaced_at, is_unwatched, birth_of as birth_of_request, is_full}
use Rattle.sip_write.specs.Answer.{answer_text}
use Rattle.notifier_model.specs.declared.row.Row.{Row}
use Rattle.notifier_model.specs.declared.birth.Birth.{Birth}
use Rattle.notifier_model.specs.declared.birth.Birth.TheVariants.{Watch, Fetch, Transfer, Unwatched}
use Rattle.notifier_model.specs.Book.{first_gone, first_step, first_word, Book, Born as Makes, Refused, keeping, new_row, new_usage, new_want, newborn, first_boxes, first_turned, first_told, refused, born, served, unless, outside}
use Rattle.notifier_model.specs.Rows.{Turned, opened, forgetting, turned}
use Rattle.notifier_model.specs.Out.{Notification, Send, Starts, notifications}
use Rattle.notifier_model.specs.Answers.{birth_answer}
use Rattle.life.specs.Past.{now, content, mail_content, is_fresh, is_placed, fits}
use Rattle.life.specs.Life.{Life, Born, birth, last_heard, end_of_grant, address, status, is_touched, number, just_made, unanswered, ended, terminated, is_removed, is_gone, mailbox, target}
use Rattle.life.specs.Lives.{when, is_in_dialog, may_hear, is_birth, births, life, birth_at, befell, begun}
use Rattle.life.specs.Sentences.{or_before}
use Rattle.life.specs.Notices.{notices_at, body}
use Rattle.life.proofs.Boxes.{boxes_without, types-stay, content-other, begin-own, begin-elsewhere}
use Rattle.life.proofs.Rows.{last_cseq, accepted_cseq, usage_of, want_of, sub_of, row_of, live_row, rows_to, rows_to-same, length-rows_to, notifications-append}
use Rattle.life.proofs.Deeds.{hears, lived-comes}
use Rattle.life.proofs.NextLives.{births-of_birth, by_fate, life-next, Ranges}
use Rattle.life.proofs.SoundLives.{fits-plain, gone-removed}
use Rattle.life.proofs.Turns.{told_from, Follows, watched-is, over_follows, told_follows}
use Rattle.life.proofs.AllRows.{apart, born_small}
use Rattle.life.proofs.Invariant.{type_in, Transfers, Holdings, Holds, Goes, forget-elsewhere, life_small}
use Rattle.life.proofs.RepliesAndTicks.{content-same, body-is, quiet-counts, goes_follows}
use Rattle.life.proofs.RefusedRequests.{refused_goes, ring_goes}

-- ---- the book's packages judge a request as those of the start

abbrev judge : Limits → Request → Bytes → Bool → Bool
judge limits r content_type missing = is_none (
    if is_refer r then None
    else if is_of_refer (event_of r) then Some OnlyByRefer
    else if not (is_acceptable content_type (value_of r.accept)) then Some NotAcceptable
    else if missing then Some NoResource
    else if is_too_brief limits r then Some TooBrief
    else None)

placed-same : (limits : Limits) (r : Request) (o p : Option Seen) → option_map (λ (box : Seen). box.content_type) o ≡ option_map (λ (box : Seen). box.content_type) p → (is_of_refer (event_of r) ≡ false → is_none (held_by (user_part r.uri) o) ≡ is_none (held_by (user_part r.uri) p)) → is_none (misplaced_at limits r o) ≡ is_none (misplaced_at limits r p)
unfolding misplaced_at
placed-same limits r None None t h = refl
placed-same limits r None (Some q) t h = absurd (cc)
placed-same limits r (Some o) None t h = absurd (cc)
placed-same limits r (Some o) (Some p) t h =
    let same_type : o.content_type ≡ p.content_type = cc in
    ap (λ (c : Bytes). judge limits r c (is_none (held o.contents (user_part r.uri)))) same_type ∙ by_refer (is_refer r) (is_of_refer (event_of r)) h
  where
    by_refer : (c d : Bool) → (d ≡ false → is_none (held o.contents (user_part r.uri)) ≡ is_none (held p.contents (user_part r.uri))) → is_none (
        if c then None
        else if d then Some OnlyByRefer
        else if not (is_acceptable p.content_type (value_of r.accept)) then Some NotAcceptable
        else if is_none (held o.contents (user_part r.uri)) then Some NoResource
        else if is_too_brief limits r then Some TooBrief
        else None) ≡ is_none (
        if c then None
        else if d then Some OnlyByRefer
        else if not (is_acceptable p.content_type (value_of r.accept)) then Some NotAcceptable
        else if is_none (held p.contents (user_part r.uri)) then Some NoResource
        else if is_too_brief limits r then Some TooBrief
        else None)
    by_refer true d h = refl
    by_refer false true h = refl
    by_refer false false h = rw (h refl) refl

-- what is held of a mailbox at first is held for good
mail_content-there : (resource : Bytes) (past : List Event) (o : Option Content) → is_none (mail_content resource past o) ≡ is_none o
unfolding mail_content
mail_content-there resource past None = refl
mail_content-there resource past (Some (OfStatus code reason)) = refl
mail_content-there resource past (Some (OfMail counts)) = refl

content-there : (start : Start) (past : List Event) (name resource : Bytes) → is_none (content start past name resource) ≡ is_none (content_in start.boxes name resource)
unfolding content
content-there start past name resource = if_is (λ (c : Option Content). is_none c ≡ is_none (content_in start.boxes name resource)) (bytes_eq name mail_package) (mail_content resource past (content_in start.boxes name resource)) (content_in start.boxes name resource) (λ e. mail_content-there resource past (content_in start.boxes name resource)) (λ e. refl)

misplaced-is : (start : Start) (past : List Event) (boxes : List Seen) (r : Request) → Holdings start past boxes → is_none (misplaced start.place.limits boxes r) ≡ is_none (misplaced start.place.limits start.boxes r)
misplaced-is start past boxes r hold = placed-same start.place.limits r (first_box (event_of r).package boxes) (first_box (event_of r).package start.boxes) (hold.types (event_of r).package)
    (λ plain. ap is_none (hold.contents (event_of r).package (user_part r.uri) plain) ∙ content-there start past (event_of r).package (user_part r.uri))

fits-outside : (start : Start) (past : List Event) (r : Request) (d : Bool) → is_fresh start.place.limits past r ≡ true → is_none (misfit r) ≡ true → r.head.to.tag ≡ None → is_none (misplaced start.place.limits start.boxes r) ≡ d → fits start past r ≡ d
unfolding fits
fits-outside start past r d fresh good to e =
    ap (λ (c : Bool). c && (is_none (misfit r) && is_placed start r r.head.to.tag)) fresh ∙ (ap (λ (c : Bool). c && is_placed start r r.head.to.tag) good ∙ (ap (is_placed start r) to ∙ e))

-- ---- who is born, and that nothing befalls the others

birth_at-is : (start : Start) (past : List Event) (b : Book) (source : Addr) (r : Request) → Holds start past b → r.head.to.tag ≡ None → birth_at start past (Comes source r) ≡ when (fits start past r && not (is_full start.place.limits b.next (length b.rows) r)) (Born (now past) source r)
unfolding birth_at begun is_birth
birth_at-is start past b source r h to = rw (to, h.next_is, h.rows_are, length-rows_to start past) (unfold births in refl)

-- a request without a To tag is heard by no one
denial_outside : (start : Start) (past : List Event) (r : Request) (s : ℕ) (l : Life) → r.head.to.tag ≡ None → hears start s past r l ≡ false
unfolding hears is_in_dialog
denial_outside start past r s l to =
    ap (λ (t : Option Bytes). (bytes_eq (birth l).head.call_id r.head.call_id && (same_text (Some (tag_of start.place s)) t && bytes_eq (or_empty (birth l).head.from.tag) (or_empty r.head.from.tag))) && (is_fresh start.place.limits past r && may_hear r l)) to
    ∙ no_second (bytes_eq (birth l).head.call_id r.head.call_id)
  where
    no_second : (a : Bool) → ((a && false) && (is_fresh start.place.limits past r && may_hear r l)) ≡ false
    no_second true = refl
    no_second false = refl

befell-other : (start : Start) (past : List Event) (source : Addr) (r : Request) (s : ℕ) → r.head.to.tag ≡ None → (s == births start past + 1) ≡ false → befell start past (Comes source r) s ≡ None
befell-other start past source r s to other = by_fate start past (Comes source r) s (λ o before. o ≡ None) (λ unborn. refl) (λ l next begins. absurd (never_both (s == births start past + 1) next other)) (λ l is gone. refl)
    (λ l is alive. rw (lived-comes start s past source r l, denial_outside start past r s l to) refl)

befell-new : (start : Start) (past : List Event) (source : Addr) (r : Request) → birth_at start past (Comes source r) ≡ Some (Born (now past) source r) → befell start past (Comes source r) (births start past + 1) ≡ Some (Born (now past) source r)
unfolding befell
befell-new start past source r is = let own : (births start past + 1 == births start past + 1) ≡ true = grind (arith, nat_tests) in rw (own, is) refl

new-life : (start : Start) (past : List Event) (source : Addr) (r : Request) → birth_at start past (Comes source r) ≡ Some (Born (now past) source r) → life start (Comes source r ∷ past) (births start past + 1) ≡ Some (Born (now past) source r)
new-life start past source r is = life-next start past (Comes source r) (births start past + 1) ∙ ap (λ (o : Option Life). or_before o (life start past (births start past + 1))) (befell-new start past source r is)

old-life : (start : Start) (past : List Event) (source : Addr) (r : Request) (s : ℕ) → r.head.to.tag ≡ None → (s == births start past + 1) ≡ false → life start (Comes source r ∷ past) s ≡ life start past s
old-life start past source r s to f = life-next start past (Comes source r) s ∙ ap (λ (o : Option Life). or_before o (life start past s)) (befell-other start past source r s to f)

born_rows : (start : Start) (past : List Event) (source : Addr) (r : Request) (rows : List Row) (row : Option Row) → r.head.to.tag ≡ None → birth_at start past (Comes source r) ≡ Some (Born (now past) source r) → rows ≡ rows_to start (life start past) (births start past) → row ≡ live_row start (births start past + 1) (Some (Born (now past) source r)) → rows ++ option_to_list row ≡ rows_to start (life start (Comes source r ∷ past)) (births start (Comes source r ∷ past))
born_rows start past source r rows row to is e f =
    rw (births-of_birth start past (Comes source r) (ap is_some is), e, f, add-one (births start past)) last_row
  where
    same : (s : ℕ) → s ≤ births start past → live_row start s (life start past s) ≡ live_row start s (life start (Comes source r ∷ past) s)
    same s le = let other : (s == births start past + 1) ≡ false = grind (arith, nat_tests) in ap (live_row start s) (sym (old-life start past source r s to other))

    new : life start (Comes source r ∷ past) (suc (births start past)) ≡ Some (Born (now past) source r)
    new = ap (life start (Comes source r ∷ past)) (sym (add-one (births start past))) ∙ new-life start past source r is

    last_row : rows_to start (life start past) (births start past) ++ option_to_list (live_row start (suc (births start past)) (Some (Born (now past) source r))) ≡ rows_to start (life start (Comes source r ∷ past)) (suc (births start past))
    last_row = unfold rows_to in rw (new, rows_to-same start (life start past) (life start (Comes source r ∷ past)) (births start past) same) refl

-- ---- the packages after a birth

-- a REFER that is placed finds its package
refer-there : (start : Start) (boxes : List Seen) (r : Request) → is_none (misplaced start.place.limits boxes r) ≡ true → is_refer r ≡ true → is_some (first_box refer_package boxes) ≡ true
unfolding misplaced_at
refer-there start boxes r placed refers =
    let named : (event_of r).package ≡ refer_package = unfold event_of in (rw refers refl) in
    by_box (first_box refer_package boxes) (subst (λ (name : Bytes). is_none (misplaced_at start.place.limits r (first_box name boxes)) ≡ true) named placed)
  where
    by_box : (o : Option Seen) → is_none (misplaced_at start.place.limits r o) ≡ true → is_some o ≡ true
    by_box None h = absurd (let e : false ≡ true = h in cc)
    by_box (Some box) h = refl

begun_types : (start : Start) (b : Book) (kind : Birth) (name : Bytes) → type_in (first_boxes b.boxes (tag_of start.place b.next) kind) name ≡ type_in b.boxes name
unfolding first_boxes
begun_types start b Watch name = refl
begun_types start b Fetch name = refl
begun_types start b Transfer name = types-stay b.boxes (Begin (tag_of start.place b.next)) name
begun_types start b Unwatched name = refl

begun_other : (start : Start) (b : Book) (kind : Birth) (name resource : Bytes) → bytes_eq name refer_package ≡ false → content_in (first_boxes b.boxes (tag_of start.place b.next) kind) name resource ≡ content_in b.boxes name resource
unfolding first_boxes
begun_other start b Watch name resource f = refl
begun_other start b Fetch name resource f = refl
begun_other start b Transfer name resource f = content-other b.boxes (Begin (tag_of start.place b.next)) name resource (bytes_other_way name refer_package f)
begun_other start b Unwatched name resource f = refl

begun_elsewhere : (start : Start) (b : Book) (kind : Birth) (resource : Bytes) → bytes_eq resource (tag_of start.place b.next) ≡ false → content_in (first_boxes b.boxes (tag_of start.place b.next) kind) refer_package resource ≡ content_in b.boxes refer_package resource
unfolding first_boxes
begun_elsewhere start b Watch resource f = refl
begun_elsewhere start b Fetch resource f = refl
begun_elsewhere start b Transfer resource f = begin-elsewhere b.boxes (tag_of start.place b.next) resource f
begun_elsewhere start b Unwatched resource f = refl

begun_own : (start : Start) (b : Book) → is_some (first_box refer_package b.boxes) ≡ true → content_in b.boxes refer_package (tag_of start.place b.next) ≡ None → content_in (first_boxes b.boxes (tag_of start.place b.next) Transfer) refer_package (tag_of start.place b.next) ≡ Some (OfStatus 100 (codes "Trying"))
unfolding first_boxes
begun_own start b there none = begin-own b.boxes (tag_of start.place b.next) there none

-- the packages that a birth leaves
abbrev pub last_boxes : Start → Book → Birth → Option Row → List Seen
last_boxes start b kind row = forgetting (first_gone (tag_of start.place b.next) kind (is_none row)) (first_boxes b.boxes (tag_of start.place b.next) kind)

last_is : (start : Start) (b : Book) (P : List Seen → Type 0) (kind : Birth) (row : Option Row) → P (boxes_without (first_boxes b.boxes (tag_of start.place b.next) kind) (tag_of start.place b.next)) → P (first_boxes b.boxes (tag_of start.place b.next) kind) → P (last_boxes start b kind row)
unfolding first_gone forgetting
last_is start b P Watch row h g = g
last_is start b P Fetch row h g = g
last_is start b P Transfer None h g = h
last_is start b P Transfer (Some row) h g = g
last_is start b P Unwatched row h g = g

last_types : (start : Start) (b : Book) (kind : Birth) (row : Option Row) (name : Bytes) → type_in (last_boxes start b kind row) name ≡ type_in b.boxes name
last_types start b kind row name = last_is start b (λ (bs : List Seen). type_in bs name ≡ type_in b.boxes name) kind row
    (types-stay (first_boxes b.boxes (tag_of start.place b.next) kind) (Forget (tag_of start.place b.next)) name ∙ begun_types start b kind name) (begun_types start b kind name)

last_other : (start : Start) (b : Book) (kind : Birth) (row : Option Row) (name resource : Bytes) → bytes_eq name refer_package ≡ false → content_in (last_boxes start b kind row) name resource ≡ content_in b.boxes name resource
last_other start b kind row name resource f = last_is start b (λ (bs : List Seen). content_in bs name resource ≡ content_in b.boxes name resource) kind row
    (content-other (first_boxes b.boxes (tag_of start.place b.next) kind) (Forget (tag_of start.place b.next)) name resource (bytes_other_way name refer_package f) ∙ begun_other start b kind name resource f) (begun_other start b kind name resource f)

last_elsewhere : (start : Start) (b : Book) (kind : Birth) (row : Option Row) (resource : Bytes) → bytes_eq resource (tag_of start.place b.next) ≡ false → content_in (last_boxes start b kind row) refer_package resource ≡ content_in b.boxes refer_package resource
last_elsewhere start b kind row resource f = last_is start b (λ (bs : List Seen). content_in bs refer_package resource ≡ content_in b.boxes refer_package resource) kind row
    (forget-elsewhere (first_boxes b.boxes (tag_of start.place b.next) kind) (tag_of start.place b.next) resource f ∙ begun_elsewhere start b kind resource f) (begun_elsewhere start b kind resource f)

last_own : (start : Start) (b : Book) (kind : Birth) (row : Option Row) → is_some row ≡ true → last_boxes start b kind row ≡ first_boxes b.boxes (tag_of start.place b.next) kind
unfolding first_gone forgetting
last_own start b Watch row h = refl
last_own start b Fetch row h = refl
last_own start b Transfer None h = absurd (cc)
last_own start b Transfer (Some row) h = refl
last_own start b Unwatched row h = refl

-- ---- what a birth is

by_births : (limits : Limits) (r : Request) (P : Birth → Type 0) → (is_refer r ≡ false → asks_nothing limits r ≡ false → P Watch) → (is_refer r ≡ false → asks_nothing limits r ≡ true → P Fetch) → (is_refer r ≡ true → is_unwatched r ≡ false → P Transfer) → (is_refer r ≡ true → is_unwatched r ≡ true → P Unwatched) → P (birth_of_request limits r)
unfolding birth_of_request
by_births limits r P w f t u = if_is P (is_refer r) (if is_unwatched r then Unwatched else Transfer) (if asks_nothing limits r then Fetch else Watch)
    (λ e. if_is P (is_unwatched r) Unwatched Transfer (λ g. u e g) (λ g. t e g))
    (λ e. if_is P (asks_nothing limits r) Fetch Watch (λ g. f e g) (λ g. w e g))

-- a SUBSCRIBE is watched
plain-watched : (r : Request) → is_refer r ≡ false → is_unwatched r ≡ false
unfolding is_unwatched
plain-watched r e = rw e refl

-- a REFER asks for time
refer-asks : (limits : Limits) (r : Request) → is_refer r ≡ true → asks_nothing limits r ≡ false
unfolding asks_nothing
refer-asks limits r e = rw e refl

-- what a birth needs
record Begins_here (start : Start) (past : List Event) (b : Book) (source : Addr) (r : Request) : Type 0 where
  ok : Ranges start.place.limits
  holds : Holds start past b
  fresh : is_fresh start.place.limits past r ≡ true
  no_tag : r.head.to.tag ≡ None
  fitting : fits start past r ≡ true
  placed : is_none (misplaced start.place.limits b.boxes r) ≡ true
  is : birth_at start past (Comes source r) ≡ Some (Born (now past) source r)

content-comes : (start : Start) (past : List Event) (source : Addr) (r : Request) (name resource : Bytes) → content start (Comes source r ∷ past) name resource ≡ content start past name resource
content-comes start past source r name resource = content-same start past (Comes source r) name resource (quiet-counts resource past (Comes source r) refl)

next_small : (start : Start) (past : List Event) (b : Book) → Ranges start.place.limits → Holds start past b → b.next < 2 ^ 64
next_small start past b ok h = born_small start past b.next ok (let e = h.next_is in omega arith)

new_transfer : (start : Start) (past : List Event) (b : Book) (source : Addr) (r : Request) → Begins_here start past b source r → is_refer r ≡ true → content_in (first_boxes b.boxes (tag_of start.place b.next) Transfer) refer_package (tag_of start.place b.next) ≡ Some (OfStatus 100 (codes "Trying"))
new_transfer start past b source r begins refers =
    let h = begins.holds in
    begun_own start b (refer-there start b.boxes r begins.placed refers) (h.boxes_hold.not_begun b.next (let e = h.next_is in omega arith) (next_small start past b begins.ok h))

-- what is told of a birth of this kind
abbrev born_told : Start → Book → Addr → Request → Birth → Turned
born_told start b source r kind =
    first_told (told_from start.place (first_boxes b.boxes (tag_of start.place b.next) kind) b.clock) source r (newborn start.place b.next kind)

born_body : (start : Start) (past : List Event) (b : Book) (source : Addr) (r : Request) (kind : Birth) → Begins_here start past b source r → (is_refer r ≡ true → kind ≡ Transfer)
    → body_of_held (content_in (first_boxes b.boxes (tag_of start.place b.next) kind) (new_want start.place (tag_of start.place b.next) source r).event.package (new_want start.place (tag_of start.place b.next) source r).resource) ≡ body start (Comes source r ∷ past) (Born (now past) source r)
unfolding new_want want_of birth address last_heard status
born_body start past b source r kind begins watched =
    body-is start (Comes source r ∷ past) (first_boxes b.boxes (tag_of start.place b.next) kind) b.next (Born (now past) source r) (fits-plain start past r begins.fitting begins.no_tag)
    (λ name resource f. begun_other start b kind name resource f ∙ (begins.holds.boxes_hold.contents name resource f ∙ sym (content-comes start past source r name resource)))
    (λ refers. ap (λ (k : Birth). content_in (first_boxes b.boxes (tag_of start.place b.next) k) refer_package (tag_of start.place b.next)) (watched refers) ∙ new_transfer start past b source r begins refers)

-- it is told, and goes on
on_follows : (start : Start) (past : List Event) (b : Book) (source : Addr) (r : Request) (kind : Birth) → Begins_here start past b source r → (is_refer r ≡ true → kind ≡ Transfer) → asks_nothing start.place.limits r ≡ false → is_unwatched r ≡ false
    → Follows start b.next (Comes source r ∷ past) (turned (told_from start.place (first_boxes b.boxes (tag_of start.place b.next) kind) b.clock) source (new_row b.next r)
    (accept (new_usage (tag_of start.place b.next) r) (new_want start.place (tag_of start.place b.next) source r) b.clock (granted start.place.limits r))) (Born (now past) source r)
unfolding accept
on_follows start past b source r kind begins transfer asks watched =
    told_follows start (first_boxes b.boxes (tag_of start.place b.next) kind) b.clock source (new_row b.next r)
    (record { usage = new_usage (tag_of start.place b.next) r; want = new_want start.place (tag_of start.place b.next) source r; count = 1; due = b.clock + granted start.place.limits r }) (granted start.place.limits r) b.next (Comes source r ∷ past) (Born (now past) source r)
    (unfold new_usage new_want sub_of usage_of want_of target accepted_cseq number is_touched address end_of_grant last_heard birth in (rw (begins.holds.clock_is, watched) refl)) (unfold address last_heard in refl) (unfold new_want want_of birth in born_body start past b source r kind begins transfer)
    (unfold opened new_row row_of last_cseq unanswered just_made is_touched in (rw (begins.holds.clock_is, watched) refl)) time (unfold is_touched in (ap not watched)) (unfold ended in (rw asks refl)) (unfold is_removed in watched)
  where
    time : granted start.place.limits r ≡ end_of_grant start.place.limits (Born (now past) source r) - now (Comes source r ∷ past)
    time = unfold end_of_grant last_heard now in (omega arith)

-- a fetch is told once
fetch_follows : (start : Start) (past : List Event) (b : Book) (source : Addr) (r : Request) → Begins_here start past b source r → is_refer r ≡ false → asks_nothing start.place.limits r ≡ true
    → Follows start b.next (Comes source r ∷ past) (turned (told_from start.place (first_boxes b.boxes (tag_of start.place b.next) Fetch) b.clock) source (new_row b.next r)
    (over (fetch (new_usage (tag_of start.place b.next) r) (new_want start.place (tag_of start.place b.next) source r)))) (Born (now past) source r)
unfolding fetch new_usage
fetch_follows start past b source r begins plain asks =
    over_follows start (first_boxes b.boxes (tag_of start.place b.next) Fetch) b.clock source (new_row b.next r) (new_usage (tag_of start.place b.next) r) (new_want start.place (tag_of start.place b.next) source r) 1 Timeout b.next (Comes source r ∷ past) (Born (now past) source r)
    (unfold new_usage in refl) (unfold number is_touched in (rw (plain-watched r plain) refl)) (unfold address last_heard in refl) (born_body start past b source r Fetch begins (λ refers. absurd (never_both (is_refer r) refers plain)))
    (unfold new_usage new_want birth mailbox target last_heard in (record { watcher = refl; watched = watched-is r (tag_of start.place b.next); target = refl; call_id = refl }))
    (unfold is_touched in (ap not (plain-watched r plain))) (unfold terminated is_touched ended in (rw (plain-watched r plain, asks) refl))

-- the turn of a birth
first_follows : (start : Start) (past : List Event) (b : Book) (source : Addr) (r : Request) → Begins_here start past b source r → Follows start b.next (Comes source r ∷ past) (born_told start b source r (birth_of_request start.place.limits r)) (Born (now past) source r)
unfolding first_told first_turned first_step
first_follows start past b source r begins =
    by_births start.place.limits r (λ (kind : Birth). Follows start b.next (Comes source r ∷ past) (born_told start b source r kind) (Born (now past) source r))
    (λ plain asks. on_follows start past b source r Watch begins (λ refers. absurd (never_both (is_refer r) refers plain)) asks (plain-watched r plain))
    (λ plain asks. fetch_follows start past b source r begins plain asks)
    (λ refers watched. on_follows start past b source r Transfer begins (λ e. refl) (refer-asks start.place.limits r refers) watched)
    (λ refers unwatched. goes_follows start b.next (Comes source r ∷ past) (Born (now past) source r) (unfold is_touched in (ap not unwatched)) (unfold is_removed in unwatched))

row_there : (start : Start) (s : ℕ) (l : Life) (row : Option Row) → row ≡ live_row start s (Some l) → is_gone start.place.limits l ≡ false → is_some row ≡ true
unfolding live_row
row_there start s l row e g = rw (e, g) refl

born_transfers : (start : Start) (past : List Event) (b : Book) (source : Addr) (r : Request) → Begins_here start past b source r → Transfers start (Comes source r ∷ past) (last_boxes start b (birth_of_request start.place.limits r) (born_told start b source r (birth_of_request start.place.limits r)).row)
unfolding birth status
born_transfers start past b source r begins s m at alive refers = by_who (s == births start past + 1) refl
  where
    next_is : b.next ≡ births start past + 1
    next_is = begins.holds.next_is

    row_is : (born_told start b source r (birth_of_request start.place.limits r)).row ≡ live_row start b.next (Some (Born (now past) source r))
    row_is = (first_follows start past b source r begins).row

    transfer_new : is_refer r ≡ true → is_gone start.place.limits (Born (now past) source r) ≡ false → birth_of_request start.place.limits r ≡ Transfer
    transfer_new refers alive = by_births start.place.limits r (λ (kind : Birth). kind ≡ Transfer)
        (λ plain asks. absurd (never_both (is_refer r) refers plain)) (λ plain asks. absurd (never_both (is_refer r) refers plain)) (λ e f. refl)
        (λ e unwatched. absurd (never_both (is_gone start.place.limits (Born (now past) source r)) (gone-removed start.place.limits (Born (now past) source r) (unfold is_removed in unwatched)) alive))

    as_new : Born (now past) source r ≡ m → content_in (last_boxes start b (birth_of_request start.place.limits r) (born_told start b source r (birth_of_request start.place.limits r)).row) refer_package (tag_of start.place b.next) ≡ Some (OfStatus (status m).0 (status m).1)
    as_new same =
        let refers_new : is_refer (birth (Born (now past) source r)) ≡ true = ap (λ (x : Life). is_refer (birth x)) same ∙ refers in
        let alive_new : is_gone start.place.limits (Born (now past) source r) ≡ false = ap (is_gone start.place.limits) same ∙ alive in
        ap (λ (bs : List Seen). content_in bs refer_package (tag_of start.place b.next)) (last_own start b (birth_of_request start.place.limits r) (born_told start b source r (birth_of_request start.place.limits r)).row (row_there start b.next (Born (now past) source r) (born_told start b source r (birth_of_request start.place.limits r)).row row_is alive_new))
        ∙ (ap (λ (k : Birth). content_in (first_boxes b.boxes (tag_of start.place b.next) k) refer_package (tag_of start.place b.next)) (transfer_new refers_new alive_new) ∙ (new_transfer start past b source r begins refers_new ∙ ap (λ (x : Life). Some (OfStatus (status x).0 (status x).1)) same))

    by_who : (d : Bool) → (s == births start past + 1) ≡ d → content_in (last_boxes start b (birth_of_request start.place.limits r) (born_told start b source r (birth_of_request start.place.limits r)).row) refer_package (tag_of start.place s) ≡ Some (OfStatus (status m).0 (status m).1)
    by_who true f =
        let there : s ≡ births start past + 1 = grind (arith, nat_tests) in
        let same : Born (now past) source r ≡ m = (let e : Some (Born (now past) source r) ≡ Some m = sym (new-life start past source r begins.is) ∙ (ap (life start (Comes source r ∷ past)) (sym there) ∙ at) in cc) in
        let s_next : s ≡ b.next = there ∙ sym next_is in
        ap (λ (x : ℕ). content_in (last_boxes start b (birth_of_request start.place.limits r) (born_told start b source r (birth_of_request start.place.limits r)).row) refer_package (tag_of start.place x)) s_next ∙ as_new same
    by_who false f =
        let before : life start past s ≡ Some m = sym (old-life start past source r s begins.no_tag f) ∙ at in
        let differ : s ≡ b.next → ⊥ = (λ e. let g : s ≡ births start past + 1 = e ∙ next_is in absurd (grind (arith, nat_tests))) in
        last_elsewhere start b (birth_of_request start.place.limits r) (born_told start b source r (birth_of_request start.place.limits r)).row (tag_of start.place s) (apart start s b.next (life_small start past s m begins.ok before) (next_small start past b begins.ok begins.holds) differ)
        ∙ begins.holds.boxes_hold.transfers s m before alive refers

born_holdings : (start : Start) (past : List Event) (b : Book) (source : Addr) (r : Request) → Begins_here start past b source r → Holdings start (Comes source r ∷ past) (last_boxes start b (birth_of_request start.place.limits r) (born_told start b source r (birth_of_request start.place.limits r)).row)
born_holdings start past b source r begins = record {
  types = λ name. last_types start b (birth_of_request start.place.limits r) (born_told start b source r (birth_of_request start.place.limits r)).row name ∙ begins.holds.boxes_hold.types name;
  contents = λ name resource f. last_other start b (birth_of_request start.place.limits r) (born_told start b source r (birth_of_request start.place.limits r)).row name resource f ∙ (begins.holds.boxes_hold.contents name resource f ∙ sym (content-comes start past source r name resource));
  transfers = born_transfers start past b source r begins;
  not_begun = λ s later small.
      let more = births-of_birth start past (Comes source r) (ap is_some begins.is) in
      let next = begins.holds.next_is in
      let differ : s ≡ b.next → ⊥ = (λ e. absurd (omega arith)) in
      last_elsewhere start b (birth_of_request start.place.limits r) (born_told start b source r (birth_of_request start.place.limits r)).row (tag_of start.place s) (apart start s b.next small (next_small start past b begins.ok begins.holds) differ)
      ∙ begins.holds.boxes_hold.not_begun s (omega arith) small;
}

silent_begin : (tag : Bytes) (d : Bool) (word : Send) → ((t : Bytes) → notifications t (word ∷ []) ≡ []) → (ns : List Send) → notifications tag (ns ++ (if d then word ∷ [] else [])) ≡ notifications tag ns
unfolding notifications
silent_begin tag true word silent ns = notifications-append tag ns (word ∷ []) ∙ (ap (λ (more : List Notification). notifications tag ns ++ more) (silent tag) ∙ append-nil (notifications tag ns))
silent_begin tag false word silent ns = ap (notifications tag) (append-nil ns)

born_notices : (start : Start) (past : List Event) (b : Book) (source : Addr) (r : Request) → Begins_here start past b source r → (k : ℕ) → k < 2 ^ 64 → notifications (tag_of start.place k) (born_told start b source r (birth_of_request start.place.limits r)).notifies ≡ notices_at start (Comes source r ∷ past) (befell start past (Comes source r) k)
unfolding notices_at
born_notices start past b source r begins k small = by_who (k == births start past + 1) refl
  where
    follows : Follows start b.next (Comes source r ∷ past) (born_told start b source r (birth_of_request start.place.limits r)) (Born (now past) source r)
    follows = first_follows start past b source r begins

    by_who : (d : Bool) → (k == births start past + 1) ≡ d → notifications (tag_of start.place k) (born_told start b source r (birth_of_request start.place.limits r)).notifies ≡ notices_at start (Comes source r ∷ past) (befell start past (Comes source r) k)
    by_who true f =
        let at : k ≡ births start past + 1 = grind (arith, nat_tests) in
        let next : k ≡ b.next = at ∙ sym begins.holds.next_is in
        ap (λ (x : ℕ). notifications (tag_of start.place x) (born_told start b source r (birth_of_request start.place.limits r)).notifies) next
        ∙ (follows.own ∙ ap (notices_at start (Comes source r ∷ past)) (sym (ap (befell start past (Comes source r)) at ∙ befell-new start past source r begins.is)))
    by_who false f =
        let differ : b.next ≡ k → ⊥ = (λ e. let g : k ≡ births start past + 1 = sym e ∙ begins.holds.next_is in absurd (grind (arith, nat_tests))) in
        follows.others (tag_of start.place k) (apart start b.next k (next_small start past b begins.ok begins.holds) small differ)
        ∙ ap (notices_at start (Comes source r ∷ past)) (sym (befell-other start past source r k begins.no_tag f))

-- ---- the step

born_goes : (start : Start) (past : List Event) (b : Book) (source : Addr) (r : Request) → Begins_here start past b source r → Goes start past (Comes source r) (born start.place b source r (newborn start.place b.next (birth_of_request start.place.limits r)))
unfolding born keeping first_word
born_goes start past b source r begins = record {
  book = record {
    clock_is = unfold now in begins.holds.clock_is;
    next_is = rw (births-of_birth start past (Comes source r) (ap is_some begins.is), begins.holds.next_is) refl;
    rows_are = born_rows start past source r b.rows (born_told start b source r (birth_of_request start.place.limits r)).row begins.no_tag begins.is begins.holds.rows_are
        ((first_follows start past b source r begins).row ∙ ap (λ (s : ℕ). live_row start s (Some (Born (now past) source r))) begins.holds.next_is);
    boxes_hold = born_holdings start past b source r begins;
    ring_is = ring_goes start past source b.ring r (answer_text (birth_answer start.place source r (tag_of start.place b.next))) begins.holds.ring_is begins.fresh;
  };
  notices = λ k small. unfold notifications in (silent_begin (tag_of start.place k) (is_refer r) (Starts (tag_of start.place b.next) (or_empty (value_of r.refer_to))) (λ t. unfold notifications in refl) (born_told start b source r (birth_of_request start.place.limits r)).notifies ∙ born_notices start past b source r begins k small);
}

-- a refusal outside a dialog
not_born : (start : Start) (past : List Event) (b : Book) (source : Addr) (r : Request) (cause : Refusal) → Ranges start.place.limits → Holds start past b → is_fresh start.place.limits past r ≡ true → r.head.to.tag ≡ None → (fits start past r && not (is_full start.place.limits b.next (length b.rows) r)) ≡ false → Goes start past (Comes source r) (refused start.place b source r cause)
not_born start past b source r cause ok h fresh to e =
    refused_goes start past b source r cause ok h fresh (birth_at-is start past b source r h to ∙ ap (λ (d : Bool). when d (Born (now past) source r)) e) (λ s l is alive. denial_outside start past r s l to)

pub outside_goes : (start : Start) (past : List Event) (b : Book) (source : Addr) (r : Request) → Ranges start.place.limits → Holds start past b → is_fresh start.place.limits past r ≡ true → is_none (misfit r) ≡ true → r.head.to.tag ≡ None → Goes start past (Comes source r) (served start.place b source r (outside start.place.limits b r))
unfolding outside
outside_goes start past b source r ok h fresh good to = by_place (misplaced start.place.limits b.boxes r) refl
  where
    fits_as : (o : Option Refusal) → misplaced start.place.limits b.boxes r ≡ o → fits start past r ≡ is_none o
    fits_as o e = fits-outside start past r (is_none o) fresh good to (sym (misplaced-is start past b.boxes r h.boxes_hold) ∙ ap is_none e)

    by_full : misplaced start.place.limits b.boxes r ≡ None → (d : Bool) → is_full start.place.limits b.next (length b.rows) r ≡ d → Goes start past (Comes source r) (served start.place b source r (if d then Refused Full else Makes (birth_of_request start.place.limits r)))
    by_full e true f = unfold served in not_born start past b source r Full ok h fresh to (rw f (and-false (fits start past r)))
    by_full e false f = unfold served in born_goes start past b source r (record {
      ok = ok;
      holds = h;
      fresh = fresh;
      no_tag = to;
      fitting = fits_as None e;
      placed = ap is_none e;
      is = birth_at-is start past b source r h to ∙ rw (fits_as None e, f) refl;
    })

    by_place : (o : Option Refusal) → misplaced start.place.limits b.boxes r ≡ o → Goes start past (Comes source r) (served start.place b source r (unless o (if is_full start.place.limits b.next (length b.rows) r then Refused Full else Makes (birth_of_request start.place.limits r))))
    by_place (Some cause) e = unfold unless served in not_born start past b source r cause ok h fresh to (ap (λ (d : Bool). d && not (is_full start.place.limits b.next (length b.rows) r)) (fits_as (Some cause) e))
    by_place None e = unfold unless in by_full e (is_full start.place.limits b.next (length b.rows) r) refl
