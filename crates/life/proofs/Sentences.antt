-- The sentences on a life.
use Rattle.std.proofs.Common.{◌≡◌, ℕ, ◌+◌, ◌<◌, ◌≤◌, List, [], ◌∷◌, ◌++◌, Option, Some, None, Bool, true, false, not, ◌&&◌, refl, sym, ◌∙◌, ap, subst, arith, ◌⊎◌, inl, inr}
use Rattle.std.specs.Prelude.{if◌then◌else◌, ◌==◌, ◌||◌, nat_lt, nat_le, max, is_none, is_some, bytes_eq, option_map}
use Rattle.std.proofs.lemmas.Bool.Decides.{nat_tests}
use Rattle.std.proofs.lemmas.List.{append-nil}
use Rattle.package.specs.declared.counts.Counts.{Counts}
use Rattle.life.proofs.Texts.{Bytes, never_both, and-left, and-right, and-three, and-false, if_is, when_is}
use Rattle.sip_text.specs.declared.address.Addr.{Addr}
use Rattle.sip_read.specs.declared.message.Request.{Request}
use Rattle.package.specs.declared.counts.Class.{Class}
use Rattle.package.specs.Values.{MailChange}
use Rattle.notifier_model.specs.Limits.{Limits}
use Rattle.notifier_model.specs.Start.{Start, tag_of, last_moment}
use Rattle.notifier_model.specs.declared.event.Event.{Event}
use Rattle.notifier_model.specs.declared.event.Event.TheVariants.{Request as Comes, Reply as Replies, Mail as Mails, Progress as Progresses, Tick as Ticks, Shut as Shuts}
use Rattle.notifier_model.specs.declared.birth.Birth.TheVariants.{Watch, Fetch, Transfer, Unwatched}
use Rattle.notifier_model.specs.Fields.{value_of}
use Rattle.subscription.specs.Table.{refuses}
use Rattle.package.specs.Content.{is_final}
use Rattle.sip_read.specs.declared.message.Response.{Response}
use Rattle.notifier_model.specs.Requests.{is_refer, is_no, is_unwatched, asked, asks_nothing, birth_of as birth_of_request, needs_place, is_full}
use Rattle.life.specs.Past.{now, last_counts, is_fresh}
use Rattle.life.specs.Life.{Life, Born, Then, Heard, MailChanged, Progressed, Due, Answered, Disowned, Lost, is_overdue, birth, status, cseqs, is_above, is_gone}
use Rattle.life.specs.Lives.{when, is_answer_in_dialog, is_to_notify, answer_deed, tick_deed, is_due, may_hear, lived, count_alive, is_birth, begun, lives, births, life, birth_at, is_born_at, befell}
use Rattle.life.specs.Notices.{notices, notices_at}
use Rattle.life.specs.Sentences.{Came, IsNow, NowLaw, sets, CountsLaw, IsBirth, BirthsLaw, or_before, GoesOnLaw, is_gone_by, GoneLaw, SilentLaw, rise, RisingLaw, status_after, last_status, StatusLaw, TouchedLaw}
use Rattle.life.proofs.Deeds.{hears, lived-comes, lived-replies, lived-mails, lived-progresses, lived-ticks, lived-shuts}
use Rattle.life.proofs.NextLives.{After, births-next, by_fate, each_life, life-next, not_next, birth_of_some}
use Rattle.life.proofs.Numbers.{number-next}

-- ---- the moment

now_more : (e : Event) (past : List Event) → ((t : ℕ) → e ≡ Ticks t → ⊥) → IsNow past → now (e ∷ past) ≡ now past → IsNow (e ∷ past)
now_more e past none before same = record {
  greatest = λ t came le. rw same (by_came t came le);
  ticked = rw same (by_ticked before.ticked);
}
  where
    by_came : (t : ℕ) → (e ≡ Ticks t) ⊎ Came past (Ticks t) → t ≤ last_moment → t ≤ now past
    by_came t (inl is) le = absurd (none t is)
    by_came t (inr c) le = before.greatest t c le

    by_ticked : (now past ≡ 0) ⊎ (Came past (Ticks (now past)) × (now past ≤ last_moment)) → (now past ≡ 0) ⊎ (((e ≡ Ticks (now past)) ⊎ Came past (Ticks (now past))) × (now past ≤ last_moment))
    by_ticked (inl z) = inl z
    by_ticked (inr c) = inr (inr c.0, c.1)

now_tick : (t : ℕ) (past : List Event) → IsNow past → (d : Bool) → nat_le t last_moment ≡ d → now (Ticks t ∷ past) ≡ (if d then max (now past) t else now past) → IsNow (Ticks t ∷ past)
now_tick t past before true within is = record {
  greatest = λ u came le. rw is (by_came u came le);
  ticked = rw is (by_max (nat_le (now past) t) refl);
}
  where
    by_came : (u : ℕ) → (Ticks t ≡ Ticks u) ⊎ Came past (Ticks u) → u ≤ last_moment → u ≤ max (now past) t
    by_came u (inl same) le = let e : t ≡ u = cc in omega arith
    by_came u (inr c) le = let g = before.greatest u c le in omega arith

    keep : max (now past) t ≡ now past → (now past ≡ 0) ⊎ (Came past (Ticks (now past)) × (now past ≤ last_moment)) → (max (now past) t ≡ 0) ⊎ (((Ticks t ≡ Ticks (max (now past) t)) ⊎ Came past (Ticks (max (now past) t))) × (max (now past) t ≤ last_moment))
    keep e (inl z) = inl (e ∙ z)
    keep e (inr c) = inr (inr (subst (λ (n : ℕ). Came past (Ticks n)) (sym e) c.0), (let le = c.1 in omega arith))

    by_max : (d : Bool) → nat_le (now past) t ≡ d → (max (now past) t ≡ 0) ⊎ (((Ticks t ≡ Ticks (max (now past) t)) ⊎ Came past (Ticks (max (now past) t))) × (max (now past) t ≤ last_moment))
    by_max true e =
        let le : now past ≤ t = grind (arith, nat_tests) in
        let small : t ≤ last_moment = grind (arith, nat_tests) in
        let at : t ≡ max (now past) t = omega arith in
        inr (inl (ap Ticks at), omega arith)
    by_max false e =
        let lt : t < now past = grind (arith, nat_tests) in
        keep (omega arith) before.ticked
now_tick t past before false late is = record {
  greatest = λ u came le. rw is (by_came u came le);
  ticked = rw is (by_ticked before.ticked);
}
  where
    by_came : (u : ℕ) → (Ticks t ≡ Ticks u) ⊎ Came past (Ticks u) → u ≤ last_moment → u ≤ now past
    by_came u (inl same) le = absurd (let e : t ≡ u = cc in let within : nat_le t last_moment ≡ true = grind (arith, nat_tests) in never_both (nat_le t last_moment) within late)
    by_came u (inr c) le = before.greatest u c le

    by_ticked : (now past ≡ 0) ⊎ (Came past (Ticks (now past)) × (now past ≤ last_moment)) → (now past ≡ 0) ⊎ (((Ticks t ≡ Ticks (now past)) ⊎ Came past (Ticks (now past))) × (now past ≤ last_moment))
    by_ticked (inl z) = inl z
    by_ticked (inr c) = inr (inr c.0, c.1)

pub now_law : NowLaw
unfolding now
now_law [] = record { greatest = λ t came le. absurd came; ticked = inl refl }
now_law (Comes source r ∷ past) = now_more (Comes source r) past (λ t e. absurd (cc)) (now_law past) refl
now_law (Replies r ∷ past) = now_more (Replies r) past (λ t e. absurd (cc)) (now_law past) refl
now_law (Mails m ∷ past) = now_more (Mails m) past (λ t e. absurd (cc)) (now_law past) refl
now_law (Progresses p ∷ past) = now_more (Progresses p) past (λ t e. absurd (cc)) (now_law past) refl
now_law (Ticks t ∷ past) = now_tick t past (now_law past) (nat_le t last_moment) refl refl
now_law (Shuts ∷ past) = now_more Shuts past (λ t e. absurd (cc)) (now_law past) refl

-- ---- the counts

counts-skip : (mailbox : Bytes) (class : Class) (first : Option Counts) (e : Event) (past : List Event) → sets mailbox class e ≡ false → last_counts mailbox class first (e ∷ past) ≡ last_counts mailbox class first past
unfolding last_counts
counts-skip mailbox class first (Comes source r) past h = refl
counts-skip mailbox class first (Replies r) past h = refl
counts-skip mailbox class first (Mails m) past h = rw h refl
counts-skip mailbox class first (Progresses p) past h = refl
counts-skip mailbox class first (Ticks t) past h = refl
counts-skip mailbox class first Shuts past h = refl

last_one : (mailbox : Bytes) (class : Class) (first : Option Counts) (later past : List Event) (m : MailChange) → ((e : Event) → Came later e → sets mailbox class e ≡ false) → sets mailbox class (Mails m) ≡ true → last_counts mailbox class first (later ++ Mails m ∷ past) ≡ Some m.counts
last_one mailbox class first [] past m none here = unfold last_counts in (rw here refl)
last_one mailbox class first (e ∷ later) past m none here = counts-skip mailbox class first e (later ++ Mails m ∷ past) (none e (inl refl)) ∙ last_one mailbox class first later past m (λ f came. none f (inr came)) here

none_yet : (mailbox : Bytes) (class : Class) (first : Option Counts) (past : List Event) → ((e : Event) → Came past e → sets mailbox class e ≡ false) → last_counts mailbox class first past ≡ first
none_yet mailbox class first [] none = unfold last_counts in refl
none_yet mailbox class first (e ∷ past) none = counts-skip mailbox class first e past (none e (inl refl)) ∙ none_yet mailbox class first past (λ f came. none f (inr came))

pub counts_law : CountsLaw
counts_law mailbox class first = record { last = last_one mailbox class first; at_first = none_yet mailbox class first }

-- ---- births

-- who needs no place
needs-is : (limits : Limits) (r : Request) → needs_place (birth_of_request limits r) ≡ not (asks_nothing limits r || is_unwatched r)
unfolding birth_of_request asks_nothing is_unwatched
needs-is limits r = by_tests (is_refer r) (is_no (value_of r.refer_sub)) (asked limits r == 0)
  where
    by_tests : (a b c : Bool) → needs_place (if a then (if a && b then Unwatched else Transfer) else if not a && c then Fetch else Watch) ≡ not ((not a && c) || (a && b))
    by_tests true true c = refl
    by_tests true false c = refl
    by_tests false b true = refl
    by_tests false b false = refl

room-is : (limits : Limits) (n alive : ℕ) (r : Request) → is_full limits n alive r ≡ false → (n ≤ limits.serials) × (((asks_nothing limits r || is_unwatched r) ≡ true) ⊎ (alive < limits.table))
unfolding is_full
room-is limits n alive r h = by_tests (nat_lt limits.serials n) (nat_le limits.table alive) (asks_nothing limits r || is_unwatched r) refl refl refl (rw (← needs-is limits r) h)
  where
    by_tests : (a b c : Bool) → nat_lt limits.serials n ≡ a → nat_le limits.table alive ≡ b → (asks_nothing limits r || is_unwatched r) ≡ c → (a || (b && not c)) ≡ false → (n ≤ limits.serials) × ((c ≡ true) ⊎ (alive < limits.table))
    by_tests true b c e f g h = absurd (cc)
    by_tests false true true e f g h = (grind (arith, nat_tests), inl refl)
    by_tests false true false e f g h = absurd (cc)
    by_tests false false c e f g h = (grind (arith, nat_tests), inr (grind (arith, nat_tests)))

is-room : (limits : Limits) (n alive : ℕ) (r : Request) → n ≤ limits.serials → ((asks_nothing limits r || is_unwatched r) ≡ true) ⊎ (alive < limits.table) → is_full limits n alive r ≡ false
unfolding is_full
is-room limits n alive r le p = let e : nat_lt limits.serials n ≡ false = grind (arith, nat_tests) in rw (e, needs-is limits r) (by_place p)
  where
    by_place : ((asks_nothing limits r || is_unwatched r) ≡ true) ⊎ (alive < limits.table) → (nat_le limits.table alive && not (asks_nothing limits r || is_unwatched r)) ≡ false
    by_place (inl a) = rw a (and-false (nat_le limits.table alive))
    by_place (inr lt) = let f : nat_le limits.table alive ≡ false = grind (arith, nat_tests) in rw f refl

born_where : (start : Start) (past : List Event) (source : Addr) (r : Request) (o : Option Life) → birth_at start past (Comes source r) ≡ o → is_some o ≡ true → IsBirth start past r
born_where start past source r None e h = absurd (cc)
born_where start past source r (Some l) e h =
    let b = birth_of_some start past (Comes source r) l e in
    subst (λ (x : Request). IsBirth start past x) (sym (same_request b.event)) (
    let room = room-is start.place.limits (births start past + 1) (count_alive start.place.limits (lives start past)) b.request b.room in
    record { fits = b.fits; no_tag = b.no_tag; serial = room.0; place = room.1 })
  where
    same_request : {a b : Addr} {q t : Request} → Comes a q ≡ Comes b t → q ≡ t
    same_request e = cc

where_born : (start : Start) (past : List Event) (source : Addr) (r : Request) → IsBirth start past r → is_some (birth_at start past (Comes source r)) ≡ true
unfolding birth_at begun is_birth births
where_born start past source r b =
    let room = is-room start.place.limits (births start past + 1) (count_alive start.place.limits (lives start past)) r b.serial b.place in
    ap (λ (d : Bool). is_some (when d (Born (now past) source r))) (and-three (ap is_none b.no_tag) b.fits (ap not room))

pub births_law : BirthsLaw
unfolding is_born_at
births_law start past = record {
  where_born = λ source r. (λ h. born_where start past source r (birth_at start past (Comes source r)) refl h, where_born start past source r);
  counted = births-next start past;
  born = λ e s. ap is_some (life-next start past e s) ∙ born_here e s;
}
  where
    there : (o : Option Life) (l : Life) → is_some (or_before o (Some l)) ≡ true
    there None l = refl
    there (Some m) l = refl

    born_here : (e : Event) (s : ℕ) → is_some (or_before (befell start past e s) (life start past s)) ≡ (is_some (life start past s) || is_born_at start s past e)
    born_here e s = by_fate start past e s (λ o before. is_some (or_before o before) ≡ (is_some before || is_born_at start s past e))
        (λ unborn. sym unborn) (λ l next begins. rw (next, begins) refl) (λ l is gone. refl) (λ l is alive. there (lived start s past e l) l)

-- a life goes on as what befell it says
pub goes_on_law : GoesOnLaw
goes_on_law = life-next

-- ---- gone for good

pub gone_law : GoneLaw
gone_law start past e s =
    ap (is_gone_by start.place.limits) (life-next start past e s)
    ∙ by_fate start past e s (λ o before. is_gone_by start.place.limits (or_before o before) ≡ (is_gone_by start.place.limits before || is_gone_by start.place.limits o))
    (λ unborn. refl) (λ l next begins. refl) (λ l is gone. rw gone refl) (λ l is alive. by_lived l alive (lived start s past e l))
  where
    by_lived : (l : Life) → is_gone start.place.limits l ≡ false → (o : Option Life) → is_gone_by start.place.limits (or_before o (Some l)) ≡ (is_gone start.place.limits l || is_gone_by start.place.limits o)
    by_lived l alive None = rw alive refl
    by_lived l alive (Some m) = rw alive refl

pub silent_law : SilentLaw
unfolding notices notices_at
silent_law start past e s h =
    ap (λ (o : Option Life). notices start s past ++ notices_at start (e ∷ past) o) (nothing h)
    ∙ append-nil (notices start s past)
  where
    nothing : is_gone_by start.place.limits (life start past s) ≡ true → befell start past e s ≡ None
    nothing = by_fate start past e s (λ o before. is_gone_by start.place.limits before ≡ true → o ≡ None)
        (λ unborn h. refl) (λ l next begins h. absurd (cc)) (λ l is gone h. refl) (λ l is alive h. absurd (never_both (is_gone start.place.limits l) h alive))

pub touched_law : TouchedLaw
touched_law = number-next

-- ---- the CSeqs that it heard

-- what an answer, or a Tick, is to a life
by_answer : (P : Option Life → Type 0) (limits : Limits) (moment : ℕ) (r : Response) (l : Life) → P (Some (Then moment Disowned l)) → P (Some (Then moment (Answered r.head.cseq) l)) → P None → P (option_map (λ d. Then moment d l) (answer_deed r))
unfolding answer_deed
by_answer P limits moment r l disowned answered none = by_tests (refuses r) (is_final r.status)
  where
    by_tests : (a b : Bool) → P (option_map (λ d. Then moment d l) (if a then Some Disowned else when b (Answered r.head.cseq)))
    by_tests true b = disowned
    by_tests false true = answered
    by_tests false false = none

by_tick : (P : Option Life → Type 0) (limits : Limits) (moment : ℕ) (l : Life) → P (Some (Then moment Lost l)) → P (Some (Then moment Due l)) → P None → P (option_map (λ d. Then moment d l) (tick_deed limits moment l))
unfolding tick_deed
by_tick P limits moment l lost due none = by_tests (is_overdue limits moment l) (is_due limits moment l)
  where
    by_tests : (a b : Bool) → P (option_map (λ d. Then moment d l) (if a then Some Lost else when b Due))
    by_tests true b = lost
    by_tests false true = due
    by_tests false false = none

abbrev Rises : Life → Option Life → Type 0
Rises l o = After (λ m. rise (cseqs m) ≡ true) l o

rising-lived : (start : Start) (s : ℕ) (past : List Event) (e : Event) (l : Life) → rise (cseqs l) ≡ true → Rises l (lived start s past e l)
unfolding cseqs is_above
rising-lived start s past (Comes source r) l h = rw (lived-comes start s past source r l)
    (when_is (Rises l) (hears start s past r l) (Then (now past) (Heard source r) l) (λ heard. rw (above heard) h) (λ g. h))
  where
    above : hears start s past r l ≡ true → is_above l r.head.cseq ≡ true
    above heard = unfold hears may_hear in and-right _ (is_above l r.head.cseq) (and-right (is_fresh start.place.limits past r) _ (and-right _ _ (unfold hears may_hear in heard)))
rising-lived start s past (Replies r) l h = rw (lived-replies start s past r l) (if_is (Rises l) (is_answer_in_dialog (tag_of start.place s) (birth l) r && is_to_notify start.place.limits r l) (option_map (λ d. Then (now past) d l) (answer_deed r)) None (λ g. by_answer (Rises l) start.place.limits (now past) r l h h h) (λ g. h))
rising-lived start s past (Mails m) l h = rw (lived-mails start s past m l) (when_is (Rises l) _ (Then (now past) MailChanged l) (λ g. h) (λ g. h))
rising-lived start s past (Progresses p) l h = rw (lived-progresses start s past p l) (when_is (Rises l) _ (Then (now past) (Progressed p) l) (λ g. h) (λ g. h))
rising-lived start s past (Ticks t) l h = rw (lived-ticks start s past t l) (by_tick (Rises l) start.place.limits (now (Ticks t ∷ past)) l h h h)
rising-lived start s past Shuts l h = rw (lived-shuts start s past l) h

rising_born : (start : Start) (past : List Event) (e : Event) (l : Life) → birth_at start past e ≡ Some l → rise (cseqs l) ≡ true
unfolding cseqs
rising_born start past e l is = subst (λ (x : Life). rise (cseqs x) ≡ true) (sym (birth_of_some start past e l is).is) refl

pub rising_law : RisingLaw
rising_law start past s l is = each_life start (λ past s l. rise (cseqs l) ≡ true) (λ past e l begins. rising_born start past e l begins) (λ past e s l at h alive. rising-lived start s past e l h) (λ past e s l h gone. h) past s l is

-- ---- how far a transfer has come

-- and where nothing befalls a transfer, no Progress of its tag came
abbrev StatusAt : Start → ℕ → List Event → Event → Life → Option Life → Type 0
StatusAt start s past e l None = is_refer (birth l) ≡ true → status l ≡ status_after (tag_of start.place s) e (status l)
StatusAt start s past e l (Some m) = is_refer (birth m) ≡ true → (is_refer (birth l) ≡ true) × (status m ≡ status_after (tag_of start.place s) e (status l))

lived-status_after : (start : Start) (s : ℕ) (past : List Event) (e : Event) (l : Life) → StatusAt start s past e l (lived start s past e l)
unfolding status birth
lived-status_after start s past (Comes source r) l = rw (lived-comes start s past source r l) (when_is (StatusAt start s past (Comes source r) l) (hears start s past r l) (Then (now past) (Heard source r) l) (λ h f. (f, refl)) (λ h f. refl))
lived-status_after start s past (Replies r) l = rw (lived-replies start s past r l) (if_is (StatusAt start s past (Replies r) l) (is_answer_in_dialog (tag_of start.place s) (birth l) r && is_to_notify start.place.limits r l) (option_map (λ d. Then (now past) d l) (answer_deed r)) None
    (λ g. by_answer (StatusAt start s past (Replies r) l) start.place.limits (now past) r l (λ f. (f, refl)) (λ f. (f, refl)) (λ f. refl)) (λ g f. refl))
lived-status_after start s past (Mails m) l = rw (lived-mails start s past m l) (when_is (StatusAt start s past (Mails m) l) _ (Then (now past) MailChanged l) (λ h f. (f, refl)) (λ h f. refl))
lived-status_after start s past (Ticks t) l = rw (lived-ticks start s past t l) (by_tick (StatusAt start s past (Ticks t) l) start.place.limits (now (Ticks t ∷ past)) l (λ f. (f, refl)) (λ f. (f, refl)) (λ f. refl))
lived-status_after start s past Shuts l = rw (lived-shuts start s past l) (λ f. (f, refl))
lived-status_after start s past (Progresses p) l = rw (lived-progresses start s past p l) (when_is (StatusAt start s past (Progresses p) l) (bytes_eq (tag_of start.place s) p.tag && is_refer (birth l)) (Then (now past) (Progressed p) l)
    (λ h f. (f, rw (and-left (bytes_eq (tag_of start.place s) p.tag) (is_refer (birth l)) h) refl))
    (λ h f. let e : bytes_eq (tag_of start.place s) p.tag ≡ false = left_false (bytes_eq (tag_of start.place s) p.tag) (is_refer (birth l)) f h in rw e refl))
  where
    left_false : (a b : Bool) → b ≡ true → (a && b) ≡ false → a ≡ false
    left_false true b e h = sym e ∙ h
    left_false false b e h = refl

-- the status of one that isn't gone
abbrev Stands : Start → ℕ → List Event → Life → Type 0
Stands start s past l = is_gone start.place.limits l ≡ false → is_refer (birth l) ≡ true → status l ≡ last_status start s past

status_born : (start : Start) (past : List Event) (e : Event) (s : ℕ) (l : Life) → (s == births start past + 1) ≡ true → birth_at start past e ≡ Some l → status l ≡ last_status start s (e ∷ past)
unfolding status last_status is_born_at
status_born start past e s l next begins = ap status (birth_of_some start past e l begins).is ∙ rw (next, begins) refl

-- a living one has the status that the event leaves
status_on : (start : Start) (past : List Event) (e : Event) (s : ℕ) (l : Life) → life start past s ≡ Some l → Stands start s past l → is_gone start.place.limits l ≡ false → is_refer (birth l) ≡ true → status_after (tag_of start.place s) e (status l) ≡ last_status start s (e ∷ past)
unfolding last_status is_born_at
status_on start past e s l is h alive refers = rw (not_next start past s l is) (ap (status_after (tag_of start.place s) e) (h alive refers))

status_lived : (start : Start) (past : List Event) (e : Event) (s : ℕ) (l m : Life) → life start past s ≡ Some l → Stands start s past l → is_gone start.place.limits l ≡ false → lived start s past e l ≡ Some m → is_refer (birth m) ≡ true → status m ≡ last_status start s (e ∷ past)
status_lived start past e s l m is h alive at refers =
    let after = subst (StatusAt start s past e l) at (lived-status_after start s past e l) refers in
    after.1 ∙ status_on start past e s l is h alive after.0

status_stays : (start : Start) (past : List Event) (e : Event) (s : ℕ) (l : Life) → life start past s ≡ Some l → Stands start s past l → is_gone start.place.limits l ≡ false → lived start s past e l ≡ None → is_refer (birth l) ≡ true → status l ≡ last_status start s (e ∷ past)
status_stays start past e s l is h alive at refers = subst (StatusAt start s past e l) at (lived-status_after start s past e l) refers ∙ status_on start past e s l is h alive refers

stands : (start : Start) (past : List Event) (s : ℕ) (l : Life) → life start past s ≡ Some l → Stands start s past l
stands start past s l is = each_life start (λ past s l. Stands start s past l)
    (λ past e l begins alive refers. status_born start past e (births start past + 1) l (let own : (births start past + 1 == births start past + 1) ≡ true = grind (arith, nat_tests) in own) begins)
    (λ past e s l at h alive. on past e s l at h alive (lived start s past e l) refl)
    (λ past e s l h gone alive. absurd (never_both (is_gone start.place.limits l) gone alive))
    past s l is
  where
    on : (past : List Event) (e : Event) (s : ℕ) (l : Life) → life start past s ≡ Some l → Stands start s past l → is_gone start.place.limits l ≡ false → (o : Option Life) → lived start s past e l ≡ o → After (Stands start s (e ∷ past)) l o
    on past e s l at h alive None is = λ g refers. status_stays start past e s l at h alive is refers
    on past e s l at h alive (Some m) is = λ g refers. status_lived start past e s l m at h alive is refers

pub status_law : StatusLaw
status_law start past e s m = by_fate start past e s (λ o before. o ≡ Some m → is_refer (birth m) ≡ true → status m ≡ last_status start s (e ∷ past))
    (λ unborn h. absurd (cc))
    (λ l next begins h refers. let same : l ≡ m = cc in subst (λ (x : Life). status x ≡ last_status start s (e ∷ past)) same (status_born start past e s l next begins))
    (λ l is gone h. absurd (cc))
    (λ l is alive h refers. status_lived start past e s l m is (stands start past s l is) alive h refers)
