-- What is true of each life at any moment, and what befalls a living one.
use Rattle.std.proofs.Common.{◌≡◌, ℕ, ◌+◌, ◌<◌, List, [], ◌∷◌, ◌++◌, Option, Some, None, Bool, true, false, not, ◌&&◌, refl, sym, ◌∙◌, ap, arith, subst}
use Rattle.std.specs.Prelude.{if◌then◌else◌, ◌==◌, ◌||◌, nat_lt, nat_le, min, is_some, is_none, bytes_eq, filter, option_map, option_and_then}
use Rattle.std.specs.List.{list_any}
use Rattle.std.proofs.lemmas.Bool.Decides.{nat_tests}
use Rattle.std.proofs.Math.Bool.{and-true}
use Rattle.life.proofs.Texts.{Bytes, never_both, not_true, and-right, if_is, when_is}
use Rattle.sip_text.specs.declared.address.Addr.{Addr}
use Rattle.sip_read.specs.declared.message.Request.{Request}
use Rattle.sip_read.specs.declared.message.Response.{Response}
use Rattle.notifier_model.specs.Fields.{value_of}
use Rattle.package.specs.Content.{Seen, is_final, held}
use Rattle.package.specs.Values.{MailChange, Progress}
use Rattle.package.specs.Boxes.{first_box}
use Rattle.subscription.specs.declared.notify.Reason.{Reason}
use Rattle.subscription.specs.declared.notify.Reason.TheVariants.{Timeout, Noresource, Deactivated}
use Rattle.notifier_model.specs.Limits.{Limits}
use Rattle.notifier_model.specs.Start.{Start, tag_of, patience}
use Rattle.notifier_model.specs.declared.row.Unanswered.{Unanswered}
use Rattle.subscription.specs.Table.{refuses}
use Rattle.notifier_model.specs.declared.event.Event.{Event}
use Rattle.notifier_model.specs.declared.event.Event.TheVariants.{Request as Comes, Reply as Replies, Mail as Mails, Progress as Progresses, Tick as Ticks, Shut as Shuts}
use Rattle.notifier_model.specs.Requests.{is_refer, event_of, is_of_refer, asked, granted, asks_nothing, is_unwatched, is_no, misfit, misplaced_at, is_acceptable, is_too_brief, user_part}
use Rattle.notifier_model.specs.declared.refusal.Refusal.TheVariants.{OnlyByRefer, NotAcceptable, NoResource, TooBrief}
use Rattle.life.specs.Past.{now, is_placed, is_fresh, fits}
use Rattle.life.specs.Life.{Deed, Life, Born, Then, Heard, MailChanged, Progressed, Due, Answered, Disowned, Lost, Stopped, Hearing, hearing, last_heard, cseqs, birth, accepts, is_above, grants, last_grant, is_news, end_of, end_of_grant, status, is_touched, number, just_made, unanswered, is_overdue, ended, terminated, is_removed, is_gone}
use Rattle.life.specs.Lives.{when, is_answer_in_dialog, is_to_notify, answer_deed, tick_deed, is_due, may_hear, lived, befalls, life, birth_at}
use Rattle.life.specs.Sentences.{or_before}
use Rattle.life.proofs.Deeds.{hears, lived-comes, lived-replies, lived-mails, lived-progresses, lived-ticks, lived-shuts, lived_is}
use Rattle.life.proofs.Rows.{last_cseq}
use Rattle.life.proofs.NextLives.{After, befell-none, each_life, life-next, birth_of_some, Ranges}

pub record Sound (start : Start) (past : List Event) (l : Life) : Type 0 where
  pub above : (c : ℕ) → is_above l c ≡ nat_lt (last_cseq l) c
  pub plain : is_refer (birth l) ≡ false → is_of_refer (event_of (birth l)) ≡ false
  pub time : is_gone start.place.limits l ≡ false → now past < end_of_grant start.place.limits l
  pub unfinished : is_gone start.place.limits l ≡ false → is_final (status l).0 ≡ false
  pub patient : is_gone start.place.limits l ≡ false → is_overdue start.place.limits (now past) l ≡ false

-- ---- what ends it

pub gone-ended : (limits : Limits) (l : Life) (reason : Reason) → is_touched limits l ≡ true → ended limits l ≡ Some reason → is_gone limits l ≡ true
unfolding is_gone terminated
gone-ended limits l reason touched e = rw (touched, e) refl

pub gone-removed : (limits : Limits) (l : Life) → is_removed l ≡ true → is_gone limits l ≡ true
unfolding is_gone
gone-removed limits l h = rw h (either (is_some (terminated limits l)))
  where
    either : (d : Bool) → (d || true) ≡ true
    either true = refl
    either false = refl

-- ---- what is unanswered

abbrev late : ℕ → Unanswered → Bool
late moment notify = nat_le (notify.moment + patience) moment

any-append : (p : Unanswered → Bool) (xs ys : List Unanswered) → list_any p xs ≡ false → list_any p ys ≡ false → list_any p (xs ++ ys) ≡ false
any-append p [] ys a b = b
any-append p (x ∷ xs) ys a b = by_first (p x) a (λ h. any-append p xs ys h b)
  where
    by_first : (d : Bool) → (d || list_any p xs) ≡ false → (list_any p xs ≡ false → list_any p (xs ++ ys) ≡ false) → (d || list_any p (xs ++ ys)) ≡ false
    by_first true h rest = absurd (cc)
    by_first false h rest = rest h

any-filter : (p keep : Unanswered → Bool) (xs : List Unanswered) → list_any p xs ≡ false → list_any p (filter keep xs) ≡ false
any-filter p keep [] a = refl
any-filter p keep (x ∷ xs) a = by_kept (p x) (keep x) refl a (λ h. any-filter p keep xs h)
  where
    by_kept : (c d : Bool) → p x ≡ c → (c || list_any p xs) ≡ false → (list_any p xs ≡ false → list_any p (filter keep xs) ≡ false) → list_any p (if d then x ∷ filter keep xs else filter keep xs) ≡ false
    by_kept true d e h rest = absurd (cc)
    by_kept false true e h rest = rw e (rest h)
    by_kept false false e h rest = rest h

-- what was made just now isn't late
new_early : (limits : Limits) (moment : ℕ) (l : Life) → list_any (late moment) (just_made limits moment l) ≡ false
unfolding just_made
new_early limits moment l = if_is (λ (ns : List Unanswered). list_any (late moment) ns ≡ false) (is_touched limits l) (record { number = number limits l; moment = moment } ∷ []) []
    (λ e. let f : nat_le (moment + patience) moment ≡ false = grind (arith, nat_tests) in rw f refl) (λ e. refl)

still_early : (limits : Limits) (moment : ℕ) (before after : Life) → is_overdue limits moment before ≡ false → list_any (late moment) (unanswered limits before ++ just_made limits moment after) ≡ false
unfolding is_overdue
still_early limits moment before after h = any-append (late moment) (unanswered limits before) (just_made limits moment after) h (new_early limits moment after)

-- ---- grants

granted-positive : (limits : Limits) (r : Request) → Ranges limits → asks_nothing limits r ≡ false → 0 < granted limits r
unfolding granted asks_nothing
granted-positive limits r ok h = by_refer (is_refer r) h
  where
    by_refer : (d : Bool) → (not d && asked limits r == 0) ≡ false → 0 < (if d then limits.refer_time else min (asked limits r) limits.max_time)
    by_refer true h = ok.refer
    by_refer false h = let a = ok.some_time in let b = ok.longer in let c : 0 < asked limits r = grind (arith, nat_tests) in omega arith

asks-something : (limits : Limits) (r : Request) → nat_lt 0 (asked limits r) ≡ true → asks_nothing limits r ≡ false
unfolding asks_nothing
asks-something limits r h = by_refer (is_refer r)
  where
    by_refer : (d : Bool) → (not d && asked limits r == 0) ≡ false
    by_refer true = refl
    by_refer false = grind (arith, nat_tests)

-- ---- the birth

-- a SUBSCRIBE that is placed isn't one to `refer`
placed-plain : (start : Start) (r : Request) (o : Option Seen) → is_none (misplaced_at start.place.limits r o) ≡ true → is_refer r ≡ false → is_of_refer (event_of r) ≡ false
unfolding misplaced_at
placed-plain start r None h plain = absurd (cc)
placed-plain start r (Some box) h plain = by_refer (is_of_refer (event_of r)) refl (rw plain at h)
  where
    by_refer : (d : Bool) → is_of_refer (event_of r) ≡ d → is_none (if d then Some OnlyByRefer
        else if not (is_acceptable box.content_type (value_of r.accept)) then Some NotAcceptable
        else if is_none (held box.contents (user_part r.uri)) then Some NoResource
        else if is_too_brief start.place.limits r then Some TooBrief
        else None) ≡ true → is_of_refer (event_of r) ≡ false
    by_refer true e g = absurd (cc)
    by_refer false e g = e

pub fits-plain : (start : Start) (past : List Event) (r : Request) → fits start past r ≡ true → r.head.to.tag ≡ None → is_refer r ≡ false → is_of_refer (event_of r) ≡ false
unfolding fits
fits-plain start past r h no_tag plain =
    let placed : is_placed start r r.head.to.tag ≡ true = and-right (is_none (misfit r)) (is_placed start r r.head.to.tag) (and-right (is_fresh start.place.limits past r) (is_none (misfit r) && is_placed start r r.head.to.tag) h) in
    placed-plain start r (first_box (event_of r).package start.boxes) (subst (λ (tag : Option Bytes). is_placed start r tag ≡ true) no_tag placed) plain

-- who asks for no time sends no REFER
watched : (limits : Limits) (r : Request) → asks_nothing limits r ≡ true → is_unwatched r ≡ false
unfolding asks_nothing is_unwatched
watched limits r h = by_refer (is_refer r) h
  where
    by_refer : (d : Bool) → (not d && asked limits r == 0) ≡ true → (d && is_no (value_of r.refer_sub)) ≡ false
    by_refer true h = absurd (cc)
    by_refer false h = refl

sound_born : (start : Start) (past : List Event) (source : Addr) (r : Request) → Ranges start.place.limits → (is_refer r ≡ false → is_of_refer (event_of r) ≡ false) → Sound start (Comes source r ∷ past) (Born (now past) source r)
unfolding is_above cseqs last_cseq birth now end_of_grant last_heard status
sound_born start past source r ok plain = record {
  above = λ c. and-true (nat_lt r.head.cseq c);
  plain = plain;
  time = λ g. by_asked (asks_nothing start.place.limits r) refl g;
  unfinished = λ g. refl;
  patient = λ g. unfold is_overdue unanswered now in new_early start.place.limits (now past) (Born (now past) source r);
}
  where
    gone : asks_nothing start.place.limits r ≡ true → is_gone start.place.limits (Born (now past) source r) ≡ true
    gone e = gone-ended start.place.limits (Born (now past) source r) Timeout (unfold is_touched in (ap not (watched start.place.limits r e))) (unfold ended in (rw e refl))

    by_asked : (d : Bool) → asks_nothing start.place.limits r ≡ d → is_gone start.place.limits (Born (now past) source r) ≡ false → now past < now past + granted start.place.limits r
    by_asked true e g = absurd (never_both (is_gone start.place.limits (Born (now past) source r)) (gone e) g)
    by_asked false e g = let pos = granted-positive start.place.limits r ok e in omega arith

-- ---- what befalls it

sound_heard : (start : Start) (past : List Event) (source : Addr) (r : Request) (l : Life) → Ranges start.place.limits → Sound start past l → is_gone start.place.limits l ≡ false → is_above l r.head.cseq ≡ true → Sound start (Comes source r ∷ past) (Then (now past) (Heard source r) l)
unfolding is_above cseqs last_cseq birth now end_of_grant last_heard status
sound_heard start past source r l ok sound alive above = record {
  above = λ c. let a = sound.above c in let b = sound.above r.head.cseq in rw a (lt_all r.head.cseq (last_cseq l) c (sym b ∙ above));
  plain = sound.plain;
  time = λ g. if_is (λ (h : Hearing). now past < end_of start.place.limits h) (grants start.place.limits l r) (hearing (now past) source r) (last_grant start.place.limits l)
      (λ e. let pos = granted-positive start.place.limits r ok (asks-something start.place.limits r (and-right (accepts start.place.limits l r) (nat_lt 0 (asked start.place.limits r)) e)) in omega arith)
      (λ e. sound.time alive);
  unfinished = λ g. sound.unfinished alive;
  patient = λ g. unfold is_overdue unanswered now in still_early start.place.limits (now past) l (Then (now past) (Heard source r) l) (sound.patient alive);
}
  where
    lt_all : (a b c : ℕ) → nat_lt b a ≡ true → (nat_lt a c && nat_lt b c) ≡ nat_lt a c
    lt_all a b c h = grind (arith, nat_tests)

sound_progressed : (start : Start) (past : List Event) (p : Progress) (l : Life) → Sound start past l → is_gone start.place.limits l ≡ false → Sound start (Progresses p ∷ past) (Then (now past) (Progressed p) l)
unfolding is_above cseqs last_cseq birth now end_of_grant last_heard status
sound_progressed start past p l sound alive = record {
  above = sound.above;
  plain = sound.plain;
  time = λ g. sound.time alive;
  unfinished = λ g. not_true (is_final p.code) (λ final. by_news (is_news p (status l)) refl final g);
  patient = λ g. unfold is_overdue unanswered now in still_early start.place.limits (now past) l (Then (now past) (Progressed p) l) (sound.patient alive);
}
  where
    not_news : (c d : Bool) → not (c && d) ≡ false → c ≡ true
    not_news true d e = refl
    not_news false d e = absurd (cc)

    by_news : (d : Bool) → is_news p (status l) ≡ d → is_final p.code ≡ true → is_gone start.place.limits (Then (now past) (Progressed p) l) ≡ false → ⊥
    by_news true e final g =
        never_both (is_gone start.place.limits (Then (now past) (Progressed p) l)) (gone-ended start.place.limits (Then (now past) (Progressed p) l) Noresource (unfold is_touched in e) (unfold ended in rw final refl)) g
    by_news false e final g =
        let codes : p.code ≡ (status l).0 = (let h : (p.code == (status l).0) ≡ true = not_news (p.code == (status l).0) (bytes_eq p.reason (status l).1) e in grind (arith, nat_tests)) in
        never_both (is_final p.code) final (rw codes (sound.unfinished alive))

-- nothing befalls it, or nothing that ends no time
sound_stays : (start : Start) (past : List Event) (e : Event) (l : Life) → Sound start past l → (is_gone start.place.limits l ≡ false → (now (e ∷ past) < end_of_grant start.place.limits l) × (is_overdue start.place.limits (now (e ∷ past)) l ≡ false)) → Sound start (e ∷ past) l
sound_stays start past e l sound later = record { above = sound.above; plain = sound.plain; time = λ g. (later g).0; unfinished = sound.unfinished; patient = λ g. (later g).1 }

abbrev pub SoundAfter : Start → List Event → Life → Option Life → Type 0
SoundAfter start es l o = After (Sound start es) l o

sound_changed : (start : Start) (past : List Event) (m : MailChange) (l : Life) → Sound start past l → is_gone start.place.limits l ≡ false → Sound start (Mails m ∷ past) (Then (now past) MailChanged l)
unfolding is_above cseqs last_cseq birth now end_of_grant last_heard status
sound_changed start past m l sound alive = record {
  above = sound.above;
  plain = sound.plain;
  time = λ g. sound.time alive;
  unfinished = λ g. sound.unfinished alive;
  patient = λ g. unfold is_overdue unanswered now in still_early start.place.limits (now past) l (Then (now past) MailChanged l) (sound.patient alive);
}

sound_answered : (start : Start) (past : List Event) (r : Response) (n : ℕ) (l : Life) → Sound start past l → is_gone start.place.limits l ≡ false → Sound start (Replies r ∷ past) (Then (now past) (Answered n) l)
unfolding is_above cseqs last_cseq birth now end_of_grant last_heard status
sound_answered start past r n l sound alive = record {
  above = sound.above;
  plain = sound.plain;
  time = λ g. sound.time alive;
  unfinished = λ g. sound.unfinished alive;
  patient = λ g. unfold is_overdue unanswered now in any-filter _ _ (unanswered start.place.limits l) (unfold is_overdue in sound.patient alive);
}

-- what ends it leaves nothing to be said
sound_gone : (start : Start) (past : List Event) (e : Event) (moment : ℕ) (deed : Deed) (l : Life) → Sound start past l → (((c : ℕ) → is_above (Then moment deed l) c ≡ is_above l c) × (last_cseq (Then moment deed l) ≡ last_cseq l)) → is_gone start.place.limits (Then moment deed l) ≡ true → Sound start (e ∷ past) (Then moment deed l)
unfolding birth
sound_gone start past e moment deed l sound same gone = record {
  above = λ c. (same.0 c ∙ sound.above c) ∙ ap (λ (n : ℕ). nat_lt n c) (sym same.1);
  plain = sound.plain;
  time = λ g. absurd (never_both (is_gone start.place.limits (Then moment deed l)) gone g);
  unfinished = λ g. absurd (never_both (is_gone start.place.limits (Then moment deed l)) gone g);
  patient = λ g. absurd (never_both (is_gone start.place.limits (Then moment deed l)) gone g);
}

gone_due : (limits : Limits) (moment : ℕ) (l : Life) → is_gone limits (Then moment Due l) ≡ true
gone_due limits moment l = gone-ended limits (Then moment Due l) Timeout (unfold is_touched in refl) (unfold ended in refl)

gone_stopped : (limits : Limits) (moment : ℕ) (l : Life) → is_gone limits (Then moment Stopped l) ≡ true
gone_stopped limits moment l = gone-ended limits (Then moment Stopped l) Deactivated (unfold is_touched in refl) (unfold ended in refl)

gone_disowned : (limits : Limits) (moment : ℕ) (l : Life) → is_gone limits (Then moment Disowned l) ≡ true
gone_disowned limits moment l = gone-removed limits (Then moment Disowned l) (unfold is_removed in refl)

gone_lost : (limits : Limits) (moment : ℕ) (l : Life) → is_gone limits (Then moment Lost l) ≡ true
gone_lost limits moment l = gone-removed limits (Then moment Lost l) (unfold is_removed in refl)

not_le : (a b : ℕ) → nat_le a b ≡ false → b < a
not_le a b h = grind (arith, nat_tests)

-- by what a moment is to it
sound_ticked : (start : Start) (past : List Event) (t : ℕ) (l : Life) → Sound start past l → SoundAfter start (Ticks t ∷ past) l (option_map (λ d. Then (now (Ticks t ∷ past)) d l) (tick_deed start.place.limits (now (Ticks t ∷ past)) l))
unfolding tick_deed is_due is_above cseqs last_cseq
sound_ticked start past t l sound = by_tests (is_overdue start.place.limits (now (Ticks t ∷ past)) l) (nat_le (end_of_grant start.place.limits l) (now (Ticks t ∷ past))) refl refl
  where
    by_tests : (a b : Bool) → is_overdue start.place.limits (now (Ticks t ∷ past)) l ≡ a → nat_le (end_of_grant start.place.limits l) (now (Ticks t ∷ past)) ≡ b → SoundAfter start (Ticks t ∷ past) l (option_map (λ d. Then (now (Ticks t ∷ past)) d l) (if a then Some Lost else when b Due))
    by_tests true b e f = sound_gone start past (Ticks t) (now (Ticks t ∷ past)) Lost l sound (λ c. refl, refl) (gone_lost start.place.limits (now (Ticks t ∷ past)) l)
    by_tests false true e f = sound_gone start past (Ticks t) (now (Ticks t ∷ past)) Due l sound (λ c. refl, refl) (gone_due start.place.limits (now (Ticks t ∷ past)) l)
    by_tests false false e f = sound_stays start past (Ticks t) l sound (λ g. (not_le (end_of_grant start.place.limits l) (now (Ticks t ∷ past)) f, e))

-- by the status of an answer
sound_replied : (start : Start) (past : List Event) (r : Response) (l : Life) → Sound start past l → is_gone start.place.limits l ≡ false → SoundAfter start (Replies r ∷ past) l (option_map (λ d. Then (now past) d l) (answer_deed r))
unfolding answer_deed is_above cseqs last_cseq now
sound_replied start past r l sound alive = by_tests (refuses r) (is_final r.status)
  where
    by_tests : (a b : Bool) → SoundAfter start (Replies r ∷ past) l (option_map (λ d. Then (now past) d l) (if a then Some Disowned else when b (Answered r.head.cseq)))
    by_tests true b = sound_gone start past (Replies r) (now past) Disowned l sound (λ c. refl, refl) (gone_disowned start.place.limits (now past) l)
    by_tests false true = sound_answered start past r r.head.cseq l sound alive
    by_tests false false = sound_stays start past (Replies r) l sound (λ g. (sound.time g, sound.patient g))

sound_lived : (start : Start) (s : ℕ) (past : List Event) (e : Event) (l : Life) → Ranges start.place.limits → Sound start past l → is_gone start.place.limits l ≡ false → SoundAfter start (e ∷ past) l (lived start s past e l)
unfolding hears may_hear now is_above cseqs last_cseq
sound_lived start s past (Comes source r) l ok sound alive = rw (lived-comes start s past source r l)
    (when_is (SoundAfter start (Comes source r ∷ past) l) (hears start s past r l) (Then (now past) (Heard source r) l)
    (λ h. sound_heard start past source r l ok sound alive (and-right _ (is_above l r.head.cseq) (and-right (is_fresh start.place.limits past r) _ (and-right _ _ h))))
    (λ h. sound_stays start past (Comes source r) l sound (λ g. (sound.time g, sound.patient g))))
sound_lived start s past (Replies r) l ok sound alive = rw (lived-replies start s past r l)
    (if_is (SoundAfter start (Replies r ∷ past) l) (is_answer_in_dialog (tag_of start.place s) (birth l) r && is_to_notify start.place.limits r l) (option_map (λ d. Then (now past) d l) (answer_deed r)) None
    (λ h. sound_replied start past r l sound alive) (λ h. sound_stays start past (Replies r) l sound (λ g. (sound.time g, sound.patient g))))
sound_lived start s past (Mails m) l ok sound alive = rw (lived-mails start s past m l)
    (when_is (SoundAfter start (Mails m ∷ past) l) _ (Then (now past) MailChanged l) (λ h. sound_changed start past m l sound alive) (λ h. sound_stays start past (Mails m) l sound (λ g. (sound.time g, sound.patient g))))
sound_lived start s past (Progresses p) l ok sound alive = rw (lived-progresses start s past p l)
    (when_is (SoundAfter start (Progresses p ∷ past) l) _ (Then (now past) (Progressed p) l) (λ h. sound_progressed start past p l sound alive) (λ h. sound_stays start past (Progresses p) l sound (λ g. (sound.time g, sound.patient g))))
sound_lived start s past (Ticks t) l ok sound alive = rw (lived-ticks start s past t l) (sound_ticked start past t l sound)
sound_lived start s past Shuts l ok sound alive = rw (lived-shuts start s past l) (sound_gone start past Shuts (now past) Stopped l sound (λ c. refl, refl) (gone_stopped start.place.limits (now past) l))

birth_sound : (start : Start) (past : List Event) (e : Event) (m : Life) → Ranges start.place.limits → birth_at start past e ≡ Some m → Sound start (e ∷ past) m
birth_sound start past e m ok h =
    let b = birth_of_some start past e m h in
    subst (λ (x : Life). Sound start (e ∷ past) x) (sym b.is) (subst (λ (x : Event). Sound start (x ∷ past) (Born (now past) b.source b.request)) (sym b.event) (sound_born start past b.source b.request ok (fits-plain start past b.request b.fits b.no_tag)))

-- each life is sound
pub sound_of : (start : Start) (past : List Event) (s : ℕ) (l : Life) → Ranges start.place.limits → life start past s ≡ Some l → Sound start past l
sound_of start past s l ok is =
    each_life start (λ past s l. Sound start past l)
    (λ past e l begins. birth_sound start past e l ok begins)
    (λ past e s l at sound alive. sound_lived start s past e l ok sound alive)
    (λ past e s l sound gone. sound_stays start past e l sound (λ alive. absurd (never_both (is_gone start.place.limits l) gone alive)))
    past s l is

-- ---- where a living one came from, at an event without a birth

pub record Came (start : Start) (past : List Event) (e : Event) (s : ℕ) (m : Life) : Type 0 where
  pub before : Life
  pub is : life start past s ≡ Some before
  pub alive : is_gone start.place.limits before ≡ false
  pub next : or_before (lived start s past e before) (Some before) ≡ Some m

came_after : (start : Start) (past : List Event) (e : Event) (s : ℕ) (o : Option Life) (m : Life) → life start past s ≡ o → is_gone start.place.limits m ≡ false → or_before (option_and_then (befalls start s past e) o) o ≡ Some m → Came start past e s m
unfolding befalls
came_after start past e s None m is alive h = absurd (cc)
came_after start past e s (Some l) m is alive h = by_gone (is_gone start.place.limits l) refl h
  where
    by_gone : (d : Bool) → is_gone start.place.limits l ≡ d → or_before (if d then None else lived start s past e l) (Some l) ≡ Some m → Came start past e s m
    by_gone true g h = absurd (let same : l ≡ m = cc in never_both (is_gone start.place.limits l) g (ap (is_gone start.place.limits) same ∙ alive))
    by_gone false g h = record { before = l; is = is; alive = g; next = h }

pub came : (start : Start) (past : List Event) (e : Event) (s : ℕ) (m : Life) → birth_at start past e ≡ None → life start (e ∷ past) s ≡ Some m → is_gone start.place.limits m ≡ false → Came start past e s m
came start past e s m none is alive = came_after start past e s (life start past s) m refl alive (rw (← befell-none start past e s none) (sym (life-next start past e s) ∙ is))

-- what befalls keeps the birth, and the status but for a Progress
abbrev pub BirthKept : Life → Option Life → Type 0
BirthKept l None = Unit {0}
BirthKept l (Some m) = birth m ≡ birth l

abbrev pub StatusKept : Life → Option Life → Type 0
StatusKept l None = Unit {0}
StatusKept l (Some m) = status m ≡ status l

pub lived-birth : (start : Start) (s : ℕ) (past : List Event) (e : Event) (l : Life) → BirthKept l (lived start s past e l)
unfolding birth
lived-birth start s past e l = lived_is start s past e l (BirthKept l) tt (λ d. refl)

abbrev pub is_progress : Event → Bool
is_progress (Comes source r) = false
is_progress (Replies r) = false
is_progress (Mails m) = false
is_progress (Progresses p) = true
is_progress (Ticks t) = false
is_progress Shuts = false

replied-status : (moment : ℕ) (r : Response) (l : Life) → StatusKept l (option_map (λ d. Then moment d l) (answer_deed r))
unfolding answer_deed status
replied-status moment r l = by_tests (refuses r) (is_final r.status)
  where
    by_tests : (a b : Bool) → StatusKept l (option_map (λ d. Then moment d l) (if a then Some Disowned else when b (Answered r.head.cseq)))
    by_tests true b = refl
    by_tests false true = refl
    by_tests false false = tt

ticked-status : (limits : Limits) (moment : ℕ) (l : Life) → StatusKept l (option_map (λ d. Then moment d l) (tick_deed limits moment l))
unfolding tick_deed status
ticked-status limits moment l = by_tests (is_overdue limits moment l) (is_due limits moment l)
  where
    by_tests : (a b : Bool) → StatusKept l (option_map (λ d. Then moment d l) (if a then Some Lost else when b Due))
    by_tests true b = refl
    by_tests false true = refl
    by_tests false false = tt

pub lived-status : (start : Start) (s : ℕ) (past : List Event) (e : Event) (l : Life) → is_progress e ≡ false → StatusKept l (lived start s past e l)
unfolding status
lived-status start s past (Comes source r) l h = rw (lived-comes start s past source r l) (when_is (StatusKept l) (hears start s past r l) (Then (now past) (Heard source r) l) (λ h. refl) (λ h. tt))
lived-status start s past (Replies r) l h = rw (lived-replies start s past r l) (if_is (StatusKept l) (is_answer_in_dialog (tag_of start.place s) (birth l) r && is_to_notify start.place.limits r l) (option_map (λ d. Then (now past) d l) (answer_deed r)) None (λ h. replied-status (now past) r l) (λ h. tt))
lived-status start s past (Mails m) l h = rw (lived-mails start s past m l) (when_is (StatusKept l) _ (Then (now past) MailChanged l) (λ h. refl) (λ h. tt))
lived-status start s past (Progresses p) l h = absurd (cc)
lived-status start s past (Ticks t) l h = rw (lived-ticks start s past t l) (ticked-status start.place.limits (now (Ticks t ∷ past)) l)
lived-status start s past Shuts l h = rw (lived-shuts start s past l) refl

pub next-birth : (l m : Life) (o : Option Life) → BirthKept l o → or_before o (Some l) ≡ Some m → birth m ≡ birth l
next-birth l m None k e = let same : l ≡ m = cc in ap birth (sym same)
next-birth l m (Some n) k e = let same : n ≡ m = cc in ap birth (sym same) ∙ k

pub next-status : (l m : Life) (o : Option Life) → StatusKept l o → or_before o (Some l) ≡ Some m → status m ≡ status l
next-status l m None k e = let same : l ≡ m = cc in ap status (sym same)
next-status l m (Some n) k e = let same : n ≡ m = cc in ap status (sym same) ∙ k
