-- What moves a life, what ends it, and of what it is told nothing.
use Rattle.std.proofs.Common.{◌≡◌, ℕ, ◌+◌, List, [], ◌∷◌, ◌++◌, map, Option, Some, None, Bool, true, false, not, ◌&&◌, refl, sym, ◌∙◌, ap, subst, arith}
use Rattle.std.specs.Prelude.{if◌then◌else◌, ◌==◌, ◌||◌, is_some, filter}
use Rattle.std.specs.List.{list_any}
use Rattle.std.proofs.lemmas.Bool.Decides.{nat_tests}
use Rattle.std.proofs.lemmas.List.{append-nil}
use Rattle.life.proofs.Texts.{never_both, and-false}
use Rattle.sip_text.specs.declared.address.Addr.{Addr}
use Rattle.sip_read.specs.declared.message.Request.{Request}
use Rattle.life.specs.Past.{now}
use Rattle.subscription.specs.declared.notify.Reason.{Reason}
use Rattle.subscription.specs.declared.notify.Reason.TheVariants.{Deactivated}
use Rattle.notifier_model.specs.Limits.{Limits}
use Rattle.notifier_model.specs.Start.{Start}
use Rattle.notifier_model.specs.Requests.{is_unwatched}
use Rattle.notifier_model.specs.Out.{Notification}
use Rattle.notifier_model.specs.declared.event.Event.{Event}
use Rattle.notifier_model.specs.declared.row.Unanswered.{Unanswered}
use Rattle.life.specs.Life.{Deed, Life, Born, Then, Heard, MailChanged, Progressed, Due, Answered, Disowned, Lost, Stopped, birth, address, end_of_grant, last_heard, is_touched, number, just_made, unanswered, ended, terminated, is_removed, is_gone}
use Rattle.life.specs.Lives.{lived, life}
use Rattle.life.specs.Notices.{notices}
use Rattle.life.specs.Laws.{up_to}
use Rattle.life.specs.Sentences.{InTimeLaw, is_hearing, MovedLaw, TerminatedLaw, UnansweredLaw, number_of, UnwatchedLaw}
use Rattle.life.proofs.Deeds.{lived_is, address-accepted, address-refused, end-granted, end-not_granted}
use Rattle.life.proofs.NextLives.{After, each_life, birth_of_some, ranges}
use Rattle.life.proofs.SoundLives.{sound_of, gone-removed}
use Rattle.life.proofs.Numbers.{numbers_rise}

pub in_time_law : InTimeLaw
in_time_law start past s l ok is alive =
    let sound = sound_of start past s l (ranges start.place.limits ok.limits) is in
    record { has_time = sound.time alive; answered = sound.patient alive }

-- ---- what moves it

unmoved : (limits : Limits) (moment : ℕ) (l : Life) (deed : Deed) → is_hearing deed ≡ false → (address limits (Then moment deed l) ≡ address limits l) × (end_of_grant limits (Then moment deed l) ≡ end_of_grant limits l)
unfolding address end_of_grant last_heard birth
unmoved limits moment l (Heard source r) h = absurd (cc)
unmoved limits moment l MailChanged h = (refl, refl)
unmoved limits moment l (Progressed p) h = (refl, refl)
unmoved limits moment l Due h = (refl, refl)
unmoved limits moment l (Answered n) h = (refl, refl)
unmoved limits moment l Disowned h = (refl, refl)
unmoved limits moment l Lost h = (refl, refl)
unmoved limits moment l Stopped h = (refl, refl)

pub moved_law : MovedLaw
moved_law limits moment l = record {
  to_source = λ source r e. address-accepted limits moment source r l e;
  not_refused = λ source r e. address-refused limits moment source r l e;
  granted_anew = λ source r e. end-granted limits moment source r l e;
  not_granted = λ source r e. end-not_granted limits moment source r l e;
  by_nothing_else = unmoved limits moment l;
}

-- ---- what ends it

pub terminated_law : TerminatedLaw
unfolding terminated
terminated_law limits l = by_touch (is_touched limits l) (ended limits l) (number limits l == limits.max_cseq)
  where
    by_reason : (o : Option Reason) (d : Bool) → is_some (elim o as (λ x. Option Reason) [ None ↦ if d then Some Deactivated else None | Some reason ↦ Some reason ]) ≡ (is_some o || d)
    by_reason None true = refl
    by_reason None false = refl
    by_reason (Some reason) d = refl

    by_touch : (a : Bool) (o : Option Reason) (d : Bool) → is_some (if a then elim o as (λ x. Option Reason) [ None ↦ if d then Some Deactivated else None | Some reason ↦ Some reason ] else None) ≡ (a && (is_some o || d))
    by_touch true o d = by_reason o d
    by_touch false o d = refl

-- ---- what is unanswered

made_now : (limits : Limits) (moment : ℕ) (l : Life) (deed : Deed) → is_touched limits (Then moment deed l) ≡ true → unanswered limits (Then moment deed l) ≡ unanswered limits l ++ record { number = number limits (Then moment deed l); moment = moment } ∷ []
unfolding unanswered just_made
made_now limits moment l (Heard source r) h = rw h refl
made_now limits moment l MailChanged h = rw h refl
made_now limits moment l (Progressed p) h = rw h refl
made_now limits moment l Due h = rw h refl
made_now limits moment l (Answered n) h = absurd (let e : false ≡ true = (unfold is_touched in h) in cc)
made_now limits moment l Disowned h = absurd (let e : false ≡ true = (unfold is_touched in h) in cc)
made_now limits moment l Lost h = absurd (let e : false ≡ true = (unfold is_touched in h) in cc)
made_now limits moment l Stopped h = rw h refl

kept_so : (limits : Limits) (moment : ℕ) (l : Life) (deed : Deed) → ((n : ℕ) → deed ≡ Answered n → ⊥) → is_touched limits (Then moment deed l) ≡ false → unanswered limits (Then moment deed l) ≡ unanswered limits l
unfolding unanswered just_made
kept_so limits moment l (Heard source r) other h = rw h (append-nil (unanswered limits l))
kept_so limits moment l MailChanged other h = rw h (append-nil (unanswered limits l))
kept_so limits moment l (Progressed p) other h = rw h (append-nil (unanswered limits l))
kept_so limits moment l Due other h = rw h (append-nil (unanswered limits l))
kept_so limits moment l (Answered n) other h = absurd (other n refl)
kept_so limits moment l Disowned other h = rw h (append-nil (unanswered limits l))
kept_so limits moment l Lost other h = rw h (append-nil (unanswered limits l))
kept_so limits moment l Stopped other h = rw h (append-nil (unanswered limits l))

any-but : (n m : ℕ) (us : List Unanswered) → list_any (λ (u : Unanswered). u.number == m) (filter (λ (u : Unanswered). not (u.number == n)) us) ≡ (list_any (λ (u : Unanswered). u.number == m) us && not (m == n))
any-but n m [] = refl
any-but n m (u ∷ us) = by_number (u.number == n) (u.number == m) (m == n) refl (λ e f. together e f) (λ e f. apart e f) (any-but n m us)
  where
    together : (u.number == n) ≡ true → (u.number == m) ≡ true → (m == n) ≡ true
    together e f = grind (arith, nat_tests)

    apart : (u.number == m) ≡ true → (m == n) ≡ true → (u.number == n) ≡ true
    apart e f = grind (arith, nat_tests)

    by_number : (a b c : Bool) → (u.number == m) ≡ b → (a ≡ true → b ≡ true → c ≡ true) → (b ≡ true → c ≡ true → a ≡ true) → list_any (λ (u : Unanswered). u.number == m) (filter (λ (u : Unanswered). not (u.number == n)) us) ≡ (list_any (λ (u : Unanswered). u.number == m) us && not c) →
        list_any (λ (u : Unanswered). u.number == m) (if not a then u ∷ filter (λ (u : Unanswered). not (u.number == n)) us else filter (λ (u : Unanswered). not (u.number == n)) us) ≡ ((b || list_any (λ (u : Unanswered). u.number == m) us) && not c)
    by_number true true true e h g ih = ih ∙ and-false (list_any (λ (u : Unanswered). u.number == m) us)
    by_number true true false e h g ih = absurd (let f : false ≡ true = h refl refl in cc)
    by_number true false c e h g ih = ih
    by_number false true true e h g ih = absurd (let f : false ≡ true = g refl refl in cc)
    by_number false true false e h g ih = rw e refl
    by_number false false c e h g ih = rw e ih

pub unanswered_law : UnansweredLaw
unanswered_law limits moment l = record {
  made = made_now limits moment l;
  closed = λ n m. unfold unanswered in any-but n m (unanswered limits l);
  kept = kept_so limits moment l;
}

-- ---- what nobody watches

-- nothing befalls it, and nothing is told
record Unseen (limits : Limits) (l : Life) : Type 0 where
  gone : is_gone limits l ≡ true
  number : number limits l ≡ 0

untold_on : (start : Start) (s : ℕ) (past : List Event) (e : Event) (l : Life) → (is_unwatched (birth l) ≡ true → Unseen start.place.limits l) → is_gone start.place.limits l ≡ false → After (λ m. is_unwatched (birth m) ≡ true → Unseen start.place.limits m) l (lived start s past e l)
unfolding birth
untold_on start s past e l h alive = lived_is start s past e l (After (λ m. is_unwatched (birth m) ≡ true → Unseen start.place.limits m) l) h
    (λ d unwatched. absurd (never_both (is_gone start.place.limits l) (h unwatched).gone alive))

unseen : (limits : Limits) (moment : ℕ) (source : Addr) (r : Request) → is_unwatched (birth (Born moment source r)) ≡ true → Unseen limits (Born moment source r)
unfolding birth is_removed number is_touched
unseen limits moment source r h = record { gone = gone-removed limits (Born moment source r) h; number = rw h refl }

untold : (start : Start) (past : List Event) (s : ℕ) (l : Life) → life start past s ≡ Some l → is_unwatched (birth l) ≡ true → Unseen start.place.limits l
untold start past s l is =
    each_life start (λ past s l. is_unwatched (birth l) ≡ true → Unseen start.place.limits l)
    (λ past e l begins. let b = birth_of_some start past e l begins in subst (λ (x : Life). is_unwatched (birth x) ≡ true → Unseen start.place.limits x) (sym b.is) (unseen start.place.limits (now past) b.source b.request))
    (λ past e s l at h alive. untold_on start s past e l h alive)
    (λ past e s l h gone. h)
    past s l is

none_told : (ns : List Notification) → map (λ n. n.number) ns ≡ [] → ns ≡ []
none_told [] h = refl
none_told (n ∷ ns) h = absurd (cc)

pub unwatched_law : UnwatchedLaw
unwatched_law start past s l is h =
    let unseen = untold start past s l is h in
    let nothing : number_of start.place.limits (life start past s) ≡ 0 = ap (number_of start.place.limits) is ∙ unseen.number in
    record { gone = unseen.gone; untold = none_told (notices start s past) (numbers_rise start s past ∙ ap up_to nothing) }
