-- None of the NOTIFYs of one subscription but the last says that it is terminated.
use Rattle.std.proofs.Common.{◌≡◌, ℕ, ◌+◌, List, [], ◌∷◌, ◌++◌, Option, Some, None, Bool, true, false, not, ◌&&◌, refl, sym, ◌∙◌, ap}
use Rattle.std.specs.Prelude.{if◌then◌else◌, ◌||◌, is_some}
use Rattle.std.proofs.lemmas.List.{append-nil}
use Rattle.subscription.specs.declared.notify.Reason.{Reason}
use Rattle.notifier_model.specs.Limits.{Limits}
use Rattle.notifier_model.specs.Start.{Start}
use Rattle.notifier_model.specs.declared.event.Event.{Event}
use Rattle.notifier_model.specs.Out.{Notification, is_last}
use Rattle.life.specs.Life.{Life, is_touched, terminated, is_removed, is_gone}
use Rattle.life.specs.Lives.{life, befell}
use Rattle.life.specs.Sentences.{or_before}
use Rattle.life.specs.Notices.{phase, notice_of, notices_at, notices}
use Rattle.life.specs.Laws.{ends_once, EndsLaw}
use Rattle.life.proofs.Texts.{and-left, and-right, if_is}
use Rattle.life.proofs.NextLives.{by_fate, life-next}

goes_on : Limits → Option Life → Bool
goes_on limits None = true
goes_on limits (Some l) = not (is_gone limits l)

all_active : List Notification → Bool
all_active [] = true
all_active (n ∷ ns) = not (is_last n.state) && all_active ns

active-append : (ns ms : List Notification) → all_active ns ≡ true → all_active ms ≡ true → all_active (ns ++ ms) ≡ true
unfolding all_active
active-append [] ms a b = b
active-append (n ∷ ns) ms a b =
    let here = and-left (not (is_last n.state)) (all_active ns) a in
    let rest = active-append ns ms (and-right (not (is_last n.state)) (all_active ns) a) b in
    rw (here, rest) refl

-- active ones, and one more
ends-append : (ns : List Notification) (m : Notification) → all_active ns ≡ true → ends_once (ns ++ m ∷ []) ≡ true
unfolding all_active ends_once
ends-append [] m a = refl
ends-append (n ∷ []) m a = rw (and-left (not (is_last n.state)) true a) refl
ends-append (n ∷ o ∷ ns) m a =
    rw (and-left (not (is_last n.state)) (not (is_last o.state) && all_active ns) a) (ends-append (o ∷ ns) m (and-right (not (is_last n.state)) (not (is_last o.state) && all_active ns) a))

active-ends : (ns : List Notification) → all_active ns ≡ true → ends_once ns ≡ true
unfolding all_active ends_once
active-ends [] a = refl
active-ends (n ∷ []) a = refl
active-ends (n ∷ o ∷ ns) a = rw (and-left (not (is_last n.state)) (not (is_last o.state) && all_active ns) a) (active-ends (o ∷ ns) (and-right (not (is_last n.state)) (not (is_last o.state) && all_active ns) a))

-- what befalls one befalls one that goes on
befell-on : (start : Start) (s : ℕ) (past : List Event) (e : Event) (m : Life) → befell start past e s ≡ Some m → goes_on start.place.limits (life start past s) ≡ true
unfolding goes_on
befell-on start s past e m = by_fate start past e s (λ o before. o ≡ Some m → goes_on start.place.limits before ≡ true)
    (λ unborn h. refl) (λ l next begins h. refl) (λ l is gone h. absurd (cc)) (λ l is alive h. rw alive refl)

-- one that goes on was told that it is active, if anything
active_at : (start : Start) (es : List Event) (m : Life) → is_gone start.place.limits m ≡ false → all_active (notices_at start es (Some m)) ≡ true
unfolding all_active notices_at notice_of is_gone
active_at start es m alive = by_reason (terminated start.place.limits m) refl alive
  where
    by_reason : (o : Option Reason) → terminated start.place.limits m ≡ o → (is_some o || is_removed m) ≡ false → all_active (if is_touched start.place.limits m then notice_of start es m ∷ [] else []) ≡ true
    by_reason (Some reason) e f = absurd (cc)
    by_reason None e f = if_is (λ (ns : List Notification). all_active ns ≡ true) (is_touched start.place.limits m) (notice_of start es m ∷ []) [] (λ t. unfold all_active notice_of phase in (rw e refl)) (λ t. refl)

record Ends (start : Start) (s : ℕ) (past : List Event) : Type 0 where
  active : goes_on start.place.limits (life start past s) ≡ true → all_active (notices start s past) ≡ true
  once : ends_once (notices start s past) ≡ true

one_or_none : (start : Start) (es : List Event) (m : Life) (ns : List Notification) → all_active ns ≡ true → ends_once (ns ++ notices_at start es (Some m)) ≡ true
unfolding notices_at
one_or_none start es m ns a = if_is (λ (ms : List Notification). ends_once (ns ++ ms) ≡ true) (is_touched start.place.limits m) (notice_of start es m ∷ []) [] (λ t. ends-append ns (notice_of start es m) a) (λ t. rw (append-nil ns) (active-ends ns a))

ends_more : (start : Start) (s : ℕ) (past : List Event) (e : Event) (o : Option Life) → befell start past e s ≡ o → ((m : Life) → o ≡ Some m → goes_on start.place.limits (life start past s) ≡ true) → Ends start s past → Ends start s (e ∷ past)
unfolding notices goes_on all_active notices_at
ends_more start s past e None is h before = record {
  active = λ g. rw is (rw (append-nil (notices start s past)) (before.active (ap (goes_on start.place.limits) (sym same) ∙ g)));
  once = rw is (rw (append-nil (notices start s past)) before.once);
}
  where
    same : life start (e ∷ past) s ≡ life start past s
    same = life-next start past e s ∙ ap (λ (x : Option Life). or_before x (life start past s)) is
ends_more start s past e (Some m) is h before = record {
  active = λ g. rw is (active-append (notices start s past) (notices_at start (e ∷ past) (Some m)) (before.active (h m refl)) (active_at start (e ∷ past) m (alive g)));
  once = rw is (one_or_none start (e ∷ past) m (notices start s past) (before.active (h m refl)));
}
  where
    same : life start (e ∷ past) s ≡ Some m
    same = life-next start past e s ∙ ap (λ (x : Option Life). or_before x (life start past s)) is

    flip : (d : Bool) → not d ≡ true → d ≡ false
    flip true f = absurd (cc)
    flip false f = refl

    alive : goes_on start.place.limits (life start (e ∷ past) s) ≡ true → is_gone start.place.limits m ≡ false
    alive g = flip (is_gone start.place.limits m) (sym (ap (goes_on start.place.limits) same) ∙ g)

ends : (start : Start) (s : ℕ) (past : List Event) → Ends start s past
ends start s [] = record { active = λ g. unfold notices all_active in refl; once = unfold notices ends_once in refl }
ends start s (e ∷ past) = ends_more start s past e (befell start past e s) refl (λ m is. befell-on start s past e m is) (ends start s past)

pub ends_law : EndsLaw
ends_law start s past = (ends start s past).once
