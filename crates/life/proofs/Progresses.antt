-- The step at which the progress of a transfer comes.
use Rattle.std.proofs.Common.{◌≡◌, ℕ, ◌+◌, ◌-◌, List, [], ◌∷◌, Option, Some, None, Bool, true, false, not, ◌&&◌, refl, sym, ◌∙◌, ap, subst, arith}
use Rattle.std.specs.Prelude.{if◌then◌else◌, ◌==◌, ◌||◌, bytes_eq}
use Rattle.std.proofs.lemmas.Bool.Decides.{nat_tests}
use Rattle.std.proofs.lemmas.List.{append-nil}
use Rattle.package.specs.Content.{Content, OfStatus, refer_package, Seen, is_final}
use Rattle.life.proofs.Texts.{Bytes, bytes_own, bytes_same, bytes_other_way, and-false, if_is}
use Rattle.package.specs.Values.{Progress}
use Rattle.package.specs.declared.change.Change.TheVariants.{Step}
use Rattle.package.specs.declared.change.Outcome.{Outcome}
use Rattle.package.specs.declared.change.Outcome.TheVariants.{Changed, Same, Unknown}
use Rattle.package.specs.Boxes.{change_first, content_in}
use Rattle.package.specs.Bodies.{body_of_held}
use Rattle.subscription.specs.declared.notify.Reason.TheVariants.{Noresource}
use Rattle.subscription.specs.Table.{changed, told}
use Rattle.notifier_model.specs.Start.{Start, tag_of}
use Rattle.notifier_model.specs.declared.event.Event.{Event}
use Rattle.notifier_model.specs.declared.event.Event.TheVariants.{Progress as Progresses}
use Rattle.notifier_model.specs.Requests.{is_refer, user_part, event_of}
use Rattle.notifier_model.specs.Book.{Book, nothing, content_changed, step}
use Rattle.notifier_model.specs.Rows.{stays, wherever, opened, with_sub, tells, tells_change, tells_watcher}
use Rattle.notifier_model.specs.Out.{notifications}
use Rattle.life.specs.Past.{now, content, last_counts, keys}
use Rattle.life.specs.Life.{Life, Then, Progressed, birth, last_heard, address, number, end_of_grant, status, is_news, is_touched, just_made, unanswered, ended, terminated, is_removed, is_gone, target}
use Rattle.life.specs.Lives.{when, lived, life, birth_at, begun}
use Rattle.life.specs.Sentences.{or_before}
use Rattle.life.specs.Notices.{notices_at, body}
use Rattle.life.proofs.Boxes.{stepped, step_outcome, step-after, step-outcome, types-stay, content-other}
use Rattle.life.proofs.Rows.{row_of, sub_of, want_of, usage_of, accepted_cseq, last_cseq, live_row}
use Rattle.life.proofs.Deeds.{lived-progresses}
use Rattle.life.proofs.NextLives.{Ranges, births-of_none}
use Rattle.life.proofs.SoundLives.{sound_of, came, lived-birth, next-birth}
use Rattle.life.proofs.Turns.{told_from, Follows, knows_on, told_follows}
use Rattle.life.proofs.AllRows.{TurnsInto, Rules}
use Rattle.life.proofs.Invariant.{Holdings, Holds, Goes, Transfers}
use Rattle.life.proofs.RepliesAndTicks.{by_all_rows, by_nothing, content-same, body-is, ended_follows}

-- ---- what a step makes of a status that isn't final

abbrev is_change : Outcome → Bool
is_change Changed = true
is_change Same = false
is_change Unknown = false

stepped-open : (p : Progress) (code : ℕ) (reason : Bytes) → is_final code ≡ false → stepped p (Some (OfStatus code reason)) ≡ Some (OfStatus p.code p.reason)
unfolding stepped
stepped-open p code reason e = rw e refl

flip-tests : (a b : ℕ) (c d : Bytes) → ((a == b) && bytes_eq c d) ≡ ((b == a) && bytes_eq d c)
flip-tests a b c d = rw (flip, same_way (bytes_eq c d) refl) refl
  where
    flip : (a == b) ≡ (b == a)
    flip = grind (arith, nat_tests)

    same_way : (e : Bool) → bytes_eq c d ≡ e → bytes_eq c d ≡ bytes_eq d c
    same_way true h = h ∙ sym (subst (λ (x : Bytes). bytes_eq x c ≡ true) (bytes_same c d h) (bytes_own c))
    same_way false h = h ∙ sym (bytes_other_way c d h)

open-outcome : (p : Progress) (st : ℕ × Bytes) → is_final st.0 ≡ false → is_change (step_outcome p (Some (OfStatus st.0 st.1))) ≡ is_news p st
unfolding step_outcome
open-outcome p st e = ap (λ (d : Bool). is_change (if d || ((st.0 == p.code) && bytes_eq st.1 p.reason) then Same else Changed)) e ∙ (by_same ((st.0 == p.code) && bytes_eq st.1 p.reason) ∙ ap not (flip-tests st.0 p.code st.1 p.reason))
  where
    by_same : (d : Bool) → is_change (if d then Same else Changed) ≡ not d
    by_same true = refl
    by_same false = refl

-- ---- the packages after the step

content-progress : (start : Start) (past : List Event) (p : Progress) (name resource : Bytes) → content start (Progresses p ∷ past) name resource ≡ content start past name resource
content-progress start past p name resource = content-same start past (Progresses p) name resource (λ class first. unfold last_counts in refl)

progress_transfer : (start : Start) (past : List Event) (p : Progress) (boxes : List Seen) (s : ℕ) (l m : Life) → content_in boxes refer_package (tag_of start.place s) ≡ Some (OfStatus (status l).0 (status l).1) → is_final (status l).0 ≡ false → is_refer (birth l) ≡ true → or_before (lived start s past (Progresses p) l) (Some l) ≡ Some m → content_in (change_first boxes (Step p)).1 refer_package (tag_of start.place s) ≡ Some (OfStatus (status m).0 (status m).1)
progress_transfer start past p boxes s l m was unfinished refers next = step-after boxes p (tag_of start.place s) ∙ by_tag (bytes_eq (tag_of start.place s) p.tag) refl
  where
    went : (c d : Bool) → bytes_eq (tag_of start.place s) p.tag ≡ c → is_refer (birth l) ≡ d → or_before (when (c && d) (Then (now past) (Progressed p) l)) (Some l) ≡ Some m
    went c d e f =
        subst (λ (d : Bool). or_before (when (c && d) (Then (now past) (Progressed p) l)) (Some l) ≡ Some m) f
        (subst (λ (c : Bool). or_before (when (c && is_refer (birth l)) (Then (now past) (Progressed p) l)) (Some l) ≡ Some m) e
        (subst (λ (o : Option Life). or_before o (Some l) ≡ Some m) (lived-progresses start s past p l) next))

    as_new : bytes_eq (tag_of start.place s) p.tag ≡ true → status m ≡ (p.code, p.reason)
    as_new e =
        let at : or_before (when (true && true) (Then (now past) (Progressed p) l)) (Some l) ≡ Some m = went true true e refers in
        let same : Then (now past) (Progressed p) l ≡ m = cc in
        ap status (sym same) ∙ (unfold status in refl)

    as_old : bytes_eq (tag_of start.place s) p.tag ≡ false → l ≡ m
    as_old e =
        let at : or_before (when (false && true) (Then (now past) (Progressed p) l)) (Some l) ≡ Some m = went false true e refers in
        let same : l ≡ m = cc in same

    by_tag : (d : Bool) → bytes_eq (tag_of start.place s) p.tag ≡ d → (if d then stepped p (content_in boxes refer_package (tag_of start.place s)) else content_in boxes refer_package (tag_of start.place s)) ≡ Some (OfStatus (status m).0 (status m).1)
    by_tag true e = ap (stepped p) was ∙ (stepped-open p (status l).0 (status l).1 unfinished ∙ ap (λ (st : ℕ × Bytes). Some (OfStatus st.0 st.1)) (sym (as_new e)))
    by_tag false e = was ∙ ap (λ (x : Life). Some (OfStatus (status x).0 (status x).1)) (as_old e)

progress_transfers : (start : Start) (past : List Event) (p : Progress) (boxes : List Seen) → Ranges start.place.limits → Transfers start past boxes → Transfers start (Progresses p ∷ past) (change_first boxes (Step p)).1
unfolding birth_at begun
progress_transfers start past p boxes ok h s m is alive refers =
    let from = came start past (Progresses p) s m refl is alive in
    let same = next-birth from.before m (lived start s past (Progresses p) from.before) (lived-birth start s past (Progresses p) from.before) from.next in
    let refers_before : is_refer (birth from.before) ≡ true = ap is_refer (sym same) ∙ refers in
    progress_transfer start past p boxes s from.before m (h s from.before from.is from.alive refers_before) ((sound_of start past s from.before ok from.is).unfinished from.alive) refers_before from.next

progress_holdings : (start : Start) (past : List Event) (p : Progress) (boxes : List Seen) → Ranges start.place.limits → Holdings start past boxes → Holdings start (Progresses p ∷ past) (change_first boxes (Step p)).1
unfolding birth_at begun stepped
progress_holdings start past p boxes ok hold = record {
  types = λ name. types-stay boxes (Step p) name ∙ hold.types name;
  contents = λ name resource f. content-other boxes (Step p) name resource (bytes_other_way name refer_package f) ∙ (hold.contents name resource f ∙ sym (content-progress start past p name resource));
  transfers = progress_transfers start past p boxes ok hold.transfers;
  not_begun = λ s later small. let none = hold.not_begun s (rw (← births-of_none start past (Progresses p) refl) later) small in
      step-after boxes p (tag_of start.place s) ∙ if_is (λ (o : Option Content). o ≡ None) (bytes_eq (tag_of start.place s) p.tag) (stepped p (content_in boxes refer_package (tag_of start.place s))) (content_in boxes refer_package (tag_of start.place s)) (λ h. ap (stepped p) none) (λ h. none);
}

-- ---- the step

-- of a living transfer of that tag: does the package answer Changed?
outcome-is : (start : Start) (past : List Event) (p : Progress) (boxes : List Seen) (s : ℕ) (l : Life) → Ranges start.place.limits → Holdings start past boxes → life start past s ≡ Some l → is_gone start.place.limits l ≡ false → is_refer (birth l) ≡ true → bytes_eq (tag_of start.place s) p.tag ≡ true → is_news p (status l) ≡ is_change (change_first boxes (Step p)).0
outcome-is start past p boxes s l ok hold is alive refers e =
    sym (ap is_change (step-outcome boxes p ∙ ap (step_outcome p) (ap (content_in boxes refer_package) (sym (bytes_same (tag_of start.place s) p.tag e)) ∙ hold.transfers s l is alive refers))
    ∙ open-outcome p (status l) ((sound_of start past s l ok is).unfinished alive))

untouched_follows : (start : Start) (past : List Event) (p : Progress) (s : ℕ) (l : Life) → is_gone start.place.limits l ≡ false → is_news p (status l) ≡ false → Follows start s (Progresses p ∷ past) (stays (row_of start s l)) (Then (now past) (Progressed p) l)
unfolding stays notices_at notifications live_row is_gone terminated is_touched is_removed row_of sub_of usage_of want_of target accepted_cseq number address end_of_grant last_heard birth last_cseq unanswered just_made
untouched_follows start past p s l alive same = record {
  row = rw (same, zero_more (number start.place.limits l), append-nil (unanswered start.place.limits l)) refl;
  own = rw same refl;
  others = λ tag f. refl;
}
  where
    zero_more : (n : ℕ) → n + 0 ≡ n
    zero_more n = omega arith

progress_nothing : (start : Start) (past : List Event) (p : Progress) (boxes : List Seen) → Ranges start.place.limits → Holdings start past boxes → is_change (change_first boxes (Step p)).0 ≡ false → Rules start past (Progresses p) stays
progress_nothing start past p boxes ok hold e s l is alive = rw (lived-progresses start s past p l) (by_tests (bytes_eq (tag_of start.place s) p.tag) (is_refer (birth l)) refl refl)
  where
    by_tests : (a c : Bool) → bytes_eq (tag_of start.place s) p.tag ≡ a → is_refer (birth l) ≡ c → TurnsInto start s (Progresses p ∷ past) (stays (row_of start s l)) l (when (a && c) (Then (now past) (Progressed p) l))
    by_tests true true f g = untouched_follows start past p s l alive (outcome-is start past p boxes s l ok hold is alive g f ∙ e)
    by_tests true false f g = refl
    by_tests false c f g = refl

progress_body : (start : Start) (past : List Event) (p : Progress) (boxes : List Seen) (s : ℕ) (l : Life) → Ranges start.place.limits → Holdings start past boxes → life start past s ≡ Some l → is_gone start.place.limits l ≡ false → is_refer (birth l) ≡ true → bytes_eq (tag_of start.place s) p.tag ≡ true
    → body_of_held (content_in (change_first boxes (Step p)).1 (want_of start s l).event.package (want_of start s l).resource) ≡ body start (Progresses p ∷ past) (Then (now past) (Progressed p) l)
unfolding want_of address last_heard birth status
progress_body start past p boxes s l ok hold is alive refers e =
    body-is start (Progresses p ∷ past) (change_first boxes (Step p)).1 s (Then (now past) (Progressed p) l) (sound_of start past s l ok is).plain (progress_holdings start past p boxes ok hold).contents
    (λ again. step-after boxes p (tag_of start.place s) ∙ (ap (λ (d : Bool). if d then stepped p (content_in boxes refer_package (tag_of start.place s)) else content_in boxes refer_package (tag_of start.place s)) e
    ∙ (ap (stepped p) (hold.transfers s l is alive refers) ∙ stepped-open p (status l).0 (status l).1 ((sound_of start past s l ok is).unfinished alive))))

progressed_follows : (start : Start) (past : List Event) (p : Progress) (b : Book) (s : ℕ) (l : Life) → Ranges start.place.limits → b.clock ≡ now past → Holdings start past b.boxes → life start past s ≡ Some l → is_gone start.place.limits l ≡ false → is_refer (birth l) ≡ true → bytes_eq (tag_of start.place s) p.tag ≡ true → is_news p (status l) ≡ true
    → Follows start s (Progresses p ∷ past) (tells (told_from start.place (change_first b.boxes (Step p)).1 b.clock) (row_of start s l) (changed (row_of start s l).sub b.clock (is_final p.code))) (Then (now past) (Progressed p) l)
progressed_follows start past p b s l ok clock hold is alive refers e differs = by_final (is_final p.code) refl
  where
    same_body : body_of_held (content_in (change_first b.boxes (Step p)).1 (want_of start s l).event.package (want_of start s l).resource) ≡ body start (Progresses p ∷ past) (Then (now past) (Progressed p) l)
    same_body = progress_body start past p b.boxes s l ok hold is alive refers e

    told_on : is_final p.code ≡ false → Follows start s (Progresses p ∷ past) (tells (told_from start.place (change_first b.boxes (Step p)).1 b.clock) (row_of start s l) (told (record (row_of start s l).sub { count = (row_of start s l).sub.count + 1 }) ((row_of start s l).sub.due - b.clock))) (Then (now past) (Progressed p) l)
    told_on f = unfold tells opened unanswered just_made row_of sub_of usage_of want_of target accepted_cseq number is_touched address end_of_grant last_heard birth last_cseq now in
        told_follows start (change_first b.boxes (Step p)).1 b.clock (address start.place.limits l) (with_sub (row_of start s l)) (record (sub_of start s l) { count = number start.place.limits l + 1 }) (end_of_grant start.place.limits l - b.clock) s (Progresses p ∷ past) (Then (now past) (Progressed p) l)
        (rw differs refl) refl same_body (rw (differs, clock) refl) (ap (λ (n : ℕ). end_of_grant start.place.limits l - n) clock) (unfold is_touched in differs) (unfold ended in (rw f refl)) (unfold is_removed in refl)

    by_final : (d : Bool) → is_final p.code ≡ d → Follows start s (Progresses p ∷ past) (tells (told_from start.place (change_first b.boxes (Step p)).1 b.clock) (row_of start s l) (changed (row_of start s l).sub b.clock d)) (Then (now past) (Progressed p) l)
    by_final true f = unfold changed in ended_follows start (Progresses p ∷ past) (change_first b.boxes (Step p)).1 b.clock s l (Then (now past) (Progressed p) l) Noresource (unfold number is_touched in (rw differs refl)) (unfold address last_heard birth in refl) same_body (knows_on start s l _ (unfold birth in refl) (unfold target last_heard birth in refl)) (unfold is_touched in differs) (unfold terminated is_touched ended in (rw (differs, f) refl))
    by_final false f = unfold changed in told_on f

progress_turns : (start : Start) (past : List Event) (p : Progress) (b : Book) → Ranges start.place.limits → b.clock ≡ now past → Holdings start past b.boxes → is_change (change_first b.boxes (Step p)).0 ≡ true → Rules start past (Progresses p) (tells_watcher (told_from start.place (change_first b.boxes (Step p)).1 b.clock) refer_package p.tag (is_final p.code))
unfolding tells_watcher tells_change wherever
progress_turns start past p b ok clock hold e s l is alive = unfold row_of sub_of want_of in rw (lived-progresses start s past p l) (by_refer (is_refer (birth l)) refl)
  where
    by_tag : is_refer (birth l) ≡ true → (c : Bool) → bytes_eq (tag_of start.place s) p.tag ≡ c → TurnsInto start s (Progresses p ∷ past) (if c then tells (told_from start.place (change_first b.boxes (Step p)).1 b.clock) (row_of start s l) (changed (row_of start s l).sub b.clock (is_final p.code)) else stays (row_of start s l)) l (when (c && true) (Then (now past) (Progressed p) l))
    by_tag refers true f = progressed_follows start past p b s l ok clock hold is alive refers f (outcome-is start past p b.boxes s l ok hold is alive refers f ∙ e)
    by_tag refers false f = refl

    by_refer : (d : Bool) → is_refer (birth l) ≡ d → TurnsInto start s (Progresses p ∷ past) (if bytes_eq (event_of (birth l)).package refer_package && bytes_eq (if d then tag_of start.place s else user_part (birth l).uri) p.tag then tells (told_from start.place (change_first b.boxes (Step p)).1 b.clock) (row_of start s l) (changed (row_of start s l).sub b.clock (is_final p.code)) else stays (row_of start s l)) l (when (bytes_eq (tag_of start.place s) p.tag && d) (Then (now past) (Progressed p) l))
    by_refer true g =
        let named : bytes_eq (event_of (birth l)).package refer_package ≡ true = unfold event_of in (rw g refl) in
        rw named (by_tag g (bytes_eq (tag_of start.place s) p.tag) refl)
    by_refer false g = rw ((sound_of start past s l ok is).plain g, and-false (bytes_eq (tag_of start.place s) p.tag)) refl

pub progress_goes : (start : Start) (past : List Event) (p : Progress) (b : Book) → Ranges start.place.limits → Holds start past b → Goes start past (Progresses p) (step start.place b (Progresses p))
unfolding step keys now birth_at begun nothing content_changed
progress_goes start past p b ok h = by_outcome (change_first b.boxes (Step p)).0 refl
  where
    after : Holdings start (Progresses p ∷ past) (change_first b.boxes (Step p)).1
    after = progress_holdings start past p b.boxes ok h.boxes_hold

    unchanged : is_change (change_first b.boxes (Step p)).0 ≡ false → Goes start past (Progresses p) (record { book = record b { boxes = (change_first b.boxes (Step p)).1 }; outs = [] })
    unchanged e = by_nothing start past (Progresses p) (record b { boxes = (change_first b.boxes (Step p)).1 }) [] ok refl h.clock_is h.next_is h.rows_are after h.ring_is (λ tag. unfold notifications in refl) (progress_nothing start past p b.boxes ok h.boxes_hold e)

    by_outcome : (o : Outcome) → (change_first b.boxes (Step p)).0 ≡ o → Goes start past (Progresses p) (content_changed start.place b refer_package p.tag (is_final p.code) (o, (change_first b.boxes (Step p)).1))
    by_outcome Changed e =
        by_all_rows start past (Progresses p) (record b { boxes = (change_first b.boxes (Step p)).1 }) (tells_watcher (told_from start.place (change_first b.boxes (Step p)).1 b.clock) refer_package p.tag (is_final p.code)) [] ok refl h.clock_is h.next_is h.rows_are after h.ring_is (λ tag more. refl)
        (progress_turns start past p b ok h.clock_is h.boxes_hold (ap is_change e))
    by_outcome Same e = unchanged (ap is_change e)
    by_outcome Unknown e = unchanged (ap is_change e)
