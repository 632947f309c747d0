-- The steps at which a request comes in a dialog.
use Rattle.std.proofs.Common.{◌≡◌, ℕ, ◌+◌, ◌-◌, List, [], ◌∷◌, Option, Some, None, Bool, true, false, not, ◌&&◌, refl, sym, ◌∙◌, ap, ◌⊎◌, inl, inr, arith, subst}
use Rattle.std.specs.Prelude.{if◌then◌else◌, ◌==◌, find, nat_lt, is_none, unwrap_or}
use Rattle.std.proofs.lemmas.Bool.Decides.{nat_tests}
use Rattle.std.proofs.lemmas.List.{append-nil}
use Rattle.life.proofs.Texts.{Bytes, not_true, and-false, and-right, if_is}
use Rattle.sip_text.specs.declared.address.Addr.{Addr}
use Rattle.sip_read.specs.declared.message.Request.{Request}
use Rattle.notifier_model.specs.Fields.{value_of, same_event}
use Rattle.package.specs.Content.{Seen}
use Rattle.package.specs.Boxes.{content_in}
use Rattle.package.specs.Bodies.{body_of_held}
use Rattle.subscription.specs.declared.notify.Reason.TheVariants.{Timeout}
use Rattle.subscription.specs.declared.life.Step.{Step as Turn}
use Rattle.subscription.specs.Table.{end, over, refresh}
use Rattle.notifier_model.specs.Limits.{Limits}
use Rattle.notifier_model.specs.Start.{Start}
use Rattle.notifier_model.specs.declared.event.Event.{Event}
use Rattle.notifier_model.specs.declared.event.Event.TheVariants.{Request as Comes}
use Rattle.notifier_model.specs.declared.refusal.Refusal.{Refusal}
use Rattle.notifier_model.specs.declared.refusal.Refusal.TheVariants.{NoDialog, OldCseq, ReferInDialog, OtherEvent, TooBrief}
use Rattle.notifier_model.specs.Requests.{is_refer, event_of, asked, granted, asks_nothing, is_too_brief, misfit, denial}
use Rattle.sip_write.specs.Answer.{answer_text}
use Rattle.notifier_model.specs.declared.row.Row.{Row}
use Rattle.notifier_model.specs.Book.{Book, Refused, keeping, telling, refused, denied, accepted, served, unless_denied, in_dialog}
use Rattle.notifier_model.specs.Rows.{renewed_sub, stays, opened, with_sub, turned, only, is_dialog, counted, renewed}
use Rattle.notifier_model.specs.Answers.{refusal_answer, renewal_answer}
use Rattle.notifier_model.specs.Out.{Answers, notifications}
use Rattle.life.specs.Past.{now, is_fresh}
use Rattle.life.specs.Life.{Life, Then, Heard, birth, last_heard, accepts, is_above, end_of_grant, address, status, is_touched, number, just_made, unanswered, ended, terminated, is_removed, is_gone, target}
use Rattle.life.specs.Lives.{births, life, birth_at}
use Rattle.life.specs.Notices.{notices_at, body}
use Rattle.life.proofs.Rows.{last_cseq, usage_of, want_of, sub_of, row_of, live_row, rows_to}
use Rattle.life.proofs.Deeds.{address-accepted, address-refused, cseq-accepted, cseq-refused, end-granted, end-not_granted, target-granted, target-not_granted}
use Rattle.life.proofs.NextLives.{Ranges}
use Rattle.life.proofs.SoundLives.{sound_of}
use Rattle.life.proofs.Turns.{Follows, Knows, knows_on, over_follows, told_follows}
use Rattle.life.proofs.Invariant.{Holdings, Holds, Goes, life_small}
use Rattle.life.proofs.RepliesAndTicks.{by_all_rows, holdings_quiet, body-is}
use Rattle.life.proofs.RefusedRequests.{Nobody_hears, ring_goes, refused_goes, Somebody, Nobody, look_up, others_not, no_birth, heard-is, range_of, dialog_rules}

-- ---- what the rule does is what the life says

-- a refused request that was heard moves the CSeq alone
counted_follows : (start : Start) (past : List Event) (source : Addr) (r : Request) (s : ℕ) (l : Life) → is_gone start.place.limits l ≡ false → accepts start.place.limits l r ≡ false → Follows start s (Comes source r ∷ past) (counted r (row_of start s l)) (Then (now past) (Heard source r) l)
unfolding counted stays notices_at notifications live_row is_gone terminated is_touched is_removed row_of sub_of usage_of want_of number birth last_cseq unanswered just_made
counted_follows start past source r s l alive refused_one = record {
  row = rw (
    address-refused start.place.limits (now past) source r l refused_one,
    cseq-refused start.place.limits (now past) source r l refused_one,
    end-not_granted start.place.limits (now past) source r l (ap (λ (d : Bool). d && nat_lt 0 (asked start.place.limits r)) refused_one),
    target-not_granted start.place.limits (now past) source r l (ap (λ (d : Bool). d && nat_lt 0 (asked start.place.limits r)) refused_one),
    refused_one,
    zero_more (number start.place.limits l),
    append-nil (unanswered start.place.limits l),
  ) refl;
  own = rw refused_one refl;
  others = λ tag f. refl;
}
  where
    zero_more : (n : ℕ) → n + 0 ≡ n
    zero_more n = omega arith

heard_body : (start : Start) (past : List Event) (source : Addr) (r : Request) (boxes : List Seen) (s : ℕ) (l : Life) → Ranges start.place.limits → birth_at start past (Comes source r) ≡ None → Holdings start past boxes → life start past s ≡ Some l → is_gone start.place.limits l ≡ false
    → body_of_held (content_in boxes (want_of start s l).event.package (want_of start s l).resource) ≡ body start (Comes source r ∷ past) (Then (now past) (Heard source r) l)
unfolding body birth status want_of address last_heard
heard_body start past source r boxes s l ok none hold is alive =
    body-is start (Comes source r ∷ past) boxes s l (sound_of start past s l ok is).plain (holdings_quiet start past (Comes source r) boxes none refl hold).contents (hold.transfers s l is alive)

-- an accepted request isn't a REFER
accepted-plain : (limits : Limits) (l : Life) (r : Request) → accepts limits l r ≡ true → is_refer r ≡ false
unfolding denial
accepted-plain limits l r h = not_true (is_refer r) (λ refers. by_refer refers h)
  where
    by_refer : is_refer r ≡ true → is_none (if is_refer r then Some ReferInDialog
        else if not (same_event (event_of r) (event_of (birth l))) then Some OtherEvent
        else if is_too_brief limits r then Some TooBrief
        else None) ≡ true → ⊥
    by_refer refers g =
        let e : false ≡ true = subst (λ (d : Bool). is_none (if d then Some ReferInDialog
        else if not (same_event (event_of r) (event_of (birth l))) then Some OtherEvent
        else if is_too_brief limits r then Some TooBrief
        else None) ≡ true) refers g in cc

asks-more : (limits : Limits) (r : Request) → is_refer r ≡ false → asks_nothing limits r ≡ false → nat_lt 0 (asked limits r) ≡ true
unfolding asks_nothing
asks-more limits r plain h = positive (asked limits r) (subst (λ (d : Bool). (not d && asked limits r == 0) ≡ false) plain h)
  where
    positive : (n : ℕ) → (n == 0) ≡ false → nat_lt 0 n ≡ true
    positive n e = grind (arith, nat_tests)

asks-none : (limits : Limits) (r : Request) → asks_nothing limits r ≡ true → nat_lt 0 (asked limits r) ≡ false
unfolding asks_nothing
asks-none limits r h = none (asked limits r) (and-right (not (is_refer r)) (asked limits r == 0) h)
  where
    none : (n : ℕ) → (n == 0) ≡ true → nat_lt 0 n ≡ false
    none n e = grind (arith, nat_tests)

-- asked 0: it ends
renewed_over : (start : Start) (past : List Event) (b : Book) (source : Addr) (r : Request) (s : ℕ) (l : Life) → accepts start.place.limits l r ≡ true → asks_nothing start.place.limits r ≡ true
    → body_of_held (content_in b.boxes (want_of start s l).event.package (want_of start s l).resource) ≡ body start (Comes source r ∷ past) (Then (now past) (Heard source r) l)
    → Follows start s (Comes source r ∷ past) (turned (telling start.place b) source (with_sub (record (row_of start s l) { last_cseq = r.head.cseq })) (over (end (row_of start s l).sub Timeout))) (Then (now past) (Heard source r) l)
unfolding end row_of sub_of usage_of
renewed_over start past b source r s l accepted zero_asked same_body =
    over_follows start b.boxes b.clock source (with_sub (record (row_of start s l) { last_cseq = r.head.cseq })) (usage_of start s l) (want_of start s l) (number start.place.limits l + 1) Timeout s (Comes source r ∷ past) (Then (now past) (Heard source r) l)
    refl (unfold number is_touched in (rw accepted refl)) (sym (address-accepted start.place.limits (now past) source r l accepted)) same_body knows (unfold is_touched in accepted) (unfold terminated is_touched ended in (rw (accepted, zero_asked) refl))
  where
    -- it grants no time
    knows : Knows start (usage_of start s l) (want_of start s l) (Then (now past) (Heard source r) l)
    knows =
        knows_on start s l (Then (now past) (Heard source r) l) (unfold birth in refl)
        (sym (target-not_granted start.place.limits (now past) source r l (rw accepted (asks-none start.place.limits r zero_asked))))

-- or goes on
renewed_on : (start : Start) (past : List Event) (b : Book) (source : Addr) (r : Request) (s : ℕ) (l : Life) → b.clock ≡ now past → accepts start.place.limits l r ≡ true → asks_nothing start.place.limits r ≡ false
    → body_of_held (content_in b.boxes (want_of start s l).event.package (want_of start s l).resource) ≡ body start (Comes source r ∷ past) (Then (now past) (Heard source r) l)
    → Follows start s (Comes source r ∷ past) (turned (telling start.place b) source (with_sub (record (row_of start s l) { last_cseq = r.head.cseq })) (refresh (row_of start s l).sub r.head.cseq (value_of r.contact) source b.clock (granted start.place.limits r))) (Then (now past) (Heard source r) l)
unfolding refresh row_of
renewed_on start past b source r s l clock accepted some_asked same_body =
    told_follows start b.boxes b.clock source (with_sub (record (row_of start s l) { last_cseq = r.head.cseq }))
    (record {
      usage = record (sub_of start s l).usage { target = unwrap_or (value_of r.contact) (sub_of start s l).usage.target; remote_cseq = r.head.cseq };
      want = record (sub_of start s l).want { to = source };
      count = (sub_of start s l).count + 1;
      due = b.clock + granted start.place.limits r;
    }) (granted start.place.limits r) s (Comes source r ∷ past) (Then (now past) (Heard source r) l)
    next_sub (sym (address-accepted start.place.limits (now past) source r l accepted)) (unfold want_of birth in same_body) (unfold opened row_of last_cseq unanswered just_made is_touched in (rw (accepted, clock) refl)) time (unfold is_touched in accepted) (unfold ended in (rw some_asked refl)) (unfold is_removed in refl)
  where
    asks : nat_lt 0 (asked start.place.limits r) ≡ true
    asks = asks-more start.place.limits r (accepted-plain start.place.limits l r accepted) some_asked

    due_is : end_of_grant start.place.limits (Then (now past) (Heard source r) l) ≡ now past + granted start.place.limits r
    due_is = end-granted start.place.limits (now past) source r l (rw (accepted, asks) refl)

    time : granted start.place.limits r ≡ end_of_grant start.place.limits (Then (now past) (Heard source r) l) - now (Comes source r ∷ past)
    time = rw due_is (unfold now in (omega arith))

    next_sub : (record {
      usage = record (sub_of start s l).usage { target = unwrap_or (value_of r.contact) (sub_of start s l).usage.target; remote_cseq = r.head.cseq };
      want = record (sub_of start s l).want { to = source };
      count = (sub_of start s l).count + 1;
      due = b.clock + granted start.place.limits r;
    }) ≡ sub_of start s (Then (now past) (Heard source r) l)
    next_sub = unfold sub_of usage_of want_of number is_touched birth in rw (address-accepted start.place.limits (now past) source r l accepted, cseq-accepted start.place.limits (now past) source r l accepted, target-granted start.place.limits (now past) source r l (rw (accepted, asks) refl), accepted, due_is, clock) refl

-- ---- the step

heard_goes : (start : Start) (past : List Event) (b : Book) (source : Addr) (r : Request) (tag : Bytes) (k : ℕ) (who : Life) → Ranges start.place.limits → Holds start past b → is_fresh start.place.limits past r ≡ true → is_none (misfit r) ≡ true → r.head.to.tag ≡ Some tag → life start past k ≡ Some who → is_gone start.place.limits who ≡ false → is_dialog r tag (row_of start k who) ≡ true → is_above who r.head.cseq ≡ true
    → Goes start past (Comes source r) (served start.place b source r (unless_denied k (denial start.place.limits (event_of (birth who)) r)))
heard_goes start past b source r tag k who ok h fresh good to lives alive dialog above = by_cause (denial start.place.limits (event_of (birth who)) r) refl
  where
    none : birth_at start past (Comes source r) ≡ None
    none = no_birth start past source r tag to

    after : Holdings start (Comes source r ∷ past) b.boxes
    after = holdings_quiet start past (Comes source r) b.boxes none refl h.boxes_hold

    clock : b.clock ≡ now (Comes source r ∷ past)
    clock = unfold now in h.clock_is

    same_body : body_of_held (content_in b.boxes (want_of start k who).event.package (want_of start k who).resource) ≡ body start (Comes source r ∷ past) (Then (now past) (Heard source r) who)
    same_body = heard_body start past source r b.boxes k who ok none h.boxes_hold lives alive

    renewed_is : accepts start.place.limits who r ≡ true → Follows start k (Comes source r ∷ past) (renewed (telling start.place b) source r (row_of start k who)) (Then (now past) (Heard source r) who)
    renewed_is accepted = unfold renewed renewed_sub in if_is (λ (turn : Turn). Follows start k (Comes source r ∷ past) (turned (telling start.place b) source (with_sub (record (row_of start k who) { last_cseq = r.head.cseq })) turn) (Then (now past) (Heard source r) who)) (asks_nothing start.place.limits r)
        (over (end (row_of start k who).sub Timeout)) (refresh (row_of start k who).sub r.head.cseq (value_of r.contact) source b.clock (granted start.place.limits r))
        (λ e. renewed_over start past b source r k who accepted e same_body)
        (λ e. renewed_on start past b source r k who h.clock_is accepted e same_body)

    by_cause : (o : Option Refusal) → denial start.place.limits (event_of (birth who)) r ≡ o → Goes start past (Comes source r) (served start.place b source r (unless_denied k o))
    by_cause (Some cause) e = unfold unless_denied served denied refused keeping row_of in
        by_all_rows start past (Comes source r) (keeping start.place b r (refusal_answer start.place b.boxes source r cause)) (only k (counted r)) (Answers source (answer_text (refusal_answer start.place b.boxes source r cause)) ∷ []) ok none
        (unfold keeping in clock) (unfold keeping in h.next_is) (unfold keeping in h.rows_are) (unfold keeping in after) (unfold keeping in (ring_goes start past source b.ring r (answer_text (refusal_answer start.place b.boxes source r cause)) h.ring_is fresh)) (λ t more. unfold notifications in refl)
        (dialog_rules start past source r tag k who (counted r) ok fresh good to lives dialog above (counted_follows start past source r k who alive (ap is_none e)))
    by_cause None e = unfold unless_denied served accepted row_of in
        by_all_rows start past (Comes source r) (keeping start.place b r (renewal_answer start.place source r)) (only k (renewed (telling start.place b) source r)) (Answers source (answer_text (renewal_answer start.place source r)) ∷ []) ok none
        (unfold keeping in clock) (unfold keeping in h.next_is) (unfold keeping in h.rows_are) (unfold keeping in after) (unfold keeping in (ring_goes start past source b.ring r (answer_text (renewal_answer start.place source r)) h.ring_is fresh)) (λ t more. unfold notifications in refl)
        (dialog_rules start past source r tag k who (renewed (telling start.place b) source r) ok fresh good to lives dialog above (renewed_is (ap is_none e)))

-- an old CSeq is heard by no one
too_old_denial : (start : Start) (past : List Event) (r : Request) (tag : Bytes) (k : ℕ) (who : Life) → Ranges start.place.limits → is_fresh start.place.limits past r ≡ true → is_none (misfit r) ≡ true → r.head.to.tag ≡ Some tag → life start past k ≡ Some who → is_dialog r tag (row_of start k who) ≡ true → is_above who r.head.cseq ≡ false → Nobody_hears start past r
too_old_denial start past r tag k who ok fresh good to lives dialog below s l is alive = heard-is start past r tag s l fresh good to ∙ by_serial (s == k) refl
  where
    by_serial : (d : Bool) → (s == k) ≡ d → (is_dialog r tag (row_of start s l) && is_above l r.head.cseq) ≡ false
    by_serial true e =
        let at : s ≡ k = grind (arith, nat_tests) in
        let is_k : life start past k ≡ Some l = subst (λ (x : ℕ). life start past x ≡ Some l) at is in
        let same : who ≡ l = cc in
        rw (subst (λ (x : Life). is_above x r.head.cseq ≡ false) same below) (and-false (is_dialog r tag (row_of start s l)))
    by_serial false e = rw (others_not start r tag k s who l (life_small start past k who ok lives) (life_small start past s l ok is) dialog (λ at. absurd (grind (arith, nat_tests)))) refl

somebody_goes : (start : Start) (past : List Event) (b : Book) (source : Addr) (r : Request) (tag : Bytes) (rows : List Row) → Ranges start.place.limits → Holds start past b → is_fresh start.place.limits past r ≡ true → is_none (misfit r) ≡ true → r.head.to.tag ≡ Some tag → (one : Somebody start past (is_dialog r tag) rows) → Goes start past (Comes source r) (served start.place b source r (in_dialog start.place.limits r (Some (row_of start one.serial one.who))))
unfolding in_dialog
somebody_goes start past b source r tag rows ok h fresh good to one = by_last (nat_lt (row_of start one.serial one.who).last_cseq r.head.cseq) refl
  where
    above-is : is_above one.who r.head.cseq ≡ nat_lt (row_of start one.serial one.who).last_cseq r.head.cseq
    above-is = unfold row_of in (sound_of start past one.serial one.who ok one.lives).above r.head.cseq

    by_last : (d : Bool) → nat_lt (row_of start one.serial one.who).last_cseq r.head.cseq ≡ d → Goes start past (Comes source r)
        (served start.place b source r (if d then unless_denied (row_of start one.serial one.who).serial (denial start.place.limits (row_of start one.serial one.who).sub.want.event r) else Refused OldCseq))
    by_last true e = unfold row_of sub_of want_of in (heard_goes start past b source r tag one.serial one.who ok h fresh good to one.lives one.alive one.dialog (above-is ∙ e))
    by_last false e = unfold served in refused_goes start past b source r OldCseq ok h fresh (no_birth start past source r tag to) (too_old_denial start past r tag one.serial one.who ok fresh good to one.lives one.dialog (above-is ∙ e))

-- nobody is that dialog
nobody_goes : (start : Start) (past : List Event) (b : Book) (source : Addr) (r : Request) (tag : Bytes) (rows : List Row) → Ranges start.place.limits → Holds start past b → is_fresh start.place.limits past r ≡ true → is_none (misfit r) ≡ true → r.head.to.tag ≡ Some tag → Nobody start past (is_dialog r tag) (births start past) rows → Goes start past (Comes source r) (refused start.place b source r NoDialog)
nobody_goes start past b source r tag rows ok h fresh good to none = refused_goes start past b source r NoDialog ok h fresh (no_birth start past source r tag to) nobody
  where
    nobody : Nobody_hears start past r
    nobody s l is alive = let range = range_of start past s l is in heard-is start past r tag s l fresh good to ∙ rw (none.others s l range.0 range.1 is alive) refl

-- a request in a dialog
pub dialog_goes : (start : Start) (past : List Event) (b : Book) (source : Addr) (r : Request) (tag : Bytes) → Ranges start.place.limits → Holds start past b → is_fresh start.place.limits past r ≡ true → is_none (misfit r) ≡ true → r.head.to.tag ≡ Some tag → Goes start past (Comes source r) (served start.place b source r (in_dialog start.place.limits r (find (is_dialog r tag) b.rows)))
dialog_goes start past b source r tag ok h fresh good to =
    subst (λ (rows : List Row). Goes start past (Comes source r) (served start.place b source r (in_dialog start.place.limits r (find (is_dialog r tag) rows)))) (sym h.rows_are) (by_who (look_up start past (is_dialog r tag) (births start past)))
  where
    by_who : Somebody start past (is_dialog r tag) (rows_to start (life start past) (births start past)) ⊎ Nobody start past (is_dialog r tag) (births start past) (rows_to start (life start past) (births start past)) → Goes start past (Comes source r) (served start.place b source r (in_dialog start.place.limits r (find (is_dialog r tag) (rows_to start (life start past) (births start past)))))
    by_who (inr none) = subst (λ (found : Option Row). Goes start past (Comes source r) (served start.place b source r (in_dialog start.place.limits r found))) (sym none.found) (unfold in_dialog served in (nobody_goes start past b source r tag (rows_to start (life start past) (births start past)) ok h fresh good to none))
    by_who (inl one) = subst (λ (found : Option Row). Goes start past (Comes source r) (served start.place b source r (in_dialog start.place.limits r found))) (sym one.found) (somebody_goes start past b source r tag (rows_to start (life start past) (births start past)) ok h fresh good to one)
