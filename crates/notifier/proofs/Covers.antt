-- The serials that a cause looks for cover what it does to the rows.
use Rattle.std.proofs.Common.{◌≡◌, ◌∙◌, ◌↔◌, ◌⊎◌, sym, ap, refl, inl, inr, ℕ, ◌+◌, ◌<◌, ◌≤◌, ◌^◌, min, Bool, true, false, ◌&&◌, ◌||◌, ◌==◌, List, [], ◌∷◌, Option, Some, None, All, nat_le, bytes_eq, eq-eqb, arith, IsTrue, is_some, option_to_list, codes}
use Rattle.std.proofs.lemmas.Bool.Decides.{nat_tests}
use Rattle.std.proofs.lemmas.List.Elements.{All-nil, All-cons, All-head, All-tail, All-weaker}
use Rattle.std.specs.List.{list_any}
use Rattle.std.specs.BTreeSet as sorted
use Rattle.sip_read.specs.declared.message.Response.{Response}
use Rattle.subscription.specs.Table.{is_answer_to, is_tag}
use Rattle.package.specs.Content.{Maps}
use Rattle.notifier_model.specs.declared.row.Row.{Row}
use Rattle.notifier_model.specs.declared.row.Unanswered.{Unanswered}
use Rattle.notifier.specs.declared.store.rows.Rows.{Rows}
use Rattle.notifier_model.specs.Rows.{Telling, Turned, wherever, stays, only, answered, takes_answer, is_answered_by, watches, tells_change, tells_watcher, is_due, is_late, is_overdue, ends, times_out}
use Rattle.subscription.specs.declared.notify.Reason.TheVariants.{Timeout}
use Rattle.notifier.specs.Among.{has, Cover}
use Rattle.notifier.specs.Stored.{rows_of, row_at, with_serial, by_time, gives_up, alarm_with, alarm_of, is_timed_at, is_of, IsIndexed, IsTimed}
use Rattle.notifier.specs.Sound.{AreInOrder}
use Rattle.notifier.specs.Watchers.{is_watched}
use Rattle.notifier.proofs.Passes.{only-other}
use Rattle.notifier.proofs.Rising.{with_serial-same}
use Rattle.notifier.proofs.Timely.{after_oldest}
use Rattle.notifier.proofs.Turning.{with_serial-rows}

tested : (b : Bool) → (b ≡ true) ⊎ (b ≡ false)
tested true = inl refl
tested false = inr refl

split_and : (a b : Bool) → (a && b) ≡ true → (a ≡ true) × (b ≡ true)
split_and true b e = (refl, e)
split_and false b e = absurd (cc)

same_number : (a b : ℕ) → (a == b) ≡ true → a ≡ b
same_number a b e = grind (arith, nat_tests)

other_stays : (test : Row → Bool) (rule : Row → Turned) (row : Row) → test row ≡ false → wherever test rule row ≡ stays row
unfolding wherever
other_stays test rule row e = rw e refl

upto : (a b : ℕ) → nat_le a b ≡ true → a ≤ b
upto a b e = grind (arith, nat_tests)

-- before its alarm nothing of a row is up
before_alarm : (clock : ℕ) (row : Row) → clock < 2 ^ 63 → AreInOrder row.unanswered → nat_le (alarm_of row) clock ≡ false → (nat_le row.sub.due clock ≡ false) × (is_overdue clock row ≡ false)
unfolding alarm_of gives_up is_overdue
before_alarm clock row fits in_order e = by_oldest row.unanswered in_order e
  where
    not_up : (due up : ℕ) → nat_le (min due up) clock ≡ false → (nat_le due clock ≡ false) × (clock < up)
    not_up due up h = (grind (arith, nat_tests), grind (arith, nat_tests))

    not_late : (moment : ℕ) (notify : Unanswered) → clock < moment + 32 → moment ≤ notify.moment → is_late clock notify ≡ false
    not_late moment notify h after = grind (arith, nat_tests)

    none_late : (notifys : List Unanswered) → All (λ notify. is_late clock notify ≡ false) notifys → list_any (is_late clock) notifys ≡ false
    none_late [] all = refl
    none_late (n ∷ ns) all =
        rw (All-head (λ notify. is_late clock notify ≡ false) n ns all) (none_late ns (All-tail (λ notify. is_late clock notify ≡ false) n ns all))

    by_oldest : (notifys : List Unanswered) → AreInOrder notifys → nat_le (alarm_with row.sub.due notifys) clock ≡ false → (nat_le row.sub.due clock ≡ false) × (list_any (is_late clock) notifys ≡ false)
    by_oldest [] order h = (h, refl)
    by_oldest (oldest ∷ newer) order h =
        let quiet = not_up row.sub.due (gives_up oldest) h in
        let moment = oldest.moment in
        let soon : clock < moment + 32 = let x = quiet.1 in omega arith in
        let later = All-weaker (λ notify. moment ≤ notify.moment) (λ notify. is_late clock notify ≡ false) (λ notify after. not_late moment notify soon after) newer (after_oldest oldest newer order) in
        (quiet.0, none_late (oldest ∷ newer) (All-cons (λ notify. is_late clock notify ≡ false) oldest newer (not_late moment oldest soon (omega arith)) later))

-- what a search finds holds what all hold, and has the serial
pub found_all : (P : Row → Type 0) (s : ℕ) (rows : List Row) (row : Row) → All P rows → with_serial s rows ≡ Some row → P row × (row.serial ≡ s)
found_all P s [] row all e = absurd (cc)
found_all P s (r ∷ rows) row all e = by_test (r.serial == s) refl (found_all P s rows row (All-tail P r rows all))
  where
    by_test : (b : Bool) → (r.serial == s) ≡ b → (with_serial s rows ≡ Some row → P row × (row.serial ≡ s)) → P row × (row.serial ≡ s)
    by_test true h later =
        let here : with_serial s (r ∷ rows) ≡ Some r = with_serial-same s r rows (same_number r.serial s h) in
        let same : r ≡ row = cc in
        rw (← same) (All-head P r rows all, same_number r.serial s h)
    by_test false h later = later (rw h at e)

-- ---- one serial

-- what holds whatever the row holds of all rows
pub everywhere : {A : Type 0} → A → (rows : List Row) → All (λ row. A) rows
everywhere {A} a [] = All-nil (λ row. A)
everywhere {A} a (row ∷ rows) = All-cons (λ row. A) row rows a (everywhere a rows)

pub only_covers : (serial : ℕ) (rule : Row → Turned) (rows : List Row) → Cover (serial ∷ []) (only serial rule) rows
only_covers serial rule rows s row found = by_test (serial == s) refl
  where
    own : row.serial ≡ s
    own = (found_all (λ row. Unit {0}) s rows row (everywhere tt rows) found).1

    by_test : (b : Bool) → (serial == s) ≡ b → (has s (serial ∷ []) ≡ true) ⊎ (only serial rule row ≡ stays row)
    by_test true e = inl (rw e refl)
    by_test false e = inr (only-other serial rule row (λ q. let x = eq-eqb serial s (sym q ∙ own) in absurd (cc)))

-- ---- a response

module _ (response : Response) (serial : Option ℕ) where
  -- a row whose NOTIFY it answers has this serial
  abbrev pub Leads : Row → Type 0
  Leads row = (tag : List ℕ) → response.head.from.tag ≡ Some tag → bytes_eq tag row.sub.usage.local_tag ≡ true → serial ≡ Some row.serial

  tag_answered : (row : Row) → is_answered_by response row ≡ true → is_tag response.head.from.tag row.sub.usage.local_tag ≡ true
  unfolding is_answer_to
  tag_answered row e =
      let a = split_and (bytes_eq response.head.cseq_method (codes "NOTIFY")) _ e in
      let b = split_and (bytes_eq response.head.call_id row.sub.usage.call_id) _ a.1 in
      (split_and (is_tag response.head.from.tag row.sub.usage.local_tag) _ b.1).0

  led : (row : Row) → Leads row → (tag : Option (List ℕ)) → response.head.from.tag ≡ tag → is_tag tag row.sub.usage.local_tag ≡ true → serial ≡ Some row.serial
  led row leads None e h = absurd (cc)
  led row leads (Some tag) e h = leads tag e h

  pub answered_covers : (rows : List Row) → All Leads rows → Cover (option_to_list serial) (answered response) rows
  unfolding answered
  answered_covers rows leads s row found = elim (tested (is_answered_by response row)) [
    | inl e ↦
        let at = found_all Leads s rows row leads found in
        let same : serial ≡ Some row.serial = led row at.0 response.head.from.tag refl (tag_answered row e) in
        inl (rw same (ap (λ b. b || false) (eq-eqb row.serial s at.1)))
    | inr e ↦ inr (other_stays (is_answered_by response) (takes_answer response) row e)
  ]

-- ---- a change

module _ {maps : Maps} (t : Telling maps) (old : Rows) (i : IsIndexed old) (serials : List ℕ) where
  there : (s : ℕ) (row : Row) → with_serial s (rows_of old) ≡ Some row → row_at old s ≡ Some row
  there s row found = sym (with_serial-rows old s i) ∙ found

  pub change_covers : (name resource : List ℕ) (is_over : Bool) → ((s : ℕ) → has s serials ≡ is_watched old.watchers name resource s) → Cover serials (tells_watcher t name resource is_over) (rows_of old)
  unfolding tells_watcher
  change_covers name resource is_over all s row found = elim (tested (watches name resource row)) [
    | inl e ↦
        inl (all s ∙ i.watching name resource s ∙ ap (is_of name resource) (there s row found) ∙ e)
    | inr e ↦ inr (other_stays (watches name resource) (tells_change t is_over) row e)
  ]

  -- ---- time

  pub time_covers : t.clock < 2 ^ 63 → All (λ row. AreInOrder row.unanswered) (rows_of old) → ((s : ℕ) → IsTrue (has s serials) ↔ IsTimed old.timers t.clock s) → Cover serials (times_out t) (rows_of old)
  unfolding times_out
  time_covers fits in_order all s row found = elim (tested (nat_le (alarm_of row) t.clock)) [
    | inl e ↦
        let timer : sorted.contains by_time old.timers (alarm_of row, s) ≡ true =
        i.timed (alarm_of row) s ∙ ap (is_timed_at (alarm_of row)) (there s row found) ∙ eq-eqb (alarm_of row) (alarm_of row) refl in
        inl ((all s).1 (alarm_of row, (upto (alarm_of row) t.clock e, timer)))
    | inr e ↦
        let order = (found_all (λ row. AreInOrder row.unanswered) s (rows_of old) row in_order found).0 in
        let quiet = before_alarm t.clock row fits order e in
        inr (rw quiet.1 (other_stays (is_due t.clock) (ends t Timeout) row quiet.0))
  ]

  -- ---- the planned stop

  pub stop_covers : (rule : Row → Turned) → ((s : ℕ) → IsTrue (is_some (row_at old s)) → IsTrue (has s serials)) → Cover serials rule (rows_of old)
  stop_covers rule all s row found = inl (all s (ap is_some (there s row found)))
