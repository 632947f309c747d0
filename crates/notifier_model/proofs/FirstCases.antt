-- The first case of the list is the verdict.
use Rattle.std.proofs.Common.{◌≡◌, ℕ, Bool, true, false, not, ◌&&◌, ◌||◌, List, [], ◌∷◌, length, if◌then◌else◌, is_none, is_some, Option, Some, None, refl, nat_lt}
use Rattle.std.specs.List.{list_any}
use Rattle.std.specs.Prelude.{find}
use Rattle.sip_read.specs.declared.message.Request.{Request}
use Rattle.package.specs.Content.{Maps, SeenBy}
use Rattle.package.specs.Boxes.{first_box}
use Rattle.notifier_model.specs.declared.refusal.Refusal.TheVariants.{OtherMethod, OtherScheme, UnmetRequire, Malformed, NoDialog, OldCseq, ReferInDialog, OtherEvent, NoPackage, OnlyByRefer, NotAcceptable, NoResource, TooBrief, Full}
use Rattle.notifier_model.specs.declared.row.Row.{Row}
use Rattle.notifier_model.specs.Fields.{value_of, or_empty, same_event}
use Rattle.notifier_model.specs.Limits.{Limits}
use Rattle.notifier_model.specs.Requests.{is_ack, is_subscribe, is_refer, key_of_request, is_sip_uri, user_part, event_of, is_of_refer, is_too_brief, is_strange, is_malformed, is_acceptable as is_acceptable_type, misfit, misplaced_at, denial, birth_of, is_full}
use Rattle.notifier_model.specs.Answers.{kept_answer}
use Rattle.notifier_model.specs.Rows.{is_dialog}
use Rattle.notifier_model.specs.Book.{BookBy, Verdict, Silent, Repeated, Refused, Denied, Renewed, Born, unless, unless_denied, in_dialog, outside, by_to_tag, by_kept, verdict}
use Rattle.notifier_model.specs.Cases.{first_of, serial_of, is_newer, is_for, row_of, is_acceptable, lacks, cases_at, cases, first_case}

abbrev Cases : Type 0
Cases = List (Bool × Verdict)

-- ---- by the tests alone

-- one case more, before the others
if_first : (a : Bool) (v w last : Verdict) (cs : Cases) → first_of cs last ≡ w → first_of ((a, v) ∷ cs) last ≡ (if a then v else w)
unfolding first_of
if_first true v w last cs e = refl
if_first false v w last cs e = e

-- a method, a scheme, a demand, a malformed request
misfit_first : (m u q w : Bool) (rest last : Verdict) (cs : Cases) → first_of cs last ≡ rest
    → first_of ((not m, Refused OtherMethod) ∷ (not u, Refused OtherScheme) ∷ (q, Refused UnmetRequire) ∷ (w, Refused Malformed) ∷ cs) last
    ≡ unless (if not m then Some OtherMethod else if not u then Some OtherScheme else if q then Some UnmetRequire else if w then Some Malformed else None) rest
unfolding first_of unless
misfit_first false u q w rest last cs e = refl
misfit_first true false q w rest last cs e = refl
misfit_first true true true w rest last cs e = refl
misfit_first true true false true rest last cs e = refl
misfit_first true true false false rest last cs e = e

-- in a dialog: a greater CSeq, a REFER, the event of the dialog, too brief a time
dialog_first : (n f e t : Bool) (serial : ℕ) (last : Verdict) (cs : Cases)
    → first_of ((not n, Refused OldCseq) ∷ (f, Denied serial ReferInDialog) ∷ (not e, Denied serial OtherEvent) ∷ (t, Denied serial TooBrief) ∷ (true, Renewed serial) ∷ cs) last
    ≡ (if n then unless_denied serial (if f then Some ReferInDialog else if not e then Some OtherEvent else if t then Some TooBrief else None) else Refused OldCseq)
unfolding first_of unless_denied
dialog_first false f e t serial last cs = refl
dialog_first true true e t serial last cs = refl
dialog_first true false false t serial last cs = refl
dialog_first true false true true serial last cs = refl
dialog_first true false true false serial last cs = refl

-- outside one: a REFER, a package for REFERs alone, a type that is wanted, no such resource, too brief a time, no room
placed_first : (f e a h t full : Bool) (last : Verdict)
    → first_of ((not f && e, Refused OnlyByRefer) ∷ (not f && not a, Refused NotAcceptable) ∷ (not f && h, Refused NoResource) ∷ (not f && t, Refused TooBrief) ∷ (full, Refused Full) ∷ []) last
    ≡ unless (if f then None else if e then Some OnlyByRefer else if not a then Some NotAcceptable else if h then Some NoResource else if t then Some TooBrief else None) (if full then Refused Full else last)
unfolding first_of unless
placed_first true e a h t true last = refl
placed_first true e a h t false last = refl
placed_first false true a h t full last = refl
placed_first false false false h t full last = refl
placed_first false false true true t full last = refl
placed_first false false true false true full last = refl
placed_first false false true false false true last = refl
placed_first false false true false false false last = refl

-- ---- the list in three parts, from behind

module _ {maps : Maps} (limits : Limits) (b : BookBy maps) (r : Request) where
  abbrev last : Verdict
  last = Born (birth_of limits r)

  abbrev without_tag : Option (SeenBy maps) → Cases
  without_tag box =
      (is_none box, Refused NoPackage)
      ∷ (not (is_refer r) && is_of_refer (event_of r), Refused OnlyByRefer)
      ∷ (not (is_refer r) && not (is_acceptable r box), Refused NotAcceptable)
      ∷ (not (is_refer r) && lacks r box, Refused NoResource)
      ∷ (not (is_refer r) && is_too_brief limits r, Refused TooBrief)
      ∷ (is_full limits b.next (length b.rows) r, Refused Full)
      ∷ []

  abbrev with_tag : Bool → Option Row → Cases → Cases
  with_tag tagged row more =
      (tagged && is_none row, Refused NoDialog)
      ∷ (tagged && not (is_newer r row), Refused OldCseq)
      ∷ (tagged && is_refer r, Denied (serial_of row) ReferInDialog)
      ∷ (tagged && not (is_for r row), Denied (serial_of row) OtherEvent)
      ∷ (tagged && is_too_brief limits r, Denied (serial_of row) TooBrief)
      ∷ (tagged, Renewed (serial_of row))
      ∷ more

  abbrev of_any : Cases → Cases
  of_any more =
      (not (is_subscribe r || is_refer r), Refused OtherMethod)
      ∷ (not (is_sip_uri r.uri), Refused OtherScheme)
      ∷ (list_any is_strange r.require, Refused UnmetRequire)
      ∷ (is_malformed r, Refused Malformed)
      ∷ more

  abbrev behind : Option (List ℕ) → Cases
  behind to = with_tag (is_some to) (row_of b r to) (without_tag (first_box (event_of r).package b.boxes))

  by_box : (box : Option (SeenBy maps)) → first_of (without_tag box) last ≡ unless (misplaced_at limits r box) (if is_full limits b.next (length b.rows) r then Refused Full else last)
  by_box None = unfold first_of misplaced_at unless in refl
  by_box (Some box) = unfold misplaced_at in
      if_first false (Refused NoPackage) _ last _
      (placed_first (is_refer r) (is_of_refer (event_of r)) (is_acceptable_type box.content_type (value_of r.accept)) (is_none (maps.held box.contents (user_part r.uri))) (is_too_brief limits r) (is_full limits b.next (length b.rows) r) last)

  by_row : (row : Option Row) (more : Cases) → first_of (with_tag true row more) last ≡ in_dialog limits r row
  by_row None more = unfold first_of in_dialog in refl
  by_row (Some row) more = unfold in_dialog denial in
      if_first false (Refused NoDialog) _ last _
      (dialog_first (nat_lt row.last_cseq r.head.cseq) (is_refer r) (same_event (event_of r) row.sub.want.event) (is_too_brief limits r) row.serial last more)

  by_tag : (to : Option (List ℕ)) → first_of (behind to) last ≡ by_to_tag limits b r to
  by_tag None = unfold first_of by_to_tag outside in (by_box (first_box (event_of r).package b.boxes))
  by_tag (Some tag) = unfold by_to_tag in (by_row (find (is_dialog r tag) b.rows) (without_tag (first_box (event_of r).package b.boxes)))

  by_answer : (kept : Option (List ℕ)) → first_of ((is_some kept, Repeated (or_empty kept)) ∷ of_any (behind r.head.to.tag)) last ≡ by_kept limits b r kept
  by_answer (Some bytes) = unfold first_of by_kept in refl
  by_answer None = unfold by_kept misfit in
      if_first false (Repeated []) _ last _
      (misfit_first (is_subscribe r || is_refer r) (is_sip_uri r.uri) (list_any is_strange r.require) (is_malformed r) _ last (behind r.head.to.tag) (by_tag r.head.to.tag))

  pub first_is_verdict : first_case limits b r ≡ verdict limits b r
  unfolding first_case cases cases_at verdict
  first_is_verdict = if_first (is_ack r) Silent _ last _ (by_answer (kept_answer b.ring (key_of_request r)))
