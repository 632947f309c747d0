-- The order for a request as one list: the first case that applies decides (RFC 6665 section 4.2.1). The numbers are those of
-- docs/protocol.md. `verdict` of `Book` is the same (law `laws::first_case_decides`).
use Rattle.std.specs.Prelude.{ℕ, Bool, false, not, ◌&&◌, ◌||◌, List, [], ◌∷◌, find, length, if◌then◌else◌, nat_lt, is_none, is_some, Option, Some, None}
use Rattle.std.specs.List.{list_any}
use Rattle.sip_read.specs.declared.message.Request.{Request}
use Rattle.package.specs.Content.{Maps, SeenBy}
use Rattle.package.specs.Boxes.{first_box}
use Rattle.notifier_model.specs.declared.refusal.Refusal.TheVariants.{OtherMethod, OtherScheme, UnmetRequire, Malformed, NoDialog, OldCseq, ReferInDialog, OtherEvent, NoPackage, OnlyByRefer, NotAcceptable, NoResource, TooBrief, Full}
use Rattle.notifier_model.specs.declared.row.Row.{Row}
use Rattle.notifier_model.specs.Fields.{value_of, or_empty, same_event}
use Rattle.notifier_model.specs.Limits.{Limits}
use Rattle.notifier_model.specs.Requests.{is_ack, is_subscribe, is_refer, key_of_request, is_sip_uri, user_part, event_of, is_of_refer, is_too_brief, is_strange, is_malformed, is_acceptable as is_acceptable_type, birth_of, is_full}
use Rattle.notifier_model.specs.Answers.{kept_answer}
use Rattle.notifier_model.specs.Rows.{is_dialog}
use Rattle.notifier_model.specs.Book.{BookBy, Verdict, Silent, Repeated, Refused, Denied, Renewed, Born}

-- the verdict of the first case that applies, else the last one
unfoldable pub first_of : List (Bool × Verdict) → Verdict → Verdict
first_of [] last = last
first_of ((applies, verdict) ∷ cases) last = if applies then verdict else first_of cases last

-- ---- the row of the dialog of a request (RFC 3261 section 12). Where there is none a test of it fails

abbrev pub serial_of : Option Row → ℕ
serial_of None = 0
serial_of (Some row) = row.serial

abbrev pub is_newer : Request → Option Row → Bool
is_newer r None = false
is_newer r (Some row) = nat_lt row.last_cseq r.head.cseq

abbrev pub is_for : Request → Option Row → Bool
is_for r None = false
is_for r (Some row) = same_event (event_of r) row.sub.want.event

-- ---- the package of a request. Where there is none a test of it fails

module _ {maps : Maps} where
  abbrev pub row_of : BookBy maps → Request → Option (List ℕ) → Option Row
  row_of b r None = None
  row_of b r (Some tag) = find (is_dialog r tag) b.rows

  abbrev pub is_acceptable : Request → Option (SeenBy maps) → Bool
  is_acceptable r None = false
  is_acceptable r (Some box) = is_acceptable_type box.content_type (value_of r.accept)

  abbrev pub lacks : Request → Option (SeenBy maps) → Bool
  lacks r None = false
  lacks r (Some box) = is_none (maps.held box.contents (user_part r.uri))

  -- ---- the cases

  -- by whether it has a To tag, the row of its dialog, its package and the answer that is kept of it
  unfoldable pub cases_at : Limits → BookBy maps → Request → Bool → Option Row → Option (SeenBy maps) → Option (List ℕ) → List (Bool × Verdict)
  cases_at limits b r tagged row box kept =
      -- 1 to 6: of any request
      (is_ack r, Silent)
      ∷ (is_some kept, Repeated (or_empty kept))
      ∷ (not (is_subscribe r || is_refer r), Refused OtherMethod)
      ∷ (not (is_sip_uri r.uri), Refused OtherScheme)
      ∷ (list_any is_strange r.require, Refused UnmetRequire)
      ∷ (is_malformed r, Refused Malformed)
      -- 7 to 12: with a To tag
      ∷ (tagged && is_none row, Refused NoDialog)
      ∷ (tagged && not (is_newer r row), Refused OldCseq)
      ∷ (tagged && is_refer r, Denied (serial_of row) ReferInDialog)
      ∷ (tagged && not (is_for r row), Denied (serial_of row) OtherEvent)
      ∷ (tagged && is_too_brief limits r, Denied (serial_of row) TooBrief)
      ∷ (tagged, Renewed (serial_of row))
      -- 13 to 18, and 20 and 21 of a REFER: without one
      ∷ (is_none box, Refused NoPackage)
      ∷ (not (is_refer r) && is_of_refer (event_of r), Refused OnlyByRefer)
      ∷ (not (is_refer r) && not (is_acceptable r box), Refused NotAcceptable)
      ∷ (not (is_refer r) && lacks r box, Refused NoResource)
      ∷ (not (is_refer r) && is_too_brief limits r, Refused TooBrief)
      ∷ (is_full limits b.next (length b.rows) r, Refused Full)
      ∷ []

  unfoldable pub cases : Limits → BookBy maps → Request → List (Bool × Verdict)
  cases limits b r =
      cases_at limits b r (is_some r.head.to.tag) (row_of b r r.head.to.tag) (first_box (event_of r).package b.boxes)
      (kept_answer b.ring (key_of_request r))

  -- the first of them; else it makes a dialog: 19 of a SUBSCRIBE, 22 and 23 of a REFER
  unfoldable pub first_case : Limits → BookBy maps → Request → Verdict
  first_case limits b r = first_of (cases limits b r) (Born (birth_of limits r))
