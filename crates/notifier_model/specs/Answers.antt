-- The answers to requests, and those that are kept.
use Rattle.std.specs.Prelude.{ℕ, Bool, false, List, [], ◌∷◌, map, take, find, filter, if◌then◌else◌, Option, Some, None, option_map, codes}
use Rattle.sip_text.specs.declared.address.Addr.{Addr}
use Rattle.sip_read.specs.declared.message.Request.{Request}
use Rattle.sip_write.specs.declared.status.Status.{Status}
use Rattle.sip_write.specs.declared.status.Status.TheVariants as status
use Rattle.sip_write.specs.Answer.{AnswerText, bare}
use Rattle.package.specs.Content.{Maps, SeenBy}
use Rattle.notifier_model.specs.declared.place.Place.{Place}
use Rattle.notifier_model.specs.declared.refusal.Refusal.{Refusal}
use Rattle.notifier_model.specs.declared.refusal.Refusal.TheVariants as refusal
use Rattle.notifier_model.specs.declared.row.Key.{Key}
use Rattle.notifier_model.specs.declared.row.Kept.{Kept}
use Rattle.notifier_model.specs.Limits.{Limits}
use Rattle.notifier_model.specs.Refusals.{status_of}
use Rattle.notifier_model.specs.Requests.{same_key, is_refer, is_unwatched, is_strange, granted}
use Rattle.notifier_model.specs.Tag.{refusal_tag}

-- an answer without any of the optional lines. A To without a tag gets this one
abbrev pub bare_answer : Addr → Request → Option (List ℕ) → Status → AnswerText
bare_answer source r tag status = bare r.head source tag status

abbrev pub min_expires_of : Limits → Refusal → Option ℕ
min_expires_of limits refusal.TooBrief = Some limits.min_time
min_expires_of limits _ = None

abbrev pub allow_of : Refusal → Option (List (List ℕ))
allow_of refusal.OtherMethod = Some (codes "SUBSCRIBE" ∷ codes "REFER" ∷ [])
allow_of _ = None

abbrev pub unsupported_of : List (List ℕ) → Refusal → Option (List (List ℕ))
unsupported_of words refusal.UnmetRequire = Some words
unsupported_of words _ = None

abbrev pub allow_events_of : List (List ℕ) → Refusal → Option (List (List ℕ))
allow_events_of names refusal.NoPackage = Some names
allow_events_of names _ = None

-- a refusal, with what its status asks for (RFC 3261 sections 20.5, 20.23 and 20.40, RFC 6665 section 8.2.2), by the names of
-- the packages and the tag to add
unfoldable pub refusal_text : Place → List (List ℕ) → List ℕ → Addr → Request → Refusal → AnswerText
refusal_text place names tag source r refused =
    record (bare_answer source r (Some tag) (status_of refused)) {
      min_expires = min_expires_of place.limits refused;
      allow = allow_of refused;
      allow_events = allow_events_of names refused;
      unsupported = unsupported_of (filter is_strange r.require) refused;
    }

module _ {maps : Maps} where
  abbrev pub names_of : List (SeenBy maps) → List (List ℕ)
  names_of boxes = map (λ box. box.name) boxes

  unfoldable pub refusal_answer : Place → List (SeenBy maps) → Addr → Request → Refusal → AnswerText
  refusal_answer place boxes source r refused =
      refusal_text place (names_of boxes) (refusal_tag place.worker) source r refused

-- the 200 to a SUBSCRIBE in a dialog
unfoldable pub renewal_answer : Place → Addr → Request → AnswerText
renewal_answer place source r =
    record (bare_answer source r None status.Ok) {
      contact = Some place.me;
      expires = Some (granted place.limits r);
    }

-- the 200 or 202 that makes a dialog (RFC 3261 section 12.1.1); it says where no subscription goes with it (RFC 4488)
unfoldable pub birth_answer : Place → Addr → Request → List ℕ → AnswerText
birth_answer place source r tag =
    record (bare_answer source r (Some tag) (if is_refer r then status.Accepted else status.Ok)) {
      record_routes = r.record_routes;
      contact = Some place.me;
      expires = if is_refer r then None else Some (granted place.limits r);
      without_subscription = is_unwatched r;
    }

-- ---- kept answers, newest first

abbrev pub has_key : Key → Kept → Bool
has_key key kept = same_key kept.key key

-- the kept answer to a request with this key, if it has one
unfoldable pub kept_answer : List Kept → Option Key → Option (List ℕ)
kept_answer ring None = None
kept_answer ring (Some key) = option_map (λ kept. kept.bytes) (find (has_key key) ring)

-- the oldest goes when there is no room
unfoldable pub ring_with : Limits → List Kept → Option Key → List ℕ → List Kept
ring_with limits ring None bytes = ring
ring_with limits ring (Some key) bytes = take limits.kept (record { key = key; bytes = bytes } ∷ ring)
