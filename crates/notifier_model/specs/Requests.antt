-- The tests on one request. They look at the request, the limits, the boxes and what they are handed: the event of its
-- dialog, the next serial, how many subscriptions live.
use Rattle.std.specs.Prelude.{ℕ, min, Bool, true, false, not, ◌&&◌, ◌||◌, List, [], is_none, if◌then◌else◌, nat_eq, nat_lt, nat_le, ◌==◌, Some, None, codes, bytes_eq, decimal, Option, unwrap_or}
use Rattle.std.specs.List.{list_any, before_first, after_first, starts_with}
use Rattle.std.specs.Str.{byte, str_eq_ignore_ascii_case}
use Rattle.event_headers.specs.Values.{EventValue, Range}
use Rattle.event_headers.specs.Covering.{covers}
use Rattle.sip_read.specs.declared.message.Request.{Request}
use Rattle.package.specs.Content.{Maps, SeenBy, refer_package}
use Rattle.package.specs.Boxes.{first_box}
use Rattle.notifier_model.specs.declared.refusal.Refusal.{Refusal}
use Rattle.notifier_model.specs.declared.refusal.Refusal.TheVariants.{OtherMethod, OtherScheme, UnmetRequire, Malformed, ReferInDialog, OtherEvent, NoPackage, OnlyByRefer, NotAcceptable, NoResource, TooBrief}
use Rattle.notifier_model.specs.declared.row.Key.{Key}
use Rattle.notifier_model.specs.declared.birth.Birth.{Birth}
use Rattle.notifier_model.specs.declared.birth.Birth.TheVariants.{Watch, Fetch, Transfer, Unwatched}
use Rattle.notifier_model.specs.Limits.{Limits}
use Rattle.notifier_model.specs.Fields.{value_of, is_absent, is_bad, same_event}

-- ---- the method and the transaction

abbrev pub is_ack : Request → Bool
is_ack r = bytes_eq r.method (codes "ACK")

abbrev pub is_subscribe : Request → Bool
is_subscribe r = bytes_eq r.method (codes "SUBSCRIBE")

abbrev pub is_refer : Request → Bool
is_refer r = bytes_eq r.method (codes "REFER")

abbrev pub same_key : Key → Key → Bool
same_key k l = bytes_eq k.branch l.branch && (bytes_eq k.sent_by l.sent_by && bytes_eq k.method l.method)

-- a branch without the magic cookie names no transaction
abbrev pub key_with : Request → Option (List ℕ) → Option Key
key_with r None = None
key_with r (Some branch) =
    if starts_with nat_eq branch (codes "z9hG4bK")
    then Some (record { branch = branch; sent_by = r.head.top.sent_by; method = r.method }) else None

-- what names the transaction of a request, if anything does (RFC 3261 section 17.2.3)
unfoldable pub key_of_request : Request → Option Key
key_of_request r = key_with r r.head.top.branch

-- ---- the Request-URI

abbrev pub is_colon : ℕ → Bool
is_colon c = c == byte ":"

abbrev pub is_at : ℕ → Bool
is_at c = c == byte "@"

-- The scheme is what stands before the first colon; its case is ignored (RFC 3261 section 19.1.4).
unfoldable pub is_sip_uri : List ℕ → Bool
is_sip_uri uri = list_any is_colon uri && str_eq_ignore_ascii_case (before_first is_colon uri) (codes "sip")

abbrev pub user_before_at : List ℕ → List ℕ
user_before_at rest = if list_any is_at rest then before_first is_colon (before_first is_at rest) else []

-- What stands between the first colon and the next `@`, without a password (RFC 3261 section 19.1.1).
unfoldable pub user_part : List ℕ → List ℕ
user_part uri = user_before_at (after_first is_colon uri)

-- ---- what is asked for

-- A REFER makes the event `refer` with its CSeq number as the id (RFC 3515 section 2.4.6).
abbrev pub refer_event : ℕ → EventValue
refer_event cseq = record { «package» = refer_package; id = Some (decimal cseq) }

abbrev pub no_event : EventValue
no_event = record { «package» = []; id = None }

unfoldable pub event_of : Request → EventValue
event_of r = if is_refer r then refer_event r.head.cseq else unwrap_or (value_of r.event) no_event

abbrev pub is_of_refer : EventValue → Bool
is_of_refer e = bytes_eq e.package refer_package

-- the time that a request asks for
unfoldable pub asked : Limits → Request → ℕ
asked limits r =
    unwrap_or (value_of r.expires) (if is_of_refer (event_of r) then limits.refer_time else limits.default_time)

-- The time that is granted (RFC 6665 section 4.2.1.1). The Expires of a REFER isn't looked at.
unfoldable pub granted : Limits → Request → ℕ
granted limits r = if is_refer r then limits.refer_time else min (asked limits r) limits.max_time

-- a SUBSCRIBE that asks for no time
unfoldable pub asks_nothing : Limits → Request → Bool
asks_nothing limits r = not (is_refer r) && asked limits r == 0

abbrev pub is_too_brief : Limits → Request → Bool
is_too_brief limits r = nat_lt 0 (asked limits r) && nat_lt (asked limits r) limits.min_time

-- A REFER that asks for no subscription (RFC 4488). Where it isn't refused it gets its will.
abbrev pub is_no : Option Bool → Bool
is_no None = false
is_no (Some wanted) = not wanted

unfoldable pub is_unwatched : Request → Bool
is_unwatched r = is_refer r && is_no (value_of r.refer_sub)

-- A required extension that isn't understood (RFC 3261 section 8.2.2.3): any but `norefersub`, whose case is ignored.
abbrev pub is_strange : List ℕ → Bool
is_strange word = not (str_eq_ignore_ascii_case word (codes "norefersub"))

-- ---- a request that no state can help

-- a CSeq of another method, or a header that has to be there, or that can't be read
unfoldable pub is_malformed : Request → Bool
is_malformed r =
    not (bytes_eq r.head.cseq_method r.method)
    || ((is_subscribe r && (is_absent r.event || (is_bad r.event || (is_bad r.expires || is_bad r.accept))))
    || ((is_refer r && (is_absent r.refer_to || (is_bad r.refer_to || is_bad r.refer_sub)))
    || (is_bad r.contact || (is_absent r.contact && is_none r.head.to.tag))))

-- another method, another scheme, a demand that isn't met, a malformed request (RFC 3261 sections 8.2.1, 8.2.2, 21.4.1)
unfoldable pub misfit : Request → Option Refusal
misfit r =
    if not (is_subscribe r || is_refer r) then Some OtherMethod
    else if not (is_sip_uri r.uri) then Some OtherScheme
    else if list_any is_strange r.require then Some UnmetRequire
    else if is_malformed r then Some Malformed
    else None

-- ---- a request outside a dialog

-- one of the ranges covers the type (RFC 3261 section 20.1); without an Accept any type will do
abbrev pub is_acceptable : List ℕ → Option (List Range) → Bool
is_acceptable content_type None = true
is_acceptable content_type (Some ranges) = list_any (λ range. covers range content_type) ranges

module _ {maps : Maps} where
  -- no package of that name, a package for REFER alone, no content type that is wanted, no such resource, too brief a time
  -- (RFC 6665 section 4.2.1.1), by the first box of the event's name
  unfoldable pub misplaced_at : Limits → Request → Option (SeenBy maps) → Option Refusal
  misplaced_at limits r None = Some NoPackage
  misplaced_at limits r (Some box) =
      if is_refer r then None
      else if is_of_refer (event_of r) then Some OnlyByRefer
      else if not (is_acceptable box.content_type (value_of r.accept)) then Some NotAcceptable
      else if is_none (maps.held box.contents (user_part r.uri)) then Some NoResource
      else if is_too_brief limits r then Some TooBrief
      else None

  abbrev pub misplaced : Limits → List (SeenBy maps) → Request → Option Refusal
  misplaced limits boxes r = misplaced_at limits r (first_box (event_of r).package boxes)

-- What a request makes outside a dialog: a subscription that watches a resource, as a mailbox, a single look at one (a
-- fetch, RFC 6665 section 4.4.3), a transfer with a subscription that watches it (RFC 3515), or a transfer that nobody
-- watches (RFC 4488).
unfoldable pub birth_of : Limits → Request → Birth
birth_of limits r =
    if is_refer r then (if is_unwatched r then Unwatched else Transfer)
    else if asks_nothing limits r then Fetch else Watch

-- what leaves a row behind needs a place in the table
abbrev pub needs_place : Birth → Bool
needs_place Watch = true
needs_place Fetch = false
needs_place Transfer = true
needs_place Unwatched = false

-- the next serial is past the last one, or it needs a place in the table and there is none
unfoldable pub is_full : Limits → ℕ → ℕ → Request → Bool
is_full limits serial alive r = nat_lt limits.serials serial || (nat_le limits.table alive && needs_place (birth_of limits r))

-- ---- a request in a dialog of this event

-- a REFER, another package or id, too brief a time (RFC 6665 section 4.2.1.4)
unfoldable pub denial : Limits → EventValue → Request → Option Refusal
denial limits event r =
    if is_refer r then Some ReferInDialog
    else if not (same_event (event_of r) event) then Some OtherEvent
    else if is_too_brief limits r then Some TooBrief
    else None
