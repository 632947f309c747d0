-- The workers of a script start as the laws of a life ask, so its page tells the lives of subscriptions.
use Rattle.std.proofs.Common.{◌≡◌, ℕ, ◌+◌, List, [], ◌∷◌, length, map, None, sym, subst, arith}
use Rattle.std.proofs.lemmas.List.{append-nil}
use Rattle.std.proofs.lemmas.List.Elements.{All-nil, All-cons, All-head, All-tail}
use Rattle.std.proofs.lemmas.List.FromFn.{get_or-map-range_with_len, length-map-range_with_len}
use Rattle.std.specs.FinMap.{get-empty}
use Rattle.std.specs.List.{All, enumerate_from}
use Rattle.std.specs.Ordering.{nat_cmp}
use Rattle.std.specs.Cmp.Lexicographic.{slice_cmp}
use Rattle.package.specs.Content.{Seen, refer_package}
use Rattle.package.specs.Boxes.{content_in}
use Rattle.notifier_model.specs.declared.event.Event.{Event}
use Rattle.notifier_model.specs.declared.place.Setup.{Setup}
use Rattle.notifier_model.specs.Limits.{AreLimits}
use Rattle.notifier_model.specs.Start.{Start, place_of, tag_of}
use Rattle.life.specs.Laws.{IsStart, notifies_with, outs}
use Rattle.life.specs.Notices.{newest_first, notices}
use Rattle.life.proofs.Outs.{life_law}
use Rattle.schedules.proofs.Numbering.{first_rise}
use Rattle.arguments.specs.Setup.{dealt_boxes, dealt_names, made_boxes, program_limits}
use Rattle.server.specs.Call.{setup_for, starts_for}
use Rattle.server.specs.Page.{events_at}
use Rattle.server.specs.Laws.{ScriptLaw, StartsOfAScriptLaw}

program-limits : AreLimits program_limits
program-limits = record {
  min_time = (omega arith, omega arith);
  max_time = (omega arith, omega arith);
  default_time = (omega arith, omega arith);
  refer_time = (omega arith, omega arith);
  max_cseq = (omega arith, omega arith);
  table = (omega arith, omega arith);
  serials = (omega arith, omega arith);
  kept = (omega arith, omega arith);
  inbox = (omega arith, omega arith);
  outbox = (omega arith, omega arith);
}

abbrev HasNoTransfer : List Seen → Type 0
HasNoTransfer boxes = (tag : List ℕ) → content_in boxes refer_package tag ≡ None

none_made : (names : List (List ℕ)) → HasNoTransfer (made_boxes names)
none_made names tag = get-empty (slice_cmp nat_cmp) tag

none_dealt : (n : ℕ) (names : List (List ℕ)) → All HasNoTransfer (dealt_boxes n names)
none_dealt n names k d low =
    let made : ℕ → List Seen = λ worker. made_boxes (dealt_names n worker names) in
    let len = length-map-range_with_len made 0 n in
    subst HasNoTransfer (sym (get_or-map-range_with_len made 0 n k k d (omega (arith, len, low)) (omega arith))) (none_made (dealt_names n k names))

each_starts : (setup : Setup) (first : ℕ) (boxes : List (List Seen)) → AreLimits setup.limits → All HasNoTransfer boxes
    → All IsStart (map (λ numbered. let s : Start = record { place = place_of setup numbered.0; boxes = numbered.1 } in s) (enumerate_from first boxes))
each_starts setup first [] within none = All-nil IsStart
each_starts setup first (b ∷ bs) within none =
    All-cons IsStart (record { place = place_of setup first; boxes = b })
    (map (λ numbered. let s : Start = record { place = place_of setup numbered.0; boxes = numbered.1 } in s) (enumerate_from (first + 1) bs))
    (record { limits = within; no_transfer = All-head HasNoTransfer b bs none })
    (each_starts setup (first + 1) bs within (All-tail HasNoTransfer b bs none))

pub starts_of_a_script : StartsOfAScriptLaw
starts_of_a_script words a are = each_starts (setup_for a.seed a.stop) 0 (dealt_boxes a.workers a.mailboxes) program-limits (none_dealt a.workers a.mailboxes)

pub script_tells : ScriptLaw
script_tells words a es start serial are among small =
    let its : List Event = events_at (length (starts_for a)) es start in
    let tag : List ℕ = tag_of start.place serial in
    let is : IsStart start = subst IsStart among.2 (starts_of_a_script words a are among.0 start among.1) in
    let told = life_law start serial its is small in
    let all = notices start serial (newest_first its) in
    (told, first_rise start serial (newest_first its) tag all (notifies_with tag (outs start its)) ([], sym (append-nil all)) told)
