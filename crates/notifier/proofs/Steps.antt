-- Telling all rows, and a birth, as steps of the book.
use Rattle.std.proofs.Common.{◌≡◌, ℕ, ◌+◌, Bool, false, if◌then◌else◌, List, [], ◌∷◌, ◌++◌, map, is_none, option_to_list, sym, ap, subst, ◌∙◌}
use Rattle.std.proofs.lemmas.List.{map-append}
use Rattle.sip_text.specs.declared.address.Addr.{Addr}
use Rattle.sip_read.specs.declared.message.Request.{Request}
use Rattle.sip_write.specs.Answer.{answer_text}
use Rattle.package.specs.Content.{Seen, finite_maps}
use Rattle.notifier_model.specs.declared.event.Out.{Out}
use Rattle.notifier_model.specs.declared.event.Out.TheVariants.{Answer}
use Rattle.notifier_model.specs.declared.place.Place.{Place}
use Rattle.notifier_model.specs.declared.row.Row.{Row}
use Rattle.notifier_model.specs.declared.row.Kept.{Kept}
use Rattle.notifier_model.specs.Answers.{birth_answer, ring_with}
use Rattle.notifier_model.specs.Out.{Send, Starts, out_of}
use Rattle.notifier_model.specs.Rows.{Telling, Turned, sweep, forgetting}
use Rattle.notifier_model.specs.Requests.{key_of_request, is_refer}
use Rattle.notifier_model.specs.Fields.{value_of, or_empty}
use Rattle.notifier_model.specs.Start.{tag_of}
use Rattle.notifier_model.specs.Book.{Book, SteppedBy, Born, telling, all_rows, keeping, born, served, first_boxes, first_gone, first_told, first_word}
use Rattle.notifier_model.specs.declared.birth.Newborn.{Newborn}
use Rattle.notifier.specs.Ledger.{IsStep}

pub all_rows_step : (b : Book) (rule : Row → Turned) (sends : List Send) (rows : List Row) (boxes : List Seen) (outs made : List Out)
    → rows ≡ (sweep rule b.rows).rows → boxes ≡ forgetting (sweep rule b.rows).gone b.boxes → outs ≡ map out_of sends → made ≡ outs ++ map out_of (sweep rule b.rows).notifies
    → IsStep (all_rows b rule sends) (record b { rows = rows; boxes = boxes }) made
unfolding all_rows
all_rows_step b rule sends rows boxes outs made r x o m = record {
  book_is = λ i. record b { rows = r i; boxes = x i };
  outs_are = m ∙ ap (λ l. l ++ map out_of (sweep rule b.rows).notifies) o ∙ sym (map-append out_of sends (sweep rule b.rows).notifies);
}

-- the same of a book that is known by an equation, where the rule may look at the book
pub from_book : (rule : Book → Row → Turned) (sends : List Send) (b c d : Book) (outs : List Out) → b ≡ c → IsStep (all_rows b (rule b) sends) d outs → IsStep (all_rows c (rule c) sends) d outs
from_book rule sends b c d outs e s = subst (λ x. IsStep (all_rows x (rule x) sends) d outs) e s

-- from what it is told first: its transfer has begun
abbrev pub begun_from : Place → Book → Newborn → Telling finite_maps
begun_from place b n = telling place (record b { boxes = first_boxes b.boxes n.tag n.kind })

-- a request that makes a dialog, where its tag and its serial are those that come next
pub born_step : (place : Place) (b : Book) (source : Addr) (r : Request) (n : Newborn) (clock next : ℕ) (rows : List Row) (boxes : List Seen) (ring : List Kept) (outs : List Out)
    → n.tag ≡ tag_of place b.next → n.serial ≡ b.next
    → clock ≡ b.clock → next ≡ b.next + 1
    → rows ≡ b.rows ++ option_to_list (first_told (begun_from place b n) source r n).row
    → boxes ≡ forgetting (first_gone n.tag n.kind (is_none (first_told (begun_from place b n) source r n).row)) (first_boxes b.boxes n.tag n.kind)
    → ring ≡ ring_with place.limits b.ring (key_of_request r) (answer_text (birth_answer place source r n.tag))
    → outs ≡ (Answer source (answer_text (birth_answer place source r n.tag)) ∷ map out_of (first_told (begun_from place b n) source r n).notifies) ++ map out_of (first_word n.tag r)
    → IsStep (served place b source r (Born n.kind)) (record { clock = clock; next = next; rows = rows; boxes = boxes; ring = ring }) outs
unfolding served born keeping out_of
born_step place b source r n clock next rows boxes ring outs t s c m l x k o =
    subst (λ (stepped : SteppedBy finite_maps). IsStep stepped (record { clock = clock; next = next; rows = rows; boxes = boxes; ring = ring }) outs)
    (λ i. born place b source r (record { kind = n.kind; serial = s i; tag = t i }))
    (record {
      book_is = λ i. record { clock = c i; next = m i; rows = l i; boxes = x i; ring = k i };
      outs_are = o ∙ ap (λ (l : List Out). Answer source (answer_text (birth_answer place source r n.tag)) ∷ l) (sym (map-append out_of told.notifies (first_word n.tag r)));
    })
  where
    told : Turned
    told = first_told (begun_from place b n) source r n

-- the word of a request that is no REFER
pub no_word : (tag : List ℕ) (r : Request) → is_refer r ≡ false → first_word tag r ≡ []
unfolding first_word
no_word tag r e = ap (λ (b : Bool). if b then Starts tag (or_empty (value_of r.refer_to)) ∷ [] else []) e

-- the same of one that begins no transfer which is watched
pub plain_step : (place : Place) (b : Book) (source : Addr) (r : Request) (n : Newborn) (clock next : ℕ) (rows : List Row) (boxes : List Seen) (ring : List Kept) (outs : List Out)
    → first_boxes b.boxes n.tag n.kind ≡ b.boxes → ((ends : Bool) → first_gone n.tag n.kind ends ≡ [])
    → n.tag ≡ tag_of place b.next → n.serial ≡ b.next
    → clock ≡ b.clock → next ≡ b.next + 1
    → rows ≡ b.rows ++ option_to_list (first_told (telling place b) source r n).row
    → boxes ≡ b.boxes
    → ring ≡ ring_with place.limits b.ring (key_of_request r) (answer_text (birth_answer place source r n.tag))
    → outs ≡ (Answer source (answer_text (birth_answer place source r n.tag)) ∷ map out_of (first_told (telling place b) source r n).notifies) ++ map out_of (first_word n.tag r)
    → IsStep (served place b source r (Born n.kind)) (record { clock = clock; next = next; rows = rows; boxes = boxes; ring = ring }) outs
unfolding forgetting
plain_step place b source r n clock next rows boxes ring outs quiet gone t s c m l x k o =
    born_step place b source r n clock next rows boxes ring outs t s c m
    (l ∙ ap (λ (w : Turned). b.rows ++ option_to_list w.row) same)
    (x ∙ sym (ap (λ (tags : List (List ℕ)). forgetting tags (first_boxes b.boxes n.tag n.kind)) (gone (is_none (first_told (begun_from place b n) source r n).row)) ∙ quiet))
    k
    (o ∙ ap (λ (w : Turned). (Answer source (answer_text (birth_answer place source r n.tag)) ∷ map out_of w.notifies) ++ map out_of (first_word n.tag r)) same)
  where
    same : first_told (telling place b) source r n ≡ first_told (begun_from place b n) source r n
    same = ap (λ (boxes : List Seen). first_told (telling place (record b { boxes = boxes })) source r n) (sym quiet)
