-- The boxes of workers that were told of changes.
use Rattle.std.proofs.Common.{◌≡◌, ℕ, ◌+◌, ◌<◌, Bool, true, false, List, [], ◌∷◌, ◌++◌, length, map, take, get_or, string_bytes, String, sym, ap, ◌∙◌, arith}
use Rattle.std.specs.Prelude.{if◌then◌else◌}
use Rattle.std.specs.declared.alloc.Global.{Global}
use Rattle.std.specs.List.{range_with_len}
use Rattle.std.proofs.lemmas.List.{map-append, length-map}
use Rattle.std.proofs.lemmas.List.Sums.{fold_more}
use Rattle.std.proofs.lemmas.List.FromFn.{map-range_with_len_more, length-map-range_with_len}
use Rattle.package.specs.declared.change.Change.{Change}
use Rattle.package.specs.declared.change.Outcome.{Outcome}
use Rattle.package.specs.Content.{Seen}
use Rattle.package.specs.Changes.{change_of}
use Rattle.refer.specs.Transfers.{new_transfers}
use Rattle.message_summary.specs.Mailboxes.{new_mailboxes}
use Rattle.arguments.specs.Setup.{mailboxes_named, dealt_names}
use Rattle.arguments.specs.Told.{told, boxes_left, boxes_told, all_told}
use Rattle.arguments.proofs.Dealt.{new_mailboxes-named}

-- one change more
pub told_more : (changes : List Change) (i : ℕ) (c : Change) (first box after : Seen) (outcome : Outcome) → i < length changes → c ≡ get_or changes i c
    → box ≡ told (take i changes) first → (outcome, after) ≡ change_of box c → after ≡ told (take (i + 1) changes) first
told_more changes i c first box after outcome below is so_far changed =
    ap (λ (r : Outcome × Seen). r.1) changed
    ∙ ap (λ (b : Seen). (change_of b c).1) so_far
    ∙ ap (λ (x : Change). (change_of (told (take i changes) first) x).1) is
    ∙ sym (fold_more (λ (b : Seen) c. (change_of b c).1) first changes i c below)

pub all-push : {X : Type 0} (seen : X → List Seen) (all : List X) (boxes : X) (n worker : ℕ) (no_refer : Bool) (changes : List Change) (names its : List (List ℕ))
    → map seen all ≡ map (λ w. boxes_told no_refer changes (dealt_names n w names)) (range_with_len 0 worker)
    → seen boxes ≡ boxes_told no_refer changes its → its ≡ dealt_names n worker names
    → map seen (all ++ boxes ∷ []) ≡ map (λ w. boxes_told no_refer changes (dealt_names n w names)) (range_with_len 0 (worker + 1))
all-push seen all boxes n worker no_refer changes names its so_far new named =
    map-append seen all (boxes ∷ [])
    ∙ ap (λ (b : List Seen). map seen all ++ b ∷ []) (new ∙ ap (boxes_told no_refer changes) named)
    ∙ ap (λ (bs : List (List Seen)). bs ++ boxes_told no_refer changes (dealt_names n worker names) ∷ []) so_far
    ∙ sym (map-range_with_len_more (λ w. boxes_told no_refer changes (dealt_names n w names)) 0 worker worker (omega arith))

pub told-len : {X : Type 0} (seen : X → List Seen) (all : List X) (n : ℕ) (no_refer : Bool) (changes : List Change) (names : List (List ℕ))
    → map seen all ≡ all_told n no_refer changes names → length all ≡ n
told-len seen all n no_refer changes names are =
    sym (length-map all seen) ∙ ap length are ∙ length-map-range_with_len (λ w. boxes_told no_refer changes (dealt_names n w names)) 0 n

-- the mailboxes alone
pub one_box : {P : Type 0} (seen : P → Seen) (boxes : List P) (first told_so : P) (no_refer : Bool) (changes steps : List Change) (names : List (String Global))
    → no_refer ≡ true → boxes ≡ told_so ∷ [] → seen first ≡ new_mailboxes names → seen told_so ≡ told changes (seen first)
    → map seen boxes ≡ boxes_left no_refer changes steps (map string_bytes names)
one_box seen boxes first told_so no_refer changes steps names without are new so =
    ap (map seen) are
    ∙ ap (λ (m : Seen). m ∷ []) (so ∙ ap (told changes) (new ∙ new_mailboxes-named names))
    ∙ ap (λ (b : Bool). told changes (mailboxes_named (map string_bytes names)) ∷ (if b then [] else told steps new_transfers ∷ [])) (sym without)

-- and with transfers
pub two_boxes : {P : Type 0} (seen : P → Seen) (boxes : List P) (first told_so second begun : P) (no_refer : Bool) (changes steps : List Change) (names : List (String Global))
    → no_refer ≡ false → boxes ≡ told_so ∷ begun ∷ [] → seen first ≡ new_mailboxes names → seen told_so ≡ told changes (seen first)
    → seen second ≡ new_transfers → seen begun ≡ told steps (seen second)
    → map seen boxes ≡ boxes_left no_refer changes steps (map string_bytes names)
two_boxes seen boxes first told_so second begun no_refer changes steps names with_it are new so moved stepped =
    ap (map seen) are
    ∙ ap (λ (m : Seen). m ∷ seen begun ∷ []) (so ∙ ap (told changes) (new ∙ new_mailboxes-named names))
    ∙ ap (λ (t : Seen). told changes (mailboxes_named (map string_bytes names)) ∷ t ∷ []) (stepped ∙ ap (told steps) moved)
    ∙ ap (λ (b : Bool). told changes (mailboxes_named (map string_bytes names)) ∷ (if b then [] else told steps new_transfers ∷ [])) (sym with_it)
