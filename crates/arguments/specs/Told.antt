-- What the workers of a service start from.
use Rattle.std.specs.Prelude.{ℕ, Bool, if◌then◌else◌, List, [], ◌∷◌, map, fold}
use Rattle.std.specs.List.{range_with_len}
use Rattle.package.specs.declared.change.Change.{Change}
use Rattle.package.specs.Content.{Seen}
use Rattle.package.specs.Changes.{change_of}
use Rattle.refer.specs.Transfers.{new_transfers}
use Rattle.arguments.specs.Setup.{mailboxes_named, dealt_names}

-- a package that was told of changes, one behind the other
abbrev pub told : List Change → Seen → Seen
told changes box = fold (λ (b : Seen) c. (change_of b c).1) box changes

-- the packages of a worker whose mailboxes were told of these changes, and whose transfers of those, unless they are left out
abbrev pub boxes_left : Bool → List Change → List Change → List (List ℕ) → List Seen
boxes_left no_refer changes steps names = told changes (mailboxes_named names) ∷ (if no_refer then [] else told steps new_transfers ∷ [])

-- the packages of a worker: the mailboxes of these names, and transfers, unless they are left out
abbrev pub boxes_told : Bool → List Change → List (List ℕ) → List Seen
boxes_told no_refer changes names = told changes (mailboxes_named names) ∷ (if no_refer then [] else new_transfers ∷ [])

-- those of each of n workers, among which the mailboxes are dealt out
abbrev pub all_told : ℕ → Bool → List Change → List (List ℕ) → List (List Seen)
all_told n no_refer changes names = map (λ worker. boxes_told no_refer changes (dealt_names n worker names)) (range_with_len 0 n)
