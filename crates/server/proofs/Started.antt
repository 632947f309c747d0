-- The program starts from what its arguments say.
use Rattle.std.proofs.Common.{◌≡◌, ℕ, ◌≤◌, List, [], ◌∷◌, length, map, sym, ap, ◌∙◌, inl, inr, arith}
use Rattle.std.proofs.lemmas.List.FromFn.{length-map-range_with_len}
use Rattle.arguments.specs.declared.arguments.Arguments.{Arguments}
use Rattle.arguments.specs.Arguments.{AreArguments}
use Rattle.package.specs.Content.{Seen}
use Rattle.notifier_model.specs.declared.place.Setup.{Setup}
use Rattle.server.specs.Runs.{starts_on}
use Rattle.server.proofs.Worked.{starts_on-len}
use Rattle.server.specs.Call.{setup_for, starts_for}
use Rattle.arguments.specs.Setup.{dealt_names, made_boxes, dealt_boxes}

-- ---- the mailboxes of a worker

-- ---- the boxes of all workers

pub starts_are : {X : Type 0} (seen : X → List Seen) (all : List X) (setup : Setup) (a : Arguments) → setup ≡ setup_for a.seed a.stop → map seen all ≡ dealt_boxes a.workers a.mailboxes
    → starts_on setup (map seen all) ≡ starts_for a
starts_are seen all setup a is are = ap (λ (s : Setup). starts_on s (map seen all)) is ∙ ap (starts_on (setup_for a.seed a.stop)) are

-- ---- how many workers there are

pub from_one : (words : List (List ℕ)) (a : Arguments) → AreArguments words a → 1 ≤ a.workers
from_one words a (inl none) = let one = ap (λ (b : Arguments). b.workers) none.1 in omega arith
from_one words a (inr call) = call.from_one

pub to_256 : (words : List (List ℕ)) (a : Arguments) → AreArguments words a → a.workers ≤ 256
to_256 words a (inl none) = let one = ap (λ (b : Arguments). b.workers) none.1 in omega arith
to_256 words a (inr call) = call.to_256

-- ---- one worker

pub one_start_is : (setup : Setup) (boxes : List Seen) (a : Arguments) (its : List (List ℕ)) → setup ≡ setup_for a.seed a.stop → a.workers ≡ 1 → boxes ≡ made_boxes its → its ≡ dealt_names 1 0 a.mailboxes
    → starts_on setup (boxes ∷ []) ≡ starts_for a
one_start_is setup boxes a its is one are names =
    ap (λ (s : Setup). starts_on s (boxes ∷ [])) is
    ∙ ap (λ (b : List Seen). starts_on (setup_for a.seed a.stop) (b ∷ [])) (are ∙ ap made_boxes names)
    ∙ ap (λ (n : ℕ). starts_on (setup_for a.seed a.stop) (dealt_boxes n a.mailboxes)) (sym one)

pub starts-len : (a : Arguments) → length (starts_for a) ≡ a.workers
starts-len a = starts_on-len (setup_for a.seed a.stop) (dealt_boxes a.workers a.mailboxes) ∙ length-map-range_with_len (λ w. made_boxes (dealt_names a.workers w a.mailboxes)) 0 a.workers
