-- What is let through of all dialogs, in one order.
use Rattle.std.specs.Prelude.{ℕ, Option, None, List, [], ◌∷◌, ◌++◌, bytes_eq, map, if◌then◌else◌}
use Rattle.first_contact.specs.declared.contact.Notice.{Notice}
use Rattle.first_contact.specs.Steps.{ContactSeen}
use Rattle.first_contact.specs.Runs.{Call, tag_of, step_of, step_at, offers, IsPart}

-- what is known of each dialog
abbrev pub Known : Type 0
Known = List ℕ → Option ContactSeen

abbrev pub nothing : Known
nothing tag = None

abbrev pub after : Call → Known → Known
after call s tag = (step_at tag call (s tag)).contact

-- the NOTIFYs that a call lets through, each beside its dialog's tag
abbrev pub sent_by : Call → Known → List (List ℕ × Notice)
sent_by call s = map (λ (n : Notice). (tag_of call, n)) ((step_of call (s (tag_of call))).through)

-- all that are let through, in order
abbrev pub sends : List Call → Known → List (List ℕ × Notice)
sends [] s = []
sends (call ∷ calls) s = sent_by call s ++ sends calls (after call s)

-- those of one dialog
abbrev pub of_tag : List ℕ → List (List ℕ × Notice) → List Notice
of_tag tag [] = []
of_tag tag (x ∷ xs) = if bytes_eq x.0 tag then x.1 ∷ of_tag tag xs else of_tag tag xs

-- Of each dialog what is let through was offered, and comes in the order in which it was offered, each once. Nothing is said of the
-- order across dialogs.
abbrev pub EachDialogInOrder : Type 0
EachDialogInOrder = (calls : List Call) (tag : List ℕ) → IsPart (of_tag tag (sends calls nothing)) (offers tag calls)
