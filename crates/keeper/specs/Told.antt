-- What a worker was told so far: of each mailbox that it holds the last counts of each class, of each transfer the last step.
use Rattle.std.specs.Prelude.{ℕ, ◌+◌, Bool, not, ◌==◌, List, [], ◌∷◌, ◌++◌, map, filter, fold, if◌then◌else◌, bytes_eq, string_bytes, String}
use Rattle.std.specs.List.{flat_map, list_any}
use Rattle.std.specs.declared.alloc.Global.{Global}
use Rattle.package.specs.Values.{MailChange, Progress}
use Rattle.package.specs.Content.{is_final}
use Rattle.package.specs.Run.{place}
use Rattle.notifier_model.specs.declared.event.Event.{Event}
use Rattle.notifier_model.specs.declared.event.Event.TheVariants.{Request as Comes, Reply, Mail, Progress as Goes, Tick, Shut}
use Rattle.journal.specs.declared.record.Told.{Told}

-- ---- mailboxes (RFC 3842 section 5.2)

-- a mailbox, and of each class the last change of it
abbrev pub Row : Type 0
Row = List ℕ × List MailChange

-- the rows that a map has
abbrev pub rows_in : List (String Global × List MailChange) → List Row
rows_in entries = map (λ (e : String Global × List MailChange). (string_bytes e.0, e.1)) entries

abbrev pub same_class : MailChange → MailChange → Bool
same_class m c = place c.class == place m.class

-- of each class the last change counts
abbrev pub with_change : MailChange → List MailChange → List MailChange
with_change m changes = filter (λ c. not (same_class m c)) changes ++ m ∷ []

-- a change of a mailbox that the worker doesn't hold changes nothing
abbrev pub told_mail : MailChange → List Row → List Row
told_mail m [] = []
told_mail m (row ∷ rows) =
    if bytes_eq m.mailbox row.0 then (row.0, with_change m row.1) ∷ rows else row ∷ told_mail m rows

abbrev pub has : List ℕ → List Row → Bool
has name rows = list_any (λ (row : Row). bytes_eq name row.0) rows

-- with this mailbox behind the others, unless it is one of them
abbrev pub with_name : List ℕ → List Row → List Row
with_name name rows = if has name rows then rows else rows ++ (name, []) ∷ []

-- a mailbox is held from its first change on
abbrev pub held_mail : List Row → MailChange → List Row
held_mail rows m = told_mail m (with_name m.mailbox rows)

-- the mailboxes that these changes name
abbrev pub rows_of : List MailChange → List Row
rows_of changes = fold held_mail [] changes

-- the last changes of all mailboxes
abbrev pub last_changes : List Row → List MailChange
last_changes rows = flat_map (λ (row : Row). row.1) rows

-- ---- transfers (RFC 3515 section 2.4.5)

-- of each transfer the last step; none of one that is over
abbrev pub told_step : Progress → List Progress → List Progress
told_step p steps =
    let others : List Progress = filter (λ q. not (bytes_eq p.tag q.tag)) steps in
    if is_final p.code then others else others ++ p ∷ []

-- the last steps of other transfers than those with these tags
abbrev pub without : List (List ℕ) → List Progress → List Progress
without tags steps = filter (λ p. not (list_any (bytes_eq p.tag) tags)) steps

-- ---- a worker

-- how many events it handled since the journal began, how many of them were mails, which line was answered last; and what it was told
pub record Kept : Type 0 where
  pub events : ℕ
  pub mails : ℕ
  pub lines : ℕ
  pub boxes : List Row
  pub steps : List Progress

-- no line waits
abbrev pub kept_from : Told → Kept
kept_from t = record { events = t.events; mails = t.mails; lines = t.mails; boxes = rows_of t.mail; steps = t.progress }

-- what it was told, as its book says it
abbrev pub told_of : Kept → Told
told_of k = record { events = k.events; mails = k.mails; mail = last_changes k.boxes; progress = k.steps }

-- the tags of the transfers of which it has a last step
abbrev pub transfers : Kept → List (List ℕ)
transfers k = map (λ (p : Progress). p.tag) k.steps

-- Nobody watches the transfers with these tags any more: their last steps are forgotten.
abbrev pub forgotten : List (List ℕ) → Kept → Kept
forgotten tags k = record k { steps = without tags k.steps }

-- each line that was answered is handled
abbrev pub caught_up : Kept → Kept
caught_up k = record k { lines = k.mails }

abbrev pub counted : Kept → Kept
counted k = record k { events = k.events + 1 }

-- one event more is handled
abbrev pub told_event : Event → Kept → Kept
told_event (Comes source request) k = counted k
told_event (Reply response) k = counted k
told_event (Mail m) k = record k { events = k.events + 1; mails = k.mails + 1; boxes = told_mail m k.boxes }
told_event (Goes p) k = record k { events = k.events + 1; steps = told_step p k.steps }
told_event (Tick second) k = counted k
told_event Shut k = counted k
