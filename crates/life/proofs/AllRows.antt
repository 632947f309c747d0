-- An event with no birth: one rule for all rows.
use Rattle.std.proofs.Common.{◌≡◌, ℕ, ◌+◌, ◌<◌, ◌≤◌, ◌^◌, List, [], ◌∷◌, Option, Some, None, Bool, true, false, refl, sym, ◌∙◌, ap, arith}
use Rattle.std.specs.Prelude.{if◌then◌else◌, bytes_eq, option_and_then}
use Rattle.life.proofs.Texts.{Bytes, bytes_not}
use Rattle.notifier_model.specs.Start.{Start, tag_of}
use Rattle.notifier_model.specs.declared.event.Event.{Event}
use Rattle.notifier_model.specs.declared.row.Row.{Row}
use Rattle.notifier_model.specs.Rows.{Turned, stays}
use Rattle.notifier_model.specs.Out.{notifications}
use Rattle.life.specs.Life.{Life, is_gone}
use Rattle.life.specs.Lives.{lived, life, births, birth_at, befalls, befell}
use Rattle.life.specs.Sentences.{or_before}
use Rattle.life.specs.Notices.{notices_at}
use Rattle.life.proofs.TagTexts.{tags_apart}
use Rattle.life.proofs.Rows.{row_of, live_row, rows_to, left, said, left_of, said_of, left-rows_to, said-rows_to}
use Rattle.life.proofs.NextLives.{befell-none, life-next, births-of_none, births_few, no_life, Ranges}
use Rattle.life.proofs.Turns.{Follows}

-- what a rule does to the row of a living l is what befalls it
abbrev pub TurnsInto : Start → ℕ → List Event → Turned → Life → Option Life → Type 0
TurnsInto start s es told l None = told ≡ stays (row_of start s l)
TurnsInto start s es told l (Some m) = Follows start s es told m

pub record Both (start : Start) (s : ℕ) (es : List Event) (rule : Row → Turned) (before befallen : Option Life) : Type 0 where
  pub row : left_of rule (live_row start s before) ≡ live_row start s (or_before befallen before)
  pub own : notifications (tag_of start.place s) (said_of rule (live_row start s before)) ≡ notices_at start es befallen
  pub others : (tag : Bytes) → bytes_eq (tag_of start.place s) tag ≡ false → notifications tag (said_of rule (live_row start s before)) ≡ []

-- what holds of a rule at each living one
abbrev pub Rules : Start → List Event → Event → (Row → Turned) → Type 0
Rules start past e rule = (s : ℕ) (l : Life) → life start past s ≡ Some l → is_gone start.place.limits l ≡ false → TurnsInto start s (e ∷ past) (rule (row_of start s l)) l (lived start s past e l)

one_row : (start : Start) (s : ℕ) (past : List Event) (e : Event) (rule : Row → Turned) (o : Option Life) → ((l : Life) → o ≡ Some l → is_gone start.place.limits l ≡ false → TurnsInto start s (e ∷ past) (rule (row_of start s l)) l (lived start s past e l)) → Both start s (e ∷ past) rule o (option_and_then (befalls start s past e) o)
unfolding live_row left_of said_of befalls notices_at stays notifications
one_row start s past e rule None h = record { row = refl; own = refl; others = λ tag f. refl }
one_row start s past e rule (Some l) h = by_gone (is_gone start.place.limits l) refl
  where
    by_lived : is_gone start.place.limits l ≡ false → (o : Option Life) → TurnsInto start s (e ∷ past) (rule (row_of start s l)) l o → Both start s (e ∷ past) rule (Some l) o
    by_lived alive None t = record { row = rw (alive, t) refl; own = rw (alive, t) refl; others = λ tag f. rw (alive, t) refl }
    by_lived alive (Some m) t = record { row = rw alive t.row; own = rw alive t.own; others = λ tag f. rw alive (t.others tag f) }

    by_gone : (d : Bool) → is_gone start.place.limits l ≡ d → Both start s (e ∷ past) rule (Some l) (if d then None else lived start s past e l)
    by_gone true g = record { row = rw g refl; own = rw g refl; others = λ tag f. rw g refl }
    by_gone false g = by_lived g (lived start s past e l) (h l refl g)

each_row : (start : Start) (past : List Event) (e : Event) (rule : Row → Turned) → birth_at start past e ≡ None → Rules start past e rule → (s : ℕ) → Both start s (e ∷ past) rule (life start past s) (befell start past e s)
each_row start past e rule none h s = rw (befell-none start past e s none) (one_row start s past e rule (life start past s) (h s))

-- tags of serials that may be are apart
pub apart : (start : Start) (s k : ℕ) → s < 2 ^ 64 → k < 2 ^ 64 → (s ≡ k → ⊥) → bytes_eq (tag_of start.place s) (tag_of start.place k) ≡ false
apart start s k p q differ = bytes_not (tag_of start.place s) (tag_of start.place k) (λ e. differ (tags_apart start s k p q e))

pub born_small : (start : Start) (past : List Event) (s : ℕ) → Ranges start.place.limits → s ≤ births start past + 1 → s < 2 ^ 64
born_small start past s ok le = let few = births_few start past in let small = ok.few_serials in omega arith

-- a rule that does to each row what befalls the life
pub record Ruled (start : Start) (past : List Event) (e : Event) (rule : Row → Turned) : Type 0 where
  pub rows : left rule (rows_to start (life start past) (births start past)) ≡ rows_to start (life start (e ∷ past)) (births start (e ∷ past))
  pub notices : (k : ℕ) → k < 2 ^ 64 → notifications (tag_of start.place k) (said rule (rows_to start (life start past) (births start past))) ≡ notices_at start (e ∷ past) (befell start past e k)

pub by_rule : (start : Start) (past : List Event) (e : Event) (rule : Row → Turned) → Ranges start.place.limits → birth_at start past e ≡ None → Rules start past e rule → Ruled start past e rule
by_rule start past e rule ok none h = record {
  rows = rw (births-of_none start past e none) (left-rows_to start rule (life start past) (life start (e ∷ past)) (births start past) (λ s le. (each_row start past e rule none h s).row ∙ ap (live_row start s) (sym (life-next start past e s))));
  notices = λ k small. said-rows_to start rule (life start past) (tag_of start.place k) k (births start past)
      (λ s le differ. (each_row start past e rule none h s).others (tag_of start.place k) (apart start s k (born_small start past s ok (omega arith)) small differ))
      (no_life start past) ∙ (each_row start past e rule none h k).own;
}

pub left-one : (start : Start) (past : List Event) (e : Event) (rule : Row → Turned) → birth_at start past e ≡ None → Rules start past e rule → (s : ℕ) → left_of rule (live_row start s (life start past s)) ≡ live_row start s (life start (e ∷ past) s)
left-one start past e rule none h s = (each_row start past e rule none h s).row ∙ ap (live_row start s) (sym (life-next start past e s))
