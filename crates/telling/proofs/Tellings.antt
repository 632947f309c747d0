-- Lines that are asked.
use Rattle.std.proofs.Common.{◌≡◌, ◌≢◌, ◌≤◌, ◌<◌, ◌⊎◌, inl, inr, ℕ, suc, Bool, true, false, List, length, Result, Err, refl, sym, subst, ◌∙◌, arith}
use Rattle.std.specs.Prelude.{◌↔◌, IsTrue, IfOk}
use Rattle.sip_text.specs.declared.error.NoMemory.{NoMemory}
use Rattle.package.specs.declared.change.Change.TheVariants as change
use Rattle.scripts.specs.declared.script.Control.{Control}
use Rattle.scripts.specs.declared.script.Control.TheVariants as control
use Rattle.scripts.specs.declared.error.ScriptError.{ScriptError}
use Rattle.scripts.specs.declared.error.ScriptError.TheVariants as error
use Rattle.scripts.specs.Script.{IsControlLine, Answers}
use Rattle.telling.specs.declared.hearing.Heard.{Heard}
use Rattle.telling.specs.declared.hearing.Heard.TheVariants as heard
use Rattle.telling.specs.declared.kinds.LineKind.{LineKind}
use Rattle.telling.specs.declared.end.Fate.{Fate}
use Rattle.telling.specs.declared.end.Fate.TheVariants as fate
use Rattle.telling.specs.Input.{Fits, Holds}
use Rattle.telling.specs.Kinds.{IsBlank, IsMailLine, IsProgressLine, IsTold, IsKind}
use Rattle.telling.specs.Taken.{IsTaken, Takes}
use Rattle.telling.specs.Hearing.{TellerSeen, Hears, Waits, IsAsked, IsGivenUp}

-- ---- which lines are not

-- one that is another control line than a change
pub other_untold : (p : Bool) (line : List ℕ) (c : Control) → IsControlLine line c → ((x y : Control) → IsControlLine line x → IsControlLine line y → x ≡ y)
    → ((b : _) → c ≢ control.Change b) → ¬ (IsTold p line)
other_untold p line c is one other told = by told.1 where
  by : IsMailLine line ⊎ ((p ≡ true) × IsProgressLine line) → ⊥
  by (inl mail) = other (change.Mail mail.0) (one c (control.Change (change.Mail mail.0)) is mail.1)
  by (inr step) = other (change.Step step.1.0) (one c (control.Change (change.Step step.1.0)) is step.1.1)

-- one that is none
pub none_untold : (p : Bool) (line : List ℕ) (e : ScriptError) → e ≢ error.NoMemory → ((c : Control) → IsControlLine line c → Answers (λ (x : Control). x) (Err e) c) → ¬ (IsTold p line)
none_untold p line error.NoMemory other only told = other refl
none_untold p line error.BadScript other only told = by told.1 where
  by : IsMailLine line ⊎ ((p ≡ true) × IsProgressLine line) → ⊥
  by (inl mail) = only (control.Change (change.Mail mail.0)) mail.1
  by (inr step) = only (control.Change (change.Step step.1.0)) step.1.1
none_untold p line error.Device other only told = by told.1 where
  by : IsMailLine line ⊎ ((p ≡ true) × IsProgressLine line) → ⊥
  by (inl mail) = only (control.Change (change.Mail mail.0)) mail.1
  by (inr step) = only (control.Change (change.Step step.1.0)) step.1.1

-- ---- what is kept of a line

-- a test that failed
pub never : (b : Bool) (P : Type 0) → IsTrue b ↔ P → b ≡ false → ¬ P
never b P same is holds = absurd (clash (sym is ∙ same.1 holds)) where
  clash : false ≡ true → ⊥
  clash e = absurd cc

-- a line that is kept whole is of the kind of what is kept
pub kind_whole : (p : Bool) (whole octets : List ℕ) (cut : Bool) (r : Result LineKind NoMemory) → cut ≡ false
    → (Fits octets → ¬ (IsBlank octets) → IfOk r (IsKind p octets)) → ¬ (IsBlank octets) → Holds whole octets cut → IfOk r (IsKind p whole)
kind_whole p whole octets true r is kind full holds = absurd cc
kind_whole p whole octets false r is kind full holds =
    subst (λ l. IfOk r (IsKind p l)) holds.0 (kind (subst Fits (sym holds.0) holds.1) full)

-- a line that is asked is kept whole
pub told_octets : (p : Bool) (whole octets : List ℕ) (cut : Bool) → IsTold p whole → Holds whole octets cut → octets ≡ whole
told_octets p whole octets false told holds = holds.0
told_octets p whole octets true told holds = absurd (over (length whole) told.0 holds) where
  over : (n : ℕ) → n ≤ 65489 → 65489 < n → ⊥
  over n few many = omega arith

pub told_takes : (p : Bool) (line : List ℕ) (f : Fate) (old new : TellerSeen) → IsTold p line → IsTaken line f old new → Takes p line f old new
told_takes p line fate.Blank old new told taken = absurd taken
told_takes p line fate.Untold old new told taken = absurd taken
told_takes p line (fate.Asked came) old new told taken = (told, taken)
told_takes p line fate.NoSocket old new told taken = (told, taken)
told_takes p line fate.NoMemory old new told taken = taken

-- ---- asked again and again

abbrev pub Waited : List ℕ → TellerSeen → TellerSeen → Type 0
Waited line old new = (times : ℕ) × Waits times line old new

pub not_yet : (line : List ℕ) (old : TellerSeen) → Waited line old old
not_yet line old = (0, refl)

pub once_more : (line : List ℕ) (old between new : TellerSeen) → Waited line old between → Hears line heard.Full between new → Waited line old new
once_more line old between new w h = (suc w.0, (between, w.1, h))

pub at_last : (line : List ℕ) (came : Heard) (old between new : TellerSeen) → Waited line old between → Hears line came between new → came ≢ heard.Full → IsAsked line came old new
at_last line came old between new w h other = record { times = w.0; between = between; waits = w.1; hears = h; last = other }

pub given_up : (line : List ℕ) (old between new : TellerSeen) → Waited line old between → new ≡ between → IsGivenUp line old new
given_up line old between new w same = (w.0, subst (Waits w.0 line old) (sym same) w.1)
