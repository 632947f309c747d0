-- The changes that lines tell.
use Rattle.std.proofs.Common.{◌≡◌, ◌≢◌, refl, Err, ℕ, ◌<◌, List, [], ◌∷◌, ◌++◌, Option, Some, None, subst, sym, arith}
use Rattle.std.specs.List.{All}
use Rattle.std.proofs.lemmas.List.Elements.{All-nil, All-push, All-append}
use Rattle.package.specs.declared.change.Change.{Change}
use Rattle.package.specs.declared.change.Change.TheVariants as change
use Rattle.scripts.specs.declared.script.Control.{Control}
use Rattle.scripts.specs.declared.script.Control.TheVariants as control
use Rattle.scripts.specs.declared.error.ScriptError.{ScriptError}
use Rattle.scripts.specs.declared.error.ScriptError.TheVariants as error
use Rattle.scripts.specs.Script.{IsControlLine, Answers}
use Rattle.arguments.specs.MailboxFile.{IsBlank}
use Rattle.plans.specs.State.{TellsChange, Tells, IsNoChange, listed, Adds, AreFromLines, IsState}

none_told : AreFromLines []
none_told = λ k d below. absurd (omega (arith, below))

listed_told : (line : List ℕ) (said : Option Change) → Tells line said → AreFromLines (listed said)
listed_told line None tells = none_told
listed_told line (Some c) tells = All-push (λ (x : Change). (l : List ℕ) × TellsChange l x) [] c none_told (line, tells)

-- with a line more
pub adds_told : (line : List ℕ) (old new : List Change) → AreFromLines old → Adds line old new → AreFromLines new
adds_told line old new told adds =
    subst AreFromLines (sym adds.added) (All-append (λ (x : Change). (l : List ℕ) × TellsChange l x) old (listed adds.said) told (listed_told line adds.said adds.tells))

-- a line that is refused tells no change, unless memory ran out
pub no_change : (line : List ℕ) (e : ScriptError) → ¬ (IsBlank line) → ((c : Control) → IsControlLine line c → Answers (λ (x : Control). x) (Err e) c)
    → e ≢ error.NoMemory → IsNoChange line
no_change line error.NoMemory full only other = absurd (other refl)
no_change line error.BadScript full only other = record { no_blank = full; no_mail = λ mail is. only (control.Change (change.Mail mail)) is }
no_change line error.Device full only other = record { no_blank = full; no_mail = λ mail is. only (control.Change (change.Mail mail)) is }

-- whatever file of changes is named, that nothing is told may be so of it
pub state_none : (path : Option (List ℕ)) → IsState path []
state_none None = refl
state_none (Some path) = All-nil (λ c. (line : List ℕ) × TellsChange line c)
