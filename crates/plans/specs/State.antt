-- A file of changes that are done before a service hears anything, line by line.
--
--   file = *(line LF) [line]
--   line = "" / "#" text / MAIL line      ; as in a script
use Rattle.std.specs.Prelude.{◌≡◌, ◌≢◌, ◌<◌, ◌^◌, ◌⊎◌, ℕ, List, [], ◌∷◌, ◌++◌, Option, Some, None, codes, decimal}
use Rattle.std.specs.List.{All}
use Rattle.std.specs.Str.{byte}
use Rattle.package.specs.declared.change.Change.{Change}
use Rattle.package.specs.declared.change.Change.TheVariants as change
use Rattle.package.specs.Values.{MailChange}
use Rattle.scripts.specs.declared.script.Control.TheVariants as control
use Rattle.scripts.specs.Script.{IsMail, IsControlLine, mail_text}
use Rattle.arguments.specs.MailboxFile.{IsBlank}
use Rattle.plans.specs.declared.error.StateFault.{StateFault}
use Rattle.plans.specs.declared.error.StateFault.TheVariants as fault

-- the line tells this change
abbrev pub TellsChange : List ℕ → Change → Type 0
TellsChange line c = (mail : MailChange) × IsControlLine line (control.Change c) × (c ≡ change.Mail mail)

-- the line tells this, or nothing
abbrev pub Tells : List ℕ → Option Change → Type 0
Tells line None = IsBlank line
Tells line (Some c) = TellsChange line c

-- the line is none of such a file
pub record IsNoChange (line : List ℕ) : Type 0 where
  pub no_blank : ¬ (IsBlank line)
  pub no_mail : (mail : MailChange) → ¬ (IsControlLine line (control.Change (change.Mail mail)))

-- no byte of the text is a space
abbrev pub HasNoSpace : List ℕ → Type 0
HasNoSpace text = All (λ octet. octet ≢ byte " ") text

-- the line ends in these two counts
pub record EndsInCounts (line front : List ℕ) (urgent_new urgent_old : ℕ) : Type 0 where
  pub text : line ≡ front ++ (codes " " ++ (decimal urgent_new ++ (codes " " ++ decimal urgent_old)))
  pub few_new : urgent_new < 2 ^ 32
  pub few_old : urgent_old < 2 ^ 32

-- what a MAIL line tells that begins so and has two zeros behind it: none of it is urgent
pub record IsCalm (front : List ℕ) (mail : MailChange) : Type 0 where
  pub text : mail_text mail ≡ front ++ codes " 0 0"
  pub told : IsMail mail
  pub no_new : mail.counts.urgent_new ≡ 0
  pub no_old : mail.counts.urgent_old ≡ 0

-- the mail, were none of it urgent
abbrev pub calmed : MailChange → MailChange
calmed mail = record mail { counts = record mail.counts { urgent_new = 0; urgent_old = 0 } }

-- the line would be a MAIL line, were none urgent, but more are urgent than there are
pub record IsTooUrgent (line : List ℕ) : Type 0 where
  pub mail : MailChange
  pub text : line ≡ mail_text mail
  pub calm : IsMail (calmed mail)
  pub few_new : mail.counts.urgent_new < 2 ^ 32
  pub few_old : mail.counts.urgent_old < 2 ^ 32
  pub more : (mail.counts.new_count < mail.counts.urgent_new) ⊎ (mail.counts.old_count < mail.counts.urgent_old)

-- why a line is none of such a file
abbrev pub IsFault : List ℕ → StateFault → Type 0
IsFault line fault.NoMail = ¬ (IsTooUrgent line)
IsFault line fault.TooUrgent = IsTooUrgent line

abbrev pub listed : Option Change → List Change
listed None = []
listed (Some c) = c ∷ []

-- the changes with what one line more tells
pub record Adds (line : List ℕ) (old new : List Change) : Type 0 where
  pub said : Option Change
  pub tells : Tells line said
  pub added : new ≡ old ++ listed said

-- each is told by a line
abbrev pub AreFromLines : List Change → Type 0
AreFromLines changes = All (λ c. (line : List ℕ) × TellsChange line c) changes

-- the changes of the file at this path, if there is one: what stands in it no contract can tell
abbrev pub IsState : Option (List ℕ) → List Change → Type 0
IsState None changes = changes ≡ []
IsState (Some path) changes = AreFromLines changes
