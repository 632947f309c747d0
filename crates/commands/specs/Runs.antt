-- Which mailboxes that lines made go from one run of a service to the next, and in which order.
--
-- No file of the operator names such a mailbox. It stands in the journal: in what each worker was told. Pages of a DUMP that began in one run go
-- on in the next one, so the order of its mailboxes goes on too.
use Rattle.std.specs.Prelude.{◌≡◌, ℕ, true, not, List, [], ◌∷◌, ◌++◌, Option, Some, None, filter, map, if◌then◌else◌}
use Rattle.std.specs.List.{flat_map, zip}
use Rattle.control_lines.specs.Told.{is_held}
use Rattle.package.specs.declared.change.Change.{Change}
use Rattle.package.specs.declared.change.Change.TheVariants as change
use Rattle.package.specs.Values.{MailChange}
use Rattle.notifier_model.specs.declared.event.Event.{Event}
use Rattle.notifier_model.specs.declared.event.Event.TheVariants as event
use Rattle.journal.specs.declared.file.Account.{Account}
use Rattle.journal.specs.declared.header.Header.{Header}
use Rattle.journal.specs.declared.record.Told.{Told}
use Rattle.keeper.specs.Told.{Kept, told_of}
use Rattle.keeper.specs.Keeping.{State}
use Rattle.keeper.specs.Keeping as keeping
use Rattle.resumption.specs.declared.found.Found.{Found}
use Rattle.resumption.specs.Accounts.{events_since}
use Rattle.resumption.specs.Told.{held_names, mails}
use Rattle.commands.specs.declared.journal_opened.Opened.{Opened}
use Rattle.plans.specs.declared.plan.Plan.{Plan}
use Rattle.plans.specs.Plans.{IsPlan, adopted, mailboxes_told}

-- ---- of which mailboxes lines told (RFC 3842 section 5.2)

-- the change of a mailbox that an event tells of, if it tells of one
abbrev pub mail_told : Event → List Change
mail_told (event.Request source request) = []
mail_told (event.Reply response) = []
mail_told (event.Mail m) = change.Mail m ∷ []
mail_told (event.Progress step) = []
mail_told (event.Tick second) = []
mail_told event.Shut = []

-- what lines told a worker since its book: what it handled, and then what waits for it
abbrev pub told_since : Account → List Change
told_since a = flat_map mail_told (events_since a)

-- the mailbox that a change is of, if it is of one
abbrev pub mailbox_named : Change → List (List ℕ)
mailbox_named (change.Mail m) = m.mailbox ∷ []
mailbox_named (change.Begin tag) = []
mailbox_named (change.Step step) = []
mailbox_named (change.Forget tag) = []

-- the mailboxes of which lines told a worker, before its book and since
abbrev pub account_names : Account → List (List ℕ)
account_names a = flat_map mailbox_named (mails a.book.told.mail ++ told_since a)

-- those of all workers, one as often as it was told
abbrev pub names_told : List Account → List (List ℕ)
names_told accounts = flat_map account_names accounts

-- what the journal tells of each worker, where a service goes on from one
abbrev pub accounts_found : Option (ℕ × Found) → List Account
accounts_found None = []
accounts_found (Some found) = found.1.generation.accounts

abbrev pub journal_accounts : Option Opened → List Account
journal_accounts None = []
journal_accounts (Some opened) = accounts_found opened.found

-- ---- what was told of mailboxes that no worker has yet

-- the change, if it is of a mailbox that isn't among these
abbrev pub unheld : List (List ℕ) → Change → List MailChange
unheld held (change.Mail m) = if is_held held m.mailbox then [] else m ∷ []
unheld held (change.Begin tag) = []
unheld held (change.Step step) = []
unheld held (change.Forget tag) = []

-- what lines told a worker since its book of mailboxes that it didn't hold
abbrev pub unheld_since : Account → List MailChange
unheld_since a = flat_map (unheld (held_names a.book.told.mail)) (told_since a)

-- the same of each worker, where lines make mailboxes
abbrev pub all_unheld : Plan → Found → List (List MailChange)
all_unheld plan found = if plan.choices.any_mailbox then map unheld_since found.generation.accounts else []

-- what a worker was told, and these changes behind it
abbrev pub told_also : Told → List MailChange → Told
told_also told changes = record told { mail = told.mail ++ changes }

-- the same of each worker with changes of its own
abbrev pub all_told_also : List (List MailChange) → List Kept → List Told
all_told_also unheld kept = map (λ (n : List MailChange × Kept). told_also (told_of n.1) n.0) (zip unheld kept)

-- what is kept of that; as it was, where lines make no mailboxes
abbrev pub kept_also : List (List MailChange) → State → State
kept_also [] keeper = keeper
kept_also (changes ∷ unheld) keeper = keeping.first (all_told_also (changes ∷ unheld) keeper.workers)

-- ---- in which order

-- first those of the run before that are still there, in its order, and then those that are new, in theirs
abbrev pub in_former_order : List (List ℕ) → List (List ℕ) → List (List ℕ)
in_former_order former names = filter (is_held names) former ++ filter (λ name. not (is_held former name)) names

-- each name is among them that was told, and no other: pages of a DUMP leave out nobody
abbrev pub NobodyIsLeftOutLaw : Type 0
NobodyIsLeftOutLaw = (former names : List (List ℕ)) (name : List ℕ) → is_held (in_former_order former names) name ≡ is_held names name

-- in the order of the run before, if there was one
abbrev pub in_order : Option (List (List ℕ)) → List (List ℕ) → List (List ℕ)
in_order None names = names
in_order (Some former) names = in_former_order former names

-- those of which the journal tells, where lines make mailboxes, in the order of the run before
abbrev pub told_mailboxes : Plan → Option Opened → Option (List (List ℕ)) → List (List ℕ)
told_mailboxes plan opened former = if plan.choices.any_mailbox then in_order former (names_told (journal_accounts opened)) else []

-- ---- what a run takes over

-- what the journal begins with that is gone on from, where a service goes on from one
abbrev pub header_there : Option (ℕ × Found) → Option Header
header_there None = None
header_there (Some found) = Some found.1.generation.header

abbrev pub header_found : Option Opened → Option Header
header_found None = None
header_found (Some opened) = header_there opened.found

-- the plan with the seed and the number of workers of this journal, where the words ask for none
abbrev pub adopted_from : Option Header → Plan → Plan
adopted_from None plan = plan
adopted_from (Some header) plan = adopted header.seed header.workers plan

-- The plan of a run: this one, with the mailboxes of which lines told, and with what it adopts from the journal
pub record IsRunOf (plan : Plan) (opened : Option Opened) (former : Option (List (List ℕ))) (run : Plan) : Type 0 where
  pub mailboxes : run.mailboxes.items ≡ mailboxes_told plan (told_mailboxes plan opened former)
  pub others : run ≡ adopted_from (header_found opened) (record plan { mailboxes = run.mailboxes })

-- of a plan that these words ask for
pub record IsRunBy (words : List (List ℕ)) (opened : Option Opened) (former : Option (List (List ℕ))) (run : Plan) : Type 0 where
  pub plan : Plan
  pub is_plan : IsPlan words plan
  pub is_run : IsRunOf plan opened former run

-- ---- what a run leaves to the next

-- where lines make mailboxes, a run begins with these of its plan
pub record AreFirst (plan : Plan) (first : List (List ℕ)) : Type 0 where
  pub made : plan.choices.any_mailbox ≡ true
  pub planned : first ≡ plan.mailboxes.items

-- at its end it has those with which it began, and behind them those that lines made in it. Which they are no contract can tell
pub record AreAll (first : Option (List (List ℕ))) (all : List (List ℕ)) : Type 0 where
  pub began : List (List ℕ)
  pub is_first : first ≡ Some began
  pub made : List (List ℕ)
  pub behind : all ≡ began ++ made
