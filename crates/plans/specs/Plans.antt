-- What the words behind `notifyd serve` ask for, and what its workers start from.
use Rattle.std.specs.Prelude.{◌≡◌, ◌≢◌, ℕ, min, max, nat_lt, Bool, true, false, not, ◌&&◌, List, [], ◌∷◌, ◌++◌, length, Option, Some, None, if◌then◌else◌}
use Rattle.std.specs.List.{All, fold}
use Rattle.control_lines.specs.Told.{is_held}
use Rattle.sip_text.specs.declared.address.Addr.{Addr}
use Rattle.notifier_model.specs.Limits.{Limits, AreLimits, IsWithin}
use Rattle.notifier_model.specs.declared.place.Setup.{Setup}
use Rattle.package.specs.declared.change.Change.{Change}
use Rattle.arguments.specs.declared.choices.Choices.{Choices}
use Rattle.arguments.specs.declared.choices.Numbers.{Numbers}
use Rattle.arguments.specs.declared.setting.Setting.{Setting}
use Rattle.admission.specs.declared.judging.Admission.{Admission}
use Rattle.arguments.specs.declared.setting.Setting.TheVariants as setting
use Rattle.admission.specs.declared.network.Network.{Network}
use Rattle.arguments.specs.Choices.{choices_of, state_of, journal_folder, control_networks, feed_networks, further_mailboxes}
use Rattle.plans.specs.Lines.{IsTaken}
use Rattle.plans.specs.State.{IsState}
use Rattle.plans.specs.Heard.{IsAdmission, HasFurther}
use Rattle.arguments.specs.Settings.{IsMailbox, AreSettings}
use Rattle.arguments.specs.Reading.{is_mailbox}
use Rattle.arguments.specs.MailboxFile as file
use Rattle.plans.specs.declared.plan.Plan.{Plan}

-- ---- mailboxes

-- the setting names these mailboxes: those that a file names no contract can tell
abbrev pub Names : Setting → List (List ℕ) → Type 0
Names (setting.Address place addr) names = names ≡ []
Names (setting.Number bound n) names = names ≡ []
Names (setting.MailboxFile path) names = All IsMailbox names
Names (setting.StateFile path) names = names ≡ []
Names (setting.JournalFolder path) names = names ≡ []
Names (setting.Sync seconds) names = names ≡ []
Names (setting.PasswordFile path) names = names ≡ []
Names (setting.Watch user mailbox) names = names ≡ []
Names (setting.Rate rate) names = names ≡ []
Names (setting.Guesses guesses) names = names ≡ []
Names (setting.Allow network) names = names ≡ []
Names (setting.ControlAllow network) names = names ≡ []
Names (setting.FeedFrom network) names = names ≡ []
Names (setting.Seed seed) names = names ≡ []
Names (setting.Switch switch) names = names ≡ []
Names (setting.Mailbox name) names = names ≡ name ∷ []

-- the mailboxes with those that one line more of a file names
pub record AddsNames (line : List ℕ) (old new : List (List ℕ)) : Type 0 where
  pub more : List (List ℕ)
  pub names : file.Names line more
  pub added : new ≡ old ++ more

-- just the mailboxes that the lines name which a reader gives, in order
abbrev pub AreMailboxesOf : Option (List ℕ) → List (List ℕ) → Type 0
AreMailboxesOf given names = IsTaken (λ old line new. AddsNames line old new) given [] names

-- the settings name these, one behind the other
abbrev pub AreNamed : List Setting → List (List ℕ) → Type 0
AreNamed [] names = names ≡ []
AreNamed (s ∷ settings) names = (front rest : List (List ℕ)) × (names ≡ front ++ rest) × Names s front × AreNamed settings rest

-- with this name behind the others, unless it is one of them
abbrev pub with_name : List (List ℕ) → List ℕ → List (List ℕ)
with_name names name = if is_held names name then names else names ++ name ∷ []

-- these names, each once, where it comes first
abbrev pub each_once : List (List ℕ) → List (List ℕ)
each_once names = fold with_name [] names

-- ---- mailboxes of which lines told

-- a name of which a line told is added to these: a file of mailboxes may hold it, there are fewer than so many, and it isn't there yet
abbrev pub is_further : ℕ → List (List ℕ) → List ℕ → Bool
is_further most names name = is_mailbox name && (nat_lt (length names) most && not (is_held names name))

abbrev pub with_one_told : ℕ → List (List ℕ) → List ℕ → List (List ℕ)
with_one_told most names name = if is_further most names name then names ++ name ∷ [] else names

-- these names, and behind them those of which lines told, in their order
abbrev pub with_told : ℕ → List (List ℕ) → List (List ℕ) → List (List ℕ)
with_told most names told = fold (with_one_told most) names told

-- the mailboxes of a plan, where lines make some with those of which they told
abbrev pub mailboxes_told : Plan → List (List ℕ) → List (List ℕ)
mailboxes_told plan told =
    if plan.choices.any_mailbox then with_told plan.choices.numbers.max_mailboxes (each_once plan.mailboxes.items) told else plan.mailboxes.items

-- ---- numbers

abbrev pub limits_of : Numbers → Limits
limits_of n = record {
  min_time = n.min_time;
  max_time = n.max_time;
  default_time = n.default_time;
  refer_time = n.refer_time;
  max_cseq = n.max_cseq;
  table = n.table;
  serials = n.serials;
  kept = n.kept;
  inbox = n.inbox;
  outbox = n.outbox;
}

-- so many workers, where a number was asked for or none: then one a processor, or those of a journal
abbrev pub IsCount : Option ℕ → ℕ → Type 0
IsCount None n = IsWithin 1 256 n
IsCount (Some asked) n = IsWithin 1 256 n × (IsWithin 1 256 asked → n ≡ asked)

-- a seed that was asked for, or any: the system's randomness, or that of a journal
abbrev pub IsSeed : Option (List ℕ) → List ℕ → Type 0
IsSeed None seed = Unit {0}
IsSeed (Some asked) seed = seed ≡ asked

-- ---- all of it

-- where a service is reached: at the address that was named for it, or else at this one
abbrev pub reached : Option Addr → Addr → Addr
reached (Some contact) local = contact
reached None local = local

-- phones are told an address of it, not 0.0.0.0, which is each address of a machine
abbrev pub IsReached : Choices → Type 0
IsReached choices = (reached choices.contact choices.listen).ip ≢ 0 ∷ 0 ∷ 0 ∷ 0 ∷ []

-- the words choose this, and name these mailboxes
pub record AreRead (words : List (List ℕ)) (choices : Choices) (mailboxes : List (List ℕ)) : Type 0 where
  pub settings : List Setting
  pub are_settings : AreSettings words settings
  pub chosen : choices ≡ choices_of settings
  pub named : AreNamed settings mailboxes

-- the words name a file of changes with these, or none
pub record AreChanges (words : List (List ℕ)) (changes : List Change) : Type 0 where
  pub settings : List Setting
  pub are_settings : AreSettings words settings
  pub state : IsState (state_of settings) changes

-- the words say who is heard
pub record AreHeard (words : List (List ℕ)) (admission : Admission) : Type 0 where
  pub settings : List Setting
  pub are_settings : AreSettings words settings
  pub is_admission : IsAdmission settings admission

-- each further mailbox that the words let a user watch is one of these, unless lines make mailboxes
pub record HasWatched (words names : List (List ℕ)) : Type 0 where
  pub settings : List Setting
  pub are_settings : AreSettings words settings
  pub there : (choices_of settings).any_mailbox ≡ false → HasFurther names (further_mailboxes settings)

-- the words name these networks, whose control lines are heard
pub record AreOperators (words : List (List ℕ)) (networks : List Network) : Type 0 where
  pub settings : List Setting
  pub are_settings : AreSettings words settings
  pub are_networks : networks ≡ control_networks settings

-- the words name these networks, whose voicemail systems are heard
pub record AreFeeds (words : List (List ℕ)) (networks : List Network) : Type 0 where
  pub settings : List Setting
  pub are_settings : AreSettings words settings
  pub are_networks : networks ≡ feed_networks settings

-- the words name this folder of a journal, or none
pub record IsJournal (words : List (List ℕ)) (journal : Option (List ℕ)) : Type 0 where
  pub settings : List Setting
  pub are_settings : AreSettings words settings
  pub is_folder : journal ≡ journal_folder settings

-- lines told of these further mailboxes, where they make some: names that a file of mailboxes may hold. Which they are no contract can tell
pub record AreTold (choices : Choices) (told : List (List ℕ)) : Type 0 where
  pub none : choices.any_mailbox ≡ false → told ≡ []
  pub mailboxes : All IsMailbox told

-- there are some, unless lines make them
abbrev pub AreSome : Choices → List (List ℕ) → Type 0
AreSome choices mailboxes = choices.any_mailbox ≡ false → mailboxes ≢ []

-- what lines make a journal keeps
abbrev pub AreKept : Choices → Option (List ℕ) → Type 0
AreKept choices journal = choices.any_mailbox ≡ true → journal ≢ None

-- how many mailboxes there are at most where lines make some: 0, where none does
abbrev pub most_mailboxes : Choices → ℕ
most_mailboxes choices = if choices.any_mailbox then choices.numbers.max_mailboxes else 0

-- the words ask for this
pub record IsPlan (words : List (List ℕ)) (plan : Plan) : Type 0 where
  pub named : List (List ℕ)
  pub read : AreRead words plan.choices named
  pub told : List (List ℕ)
  pub are_told : AreTold plan.choices told
  -- the mailboxes of the words, and behind them those of which lines told
  pub once : plan.mailboxes.items ≡ each_once (named ++ told)
  pub changes : AreChanges words plan.changes.items
  pub heard : AreHeard words plan.admission
  pub watched : HasWatched words named
  pub operators : AreOperators words plan.operators.items
  pub feeds : AreFeeds words plan.feeds.items
  pub journal : IsJournal words plan.journal
  pub reached : IsReached plan.choices
  pub some : AreSome plan.choices plan.mailboxes.items
  pub kept : AreKept plan.choices plan.journal
  pub limits : plan.limits ≡ limits_of plan.choices.numbers
  pub within : AreLimits plan.limits
  pub seed : IsSeed plan.choices.seed plan.seed
  pub workers : IsCount plan.choices.numbers.workers plan.workers

-- ---- what a journal had, where the words ask for none

abbrev pub seed_or : Option (List ℕ) → List ℕ → List ℕ → List ℕ
seed_or None seed planned = seed
seed_or (Some asked) seed planned = planned

abbrev pub workers_or : Option ℕ → ℕ → ℕ → ℕ
workers_or None workers planned = min 256 (max 1 workers)
workers_or (Some asked) workers planned = planned

-- the plan with the seed and the number of workers that a journal had
abbrev pub adopted : List ℕ → ℕ → Plan → Plan
adopted seed workers plan = record plan {
  seed = seed_or plan.choices.seed seed plan.seed;
  workers = workers_or plan.choices.numbers.workers workers plan.workers;
}

-- what the desks of the workers stand on, where the socket is here
abbrev pub setup_of : Plan → Addr → Setup
setup_of plan local = record {
  limits = plan.limits;
  seed = plan.seed;
  me = reached plan.choices.contact local;
  stop = not plan.choices.keep_subscriptions;
}
