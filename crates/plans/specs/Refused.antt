-- Why words and files ask for no service, and the exit status of the program then.
--
--   status   cause
--   1        the words ask for no service
--   3        an address is in another form, or a file or randomness can't be had
--   4        memory was wanting
use Rattle.std.specs.Prelude.{◌≡◌, ◌⊎◌, ℕ, Bool, true, false, List, [], Option, Some, None, Contains, slice_get}
use Rattle.notifier_model.specs.Limits.{AreLimits}
use Rattle.digest.specs.declared.passwords.Passwords.{Passwords}
use Rattle.digest.specs.declared.passwords.PasswordsError.{PasswordsError}
use Rattle.digest.specs.Passwords.{IsWrong}
use Rattle.arguments.specs.declared.choices.Choices.{Choices}
use Rattle.arguments.specs.declared.error.OptionsError.{OptionsError}
use Rattle.arguments.specs.declared.error.OptionsError.TheVariants as wrong
use Rattle.arguments.specs.declared.flag.Flag.TheVariants as flag
use Rattle.arguments.specs.declared.setting.Setting.{Setting}
use Rattle.arguments.specs.declared.setting.Setting.TheVariants as setting
use Rattle.arguments.specs.MailboxFile.{IsNoLine}
use Rattle.arguments.specs.Choices.{choices_of, state_of, password_file, further_mailboxes}
use Rattle.arguments.specs.Settings.{AreSettings, AreWrong}
use Rattle.plans.specs.declared.error.PlanError.{PlanError}
use Rattle.plans.specs.declared.error.PlanError.TheVariants as error
use Rattle.plans.specs.Plans.{limits_of, IsReached, AreRead, IsJournal, AreNamed}
use Rattle.plans.specs.Ranges.{ranges, IsFirstOut}
use Rattle.plans.specs.State.{IsNoChange, IsFault}
use Rattle.plans.specs.Heard.{needs_passwords, AreUsers, is_user, has_mailbox}

-- an address in another form may be a host that can't be found
abbrev pub status_of_words : OptionsError → ℕ
status_of_words (wrong.Missing option) = 1
status_of_words (wrong.Bad (flag.Address which)) = 3
status_of_words (wrong.Bad (flag.Number bound)) = 1
status_of_words (wrong.Bad flag.MailboxFile) = 1
status_of_words (wrong.Bad flag.StateFile) = 1
status_of_words (wrong.Bad flag.JournalFolder) = 1
status_of_words (wrong.Bad flag.Sync) = 1
status_of_words (wrong.Bad flag.PasswordFile) = 1
status_of_words (wrong.Bad flag.Watch) = 1
status_of_words (wrong.Bad flag.Rate) = 1
status_of_words (wrong.Bad flag.Guesses) = 1
status_of_words (wrong.Bad flag.Allow) = 1
status_of_words (wrong.Bad flag.ControlAllow) = 1
status_of_words (wrong.Bad flag.FeedFrom) = 1
status_of_words (wrong.Bad flag.Seed) = 1
status_of_words (wrong.Unknown word) = 1
status_of_words (wrong.NoMailbox word) = 1
status_of_words (wrong.NoRange word) = 1
status_of_words wrong.NoMemory = 4

abbrev pub status_of_line : OptionsError → ℕ
status_of_line (wrong.Missing option) = 3
status_of_line (wrong.Bad option) = 3
status_of_line (wrong.Unknown word) = 3
status_of_line (wrong.NoMailbox word) = 3
status_of_line (wrong.NoRange word) = 3
status_of_line wrong.NoMemory = 4

abbrev pub status_of : PlanError → ℕ
status_of (error.Options e) = status_of_words e
status_of (error.Times r) = 1
status_of error.NoContact = 1
status_of error.NoMailbox = 1
status_of error.NoJournal = 1
status_of (error.File path) = 3
status_of (error.Line path line e) = status_of_line e
status_of (error.StateLine path line fault) = 3
status_of error.NoPasswords = 1
status_of (error.PasswordLine path e) = 3
status_of (error.NoUsers path) = 3
status_of (error.NoUser user) = 1
status_of (error.NoFurther mailbox) = 1
status_of error.System = 3
status_of error.NoMemory = 4

-- a cause that isn't in the words
abbrev pub IsOther : PlanError → Type 0
IsOther (error.Options e) = ⊥
IsOther (error.Times r) = ⊥
IsOther error.NoContact = ⊥
IsOther error.NoMailbox = ⊥
IsOther error.NoJournal = ⊥
IsOther (error.File path) = ⊥
IsOther (error.Line path line e) = ⊥
IsOther (error.StateLine path line fault) = ⊥
IsOther error.NoPasswords = ⊥
IsOther (error.PasswordLine path e) = ⊥
IsOther (error.NoUsers path) = ⊥
IsOther (error.NoUser user) = ⊥
IsOther (error.NoFurther mailbox) = ⊥
IsOther error.System = Unit {0}
IsOther error.NoMemory = Unit {0}

-- ---- files

-- the file at this path can't be read, or memory ran out
abbrev pub IsUnread : List ℕ → PlanError → Type 0
IsUnread path e = (e ≡ error.File path) ⊎ (e ≡ error.NoMemory)

-- ---- mailboxes

-- none is named and no line makes one, or lines are to make them and no journal keeps these
abbrev pub IsOfMailboxes : Choices → List (List ℕ) → Option (List ℕ) → PlanError → Type 0
IsOfMailboxes choices mailboxes journal e =
    ((e ≡ error.NoMailbox) × (choices.any_mailbox ≡ false) × (mailboxes ≡ []))
    ⊎ ((e ≡ error.NoJournal) × (choices.any_mailbox ≡ true) × (journal ≡ None))

-- ---- files of mailboxes

-- a line names no mailbox for this cause
abbrev pub IsOfLine : OptionsError → Type 0
IsOfLine e = (line : List ℕ) × IsNoLine line e

-- the file at this path can't be read, or a line of it, for this cause
abbrev pub IsOfFile : List ℕ → PlanError → Type 0
IsOfFile path (error.Options e) = ⊥
IsOfFile path (error.Times r) = ⊥
IsOfFile path error.NoContact = ⊥
IsOfFile path error.NoMailbox = ⊥
IsOfFile path error.NoJournal = ⊥
IsOfFile path (error.File named) = named ≡ path
IsOfFile path (error.Line named line e) = (named ≡ path) × IsOfLine e
IsOfFile path (error.StateLine named line fault) = ⊥
IsOfFile path error.NoPasswords = ⊥
IsOfFile path (error.PasswordLine named e) = ⊥
IsOfFile path (error.NoUsers named) = ⊥
IsOfFile path (error.NoUser user) = ⊥
IsOfFile path (error.NoFurther mailbox) = ⊥
IsOfFile path error.System = ⊥
IsOfFile path error.NoMemory = Unit {0}

-- the mailboxes of the setting can't be told for this cause
abbrev pub IsOfSetting : Setting → PlanError → Type 0
IsOfSetting (setting.Address which addr) e = e ≡ error.NoMemory
IsOfSetting (setting.Number bound n) e = e ≡ error.NoMemory
IsOfSetting (setting.MailboxFile path) e = IsOfFile path e
IsOfSetting (setting.StateFile path) e = e ≡ error.NoMemory
IsOfSetting (setting.JournalFolder path) e = e ≡ error.NoMemory
IsOfSetting (setting.Sync seconds) e = e ≡ error.NoMemory
IsOfSetting (setting.PasswordFile path) e = e ≡ error.NoMemory
IsOfSetting (setting.Watch user mailbox) e = e ≡ error.NoMemory
IsOfSetting (setting.Rate rate) e = e ≡ error.NoMemory
IsOfSetting (setting.Guesses guesses) e = e ≡ error.NoMemory
IsOfSetting (setting.Allow network) e = e ≡ error.NoMemory
IsOfSetting (setting.ControlAllow network) e = e ≡ error.NoMemory
IsOfSetting (setting.FeedFrom network) e = e ≡ error.NoMemory
IsOfSetting (setting.Seed seed) e = e ≡ error.NoMemory
IsOfSetting (setting.Switch switch) e = e ≡ error.NoMemory
IsOfSetting (setting.Mailbox name) e = e ≡ error.NoMemory

-- the mailboxes of one of the settings can't be told for this cause
abbrev pub IsOfOne : List Setting → PlanError → Type 0
IsOfOne settings e = (k : ℕ) × (s : Setting) × (slice_get settings k ≡ Some s) × IsOfSetting s e

-- the words name this file
abbrev pub NameFile : List (List ℕ) → List ℕ → Type 0
NameFile words path =
    (settings : List Setting) × (k : ℕ) × AreSettings words settings × (slice_get settings k ≡ Some (setting.MailboxFile path))

-- ---- the file of changes

-- the file of changes at this path can't be read, or a line of it, for this cause
abbrev pub IsOfState : List ℕ → PlanError → Type 0
IsOfState path (error.Options e) = ⊥
IsOfState path (error.Times r) = ⊥
IsOfState path error.NoContact = ⊥
IsOfState path error.NoMailbox = ⊥
IsOfState path error.NoJournal = ⊥
IsOfState path (error.File named) = named ≡ path
IsOfState path (error.Line named line e) = ⊥
IsOfState path (error.StateLine named number fault) = (named ≡ path) × (line : List ℕ) × IsNoChange line × IsFault line fault
IsOfState path error.NoPasswords = ⊥
IsOfState path (error.PasswordLine named e) = ⊥
IsOfState path (error.NoUsers named) = ⊥
IsOfState path (error.NoUser user) = ⊥
IsOfState path (error.NoFurther mailbox) = ⊥
IsOfState path error.System = ⊥
IsOfState path error.NoMemory = Unit {0}

-- the changes of the file that the settings name can't be told for this cause
abbrev pub IsOfNamedState : List Setting → PlanError → Type 0
IsOfNamedState settings e = (e ≡ error.NoMemory) ⊎ ((path : List ℕ) × (state_of settings ≡ Some path) × IsOfState path e)

-- the words name this file of changes
abbrev pub NameState : List (List ℕ) → List ℕ → Type 0
NameState words path = (settings : List Setting) × AreSettings words settings × (state_of settings ≡ Some path)

-- ---- the file of passwords, and who is heard

-- a line of passwords is refused for this cause
abbrev pub IsOfPassword : PasswordsError → Type 0
IsOfPassword e = (old : Passwords) × (line : List ℕ) × (number : ℕ) × IsWrong old line number e

-- the file of passwords at this path can't be read, or a line of it, or it has no user, for this cause
abbrev pub IsOfPasswords : List ℕ → PlanError → Type 0
IsOfPasswords path (error.Options e) = ⊥
IsOfPasswords path (error.Times r) = ⊥
IsOfPasswords path error.NoContact = ⊥
IsOfPasswords path error.NoMailbox = ⊥
IsOfPasswords path error.NoJournal = ⊥
IsOfPasswords path (error.File named) = named ≡ path
IsOfPasswords path (error.Line named line e) = ⊥
IsOfPasswords path (error.StateLine named line fault) = ⊥
IsOfPasswords path error.NoPasswords = ⊥
IsOfPasswords path (error.PasswordLine named e) = (named ≡ path) × IsOfPassword e
IsOfPasswords path (error.NoUsers named) = named ≡ path
IsOfPasswords path (error.NoUser user) = ⊥
IsOfPasswords path (error.NoFurther mailbox) = ⊥
IsOfPasswords path error.System = ⊥
IsOfPasswords path error.NoMemory = Unit {0}

-- no password of one of these users is known, or memory ran out
abbrev pub IsOfWatched : Passwords → List (List ℕ × List ℕ) → PlanError → Type 0
IsOfWatched passwords further e =
    (e ≡ error.NoMemory)
    ⊎ ((user mailbox : List ℕ) × Contains further (user, mailbox) × (is_user passwords user ≡ false) × (e ≡ error.NoUser user))

-- one of these mailboxes isn't the service's, or memory ran out
abbrev pub IsOfFurther : List (List ℕ) → List (List ℕ × List ℕ) → PlanError → Type 0
IsOfFurther mailboxes further e =
    (e ≡ error.NoMemory)
    ⊎ ((user mailbox : List ℕ) × Contains further (user, mailbox) × (has_mailbox mailboxes mailbox ≡ false) × (e ≡ error.NoFurther mailbox))

-- passwords are spoken of, and no file of them is named
abbrev pub HaveNoPasswords : List Setting → Type 0
HaveNoPasswords settings =
    (password_file settings ≡ None) × (needs_passwords (choices_of settings) (further_mailboxes settings) ≡ true)

-- who is heard can't be told for this cause
abbrev pub IsOfAdmission : List Setting → PlanError → Type 0
IsOfAdmission settings e =
    (e ≡ error.System) ⊎ (e ≡ error.NoMemory) ⊎ ((e ≡ error.NoPasswords) × HaveNoPasswords settings)
    ⊎ ((passwords : Passwords) × AreUsers passwords × IsOfWatched passwords (further_mailboxes settings) e)
    ⊎ ((path : List ℕ) × (password_file settings ≡ Some path) × IsOfPasswords path e)

-- the words name this file of passwords
abbrev pub NamePasswords : List (List ℕ) → List ℕ → Type 0
NamePasswords words path = (settings : List Setting) × AreSettings words settings × (password_file settings ≡ Some path)

-- the words name this user with a further mailbox, and the users of a file are known without him
pub record NameUser (words : List (List ℕ)) (user : List ℕ) : Type 0 where
  pub settings : List Setting
  pub are_settings : AreSettings words settings
  pub mailbox : List ℕ
  pub named : Contains (further_mailboxes settings) (user, mailbox)
  pub passwords : Passwords
  pub are_users : AreUsers passwords
  pub unknown : is_user passwords user ≡ false

-- the words let a user watch this further mailbox, name others, and no line makes it
pub record NameFurther (words : List (List ℕ)) (mailbox : List ℕ) : Type 0 where
  pub settings : List Setting
  pub are_settings : AreSettings words settings
  pub user : List ℕ
  pub named : Contains (further_mailboxes settings) (user, mailbox)
  pub made : (choices_of settings).any_mailbox ≡ false
  pub mailboxes : List (List ℕ)
  pub are_mailboxes : AreNamed settings mailboxes
  pub missing : has_mailbox mailboxes mailbox ≡ false

-- ---- all of it

-- the words ask for no service for this cause. What stands in a file, and of the system and memory, no contract can tell
abbrev pub IsRefusal : List (List ℕ) → PlanError → Type 0
IsRefusal words (error.Options e) = AreWrong words e
IsRefusal words (error.Times r) =
    (choices : Choices) × (names : List (List ℕ)) × AreRead words choices names × IsFirstOut (ranges choices.numbers) r
    × ¬ (AreLimits (limits_of choices.numbers))
IsRefusal words error.NoContact = (choices : Choices) × (names : List (List ℕ)) × AreRead words choices names × ¬ (IsReached choices)
IsRefusal words error.NoMailbox = (choices : Choices) × AreRead words choices [] × (choices.any_mailbox ≡ false)
IsRefusal words error.NoJournal =
    (choices : Choices) × (names : List (List ℕ)) × AreRead words choices names × (choices.any_mailbox ≡ true) × IsJournal words None
IsRefusal words (error.File path) = NameFile words path ⊎ NameState words path ⊎ NamePasswords words path
IsRefusal words (error.Line path line e) = NameFile words path × IsOfLine e
IsRefusal words (error.StateLine path number fault) = NameState words path × (line : List ℕ) × IsNoChange line × IsFault line fault
IsRefusal words error.NoPasswords = (settings : List Setting) × AreSettings words settings × HaveNoPasswords settings
IsRefusal words (error.PasswordLine path e) = NamePasswords words path × IsOfPassword e
IsRefusal words (error.NoUsers path) = NamePasswords words path
IsRefusal words (error.NoUser user) = NameUser words user
IsRefusal words (error.NoFurther mailbox) = NameFurther words mailbox
IsRefusal words error.System = Unit {0}
IsRefusal words error.NoMemory = Unit {0}
