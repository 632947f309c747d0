-- Why words and files ask for no service.
use Rattle.std.proofs.Common.{◌≡◌, Bool, true, false, refl, inl, inr, ⊎_elim, [], length, sym, subst}
use Rattle.std.proofs.lemmas.List.{nil_from_length}
use Rattle.std.specs.Prelude.{IfErr, Result, Ok, Err, Option, Some, None, ℕ, List, slice_get}
use Rattle.arguments.specs.declared.setting.Setting.{Setting}
use Rattle.arguments.specs.declared.setting.Setting.TheVariants as setting
use Rattle.arguments.specs.Settings.{AreSettings}
use Rattle.digest.specs.declared.passwords.Passwords.{Passwords}
use Rattle.arguments.specs.Choices.{choices_of, state_of, further_mailboxes}
use Rattle.arguments.specs.declared.choices.Choices.{Choices}
use Rattle.notifier_model.specs.Limits.{AreLimits}
use Rattle.plans.specs.declared.ranged.Ranged.{Ranged}
use Rattle.plans.specs.Ranges.{ranges, IsFirstOut}
use Rattle.plans.specs.Heard.{AreUsers}
use Rattle.plans.specs.Plans.{limits_of, AreRead, IsJournal, AreNamed}
use Rattle.plans.specs.declared.error.PlanError.{PlanError}
use Rattle.plans.specs.declared.error.PlanError.TheVariants as error
use Rattle.plans.specs.Refused.{IsOther, IsOfFile, IsOfState, IsOfNamedState, IsOfPasswords, IsOfWatched, IsOfFurther, IsOfAdmission, IsOfSetting, IsOfOne, IsOfMailboxes, NameFile, NameState, NamePasswords, IsRefusal}

pub other_is : (words : List (List ℕ)) (e : PlanError) → IsOther e → IsRefusal words e
other_is words (error.Options e) is = absurd is
other_is words (error.Times r) is = absurd is
other_is words error.NoContact is = absurd is
other_is words error.NoMailbox is = absurd is
other_is words error.NoJournal is = absurd is
other_is words (error.File path) is = absurd is
other_is words (error.Line path line e) is = absurd is
other_is words (error.StateLine path line fault) is = absurd is
other_is words error.NoPasswords is = absurd is
other_is words (error.PasswordLine path e) is = absurd is
other_is words (error.NoUsers path) is = absurd is
other_is words (error.NoUser user) is = absurd is
other_is words (error.NoFurther mailbox) is = absurd is
other_is words error.System is = tt
other_is words error.NoMemory is = tt

-- a number is out of its range
pub times_are : (words : List (List ℕ)) (choices : Choices) (names : List (List ℕ)) (e : PlanError) → AreRead words choices names
    → ((r : Ranged) × (e ≡ error.Times r) × IsFirstOut (ranges choices.numbers) r) → ¬ (AreLimits (limits_of choices.numbers)) → IsRefusal words e
times_are words choices names e read is none = subst (IsRefusal words) (sym is.1) (choices, names, read, is.2, none)

pub others_are : {T : Type 0} (words : List (List ℕ)) (r : Result T PlanError) → IfErr r IsOther → IfErr r (IsRefusal words)
others_are words (Ok x) is = is
others_are words (Err e) is = other_is words e is

memory_of_file : (path : List ℕ) (e : PlanError) → e ≡ error.NoMemory → IsOfFile path e
memory_of_file path e is = subst (IsOfFile path) (sym is) tt

pub memory_of_setting : (s : Setting) (e : PlanError) → e ≡ error.NoMemory → IsOfSetting s e
memory_of_setting (setting.Address which addr) e is = is
memory_of_setting (setting.Number bound n) e is = is
memory_of_setting (setting.MailboxFile path) e is = memory_of_file path e is
memory_of_setting (setting.StateFile path) e is = is
memory_of_setting (setting.JournalFolder path) e is = is
memory_of_setting (setting.Sync seconds) e is = is
memory_of_setting (setting.PasswordFile path) e is = is
memory_of_setting (setting.Watch user mailbox) e is = is
memory_of_setting (setting.Rate rate) e is = is
memory_of_setting (setting.Guesses guesses) e is = is
memory_of_setting (setting.Allow network) e is = is
memory_of_setting (setting.ControlAllow network) e is = is
memory_of_setting (setting.FeedFrom network) e is = is
memory_of_setting (setting.Seed seed) e is = is
memory_of_setting (setting.Switch switch) e is = is
memory_of_setting (setting.Mailbox name) e is = is

of_file_is : (words : List (List ℕ)) (path : List ℕ) (e : PlanError) → NameFile words path → IsOfFile path e → IsRefusal words e
of_file_is words path (error.Options e) names is = absurd is
of_file_is words path (error.Times r) names is = absurd is
of_file_is words path error.NoContact names is = absurd is
of_file_is words path error.NoMailbox names is = absurd is
of_file_is words path error.NoJournal names is = absurd is
of_file_is words path (error.File named) names is = inl (subst (NameFile words) (sym is) names)
of_file_is words path (error.Line named line e) names is = (subst (NameFile words) (sym is.0) names, is.1)
of_file_is words path (error.StateLine named line fault) names is = absurd is
of_file_is words path error.NoPasswords names is = absurd is
of_file_is words path (error.PasswordLine named e) names is = absurd is
of_file_is words path (error.NoUsers named) names is = absurd is
of_file_is words path (error.NoUser user) names is = absurd is
of_file_is words path (error.NoFurther mailbox) names is = absurd is
of_file_is words path error.System names is = absurd is
of_file_is words path error.NoMemory names is = tt

no_memory_is : (words : List (List ℕ)) (e : PlanError) → e ≡ error.NoMemory → IsRefusal words e
no_memory_is words e is = subst (IsRefusal words) (sym is) tt

of_setting_is : (words : List (List ℕ)) (settings : List Setting) (k : ℕ) (s : Setting) (e : PlanError) → AreSettings words settings → slice_get settings k ≡ Some s
    → IsOfSetting s e → IsRefusal words e
of_setting_is words settings k (setting.Address which addr) e are at is = no_memory_is words e is
of_setting_is words settings k (setting.Number bound n) e are at is = no_memory_is words e is
of_setting_is words settings k (setting.MailboxFile path) e are at is = of_file_is words path e (settings, k, are, at) is
of_setting_is words settings k (setting.StateFile path) e are at is = no_memory_is words e is
of_setting_is words settings k (setting.JournalFolder path) e are at is = no_memory_is words e is
of_setting_is words settings k (setting.Sync seconds) e are at is = no_memory_is words e is
of_setting_is words settings k (setting.PasswordFile path) e are at is = no_memory_is words e is
of_setting_is words settings k (setting.Watch user mailbox) e are at is = no_memory_is words e is
of_setting_is words settings k (setting.Rate rate) e are at is = no_memory_is words e is
of_setting_is words settings k (setting.Guesses guesses) e are at is = no_memory_is words e is
of_setting_is words settings k (setting.Allow network) e are at is = no_memory_is words e is
of_setting_is words settings k (setting.ControlAllow network) e are at is = no_memory_is words e is
of_setting_is words settings k (setting.FeedFrom network) e are at is = no_memory_is words e is
of_setting_is words settings k (setting.Seed seed) e are at is = no_memory_is words e is
of_setting_is words settings k (setting.Switch switch) e are at is = no_memory_is words e is
of_setting_is words settings k (setting.Mailbox name) e are at is = no_memory_is words e is

pub of_one_is : (words : List (List ℕ)) (settings : List Setting) (e : PlanError) → AreSettings words settings → IsOfOne settings e → IsRefusal words e
of_one_is words settings e are is = of_setting_is words settings is.0 is.1 e are is.2 is.3

of_path_is : (words : List (List ℕ)) (path : List ℕ) (e : PlanError) → NameState words path → IsOfState path e → IsRefusal words e
of_path_is words path (error.Options e) names is = absurd is
of_path_is words path (error.Times r) names is = absurd is
of_path_is words path error.NoContact names is = absurd is
of_path_is words path error.NoMailbox names is = absurd is
of_path_is words path error.NoJournal names is = absurd is
of_path_is words path (error.File named) names is = inr (inl (subst (NameState words) (sym is) names))
of_path_is words path (error.Line named line e) names is = absurd is
of_path_is words path (error.StateLine named number fault) names is = (subst (NameState words) (sym is.0) names, is.1, is.2, is.3)
of_path_is words path error.NoPasswords names is = absurd is
of_path_is words path (error.PasswordLine named e) names is = absurd is
of_path_is words path (error.NoUsers named) names is = absurd is
of_path_is words path (error.NoUser user) names is = absurd is
of_path_is words path (error.NoFurther mailbox) names is = absurd is
of_path_is words path error.System names is = absurd is
of_path_is words path error.NoMemory names is = tt

pub of_state_is : (words : List (List ℕ)) (settings : List Setting) (e : PlanError) → AreSettings words settings → IsOfNamedState settings e → IsRefusal words e
of_state_is words settings e are (inl none) = no_memory_is words e none
of_state_is words settings e are (inr is) = of_path_is words is.0 e (settings, are, is.1) is.2

of_users_is : (words : List (List ℕ)) (path : List ℕ) (e : PlanError) → NamePasswords words path → IsOfPasswords path e → IsRefusal words e
of_users_is words path (error.Options e) names is = absurd is
of_users_is words path (error.Times r) names is = absurd is
of_users_is words path error.NoContact names is = absurd is
of_users_is words path error.NoMailbox names is = absurd is
of_users_is words path error.NoJournal names is = absurd is
of_users_is words path (error.File named) names is = inr (inr (subst (NamePasswords words) (sym is) names))
of_users_is words path (error.Line named line e) names is = absurd is
of_users_is words path (error.StateLine named line fault) names is = absurd is
of_users_is words path error.NoPasswords names is = absurd is
of_users_is words path (error.PasswordLine named e) names is = (subst (NamePasswords words) (sym is.0) names, is.1)
of_users_is words path (error.NoUsers named) names is = subst (NamePasswords words) (sym is) names
of_users_is words path (error.NoUser user) names is = absurd is
of_users_is words path (error.NoFurther mailbox) names is = absurd is
of_users_is words path error.System names is = absurd is
of_users_is words path error.NoMemory names is = tt

-- a password is wanting of a user of these passwords
pub of_watched_is : (settings : List Setting) (passwords : Passwords) (e : PlanError) → AreUsers passwords → IsOfWatched passwords (further_mailboxes settings) e
    → IsOfAdmission settings e
of_watched_is settings passwords e are is = inr (inr (inr (inl (passwords, are, is))))

pub of_admission_is : (words : List (List ℕ)) (settings : List Setting) (e : PlanError) → AreSettings words settings → IsOfAdmission settings e → IsRefusal words e
of_admission_is words settings e are (inl is) = subst (IsRefusal words) (sym is) tt
of_admission_is words settings e are (inr (inl none)) = no_memory_is words e none
of_admission_is words settings e are (inr (inr (inl is))) = subst (IsRefusal words) (sym is.0) (settings, are, is.1)
of_admission_is words settings e are (inr (inr (inr (inl (passwords, users, inl none))))) = no_memory_is words e none
of_admission_is words settings e are (inr (inr (inr (inl (passwords, users, inr is))))) = subst (IsRefusal words) (sym is.4) (record {
  settings = settings;
  are_settings = are;
  mailbox = is.1;
  named = is.2;
  passwords = passwords;
  are_users = users;
  unknown = is.3;
})
of_admission_is words settings e are (inr (inr (inr (inr is)))) = of_users_is words is.0 e (settings, are, is.1) is.2

not_true : (b : Bool) → ¬ (b ≡ true) → b ≡ false
not_true true none = absurd (none refl)
not_true false none = refl

pub of_further_is : (words : List (List ℕ)) (settings : List Setting) (mailboxes : List (List ℕ)) (e : PlanError) → AreSettings words settings → AreNamed settings mailboxes
    → ¬ ((choices_of settings).any_mailbox ≡ true) → IsOfFurther mailboxes (further_mailboxes settings) e → IsRefusal words e
of_further_is words settings mailboxes e are named none (inl unsaid) = no_memory_is words e unsaid
of_further_is words settings mailboxes e are named none (inr is) = subst (IsRefusal words) (sym is.4) (record {
  settings = settings;
  are_settings = are;
  user = is.0;
  named = is.2;
  made = not_true (choices_of settings).any_mailbox none;
  mailboxes = mailboxes;
  are_mailboxes = named;
  missing = is.3;
})

-- words that name no mailbox are read all the same
pub none_read : (words : List (List ℕ)) (choices : Choices) (mailboxes : List (List ℕ)) → AreRead words choices mailboxes → length mailboxes ≡ 0
    → (x : Choices) × AreRead words x []
none_read words choices mailboxes read none = (choices, subst (λ l. AreRead words choices l) (nil_from_length mailboxes none) read)

-- without mailboxes none runs, unless lines make them and a journal keeps these
pub of_mailboxes_is : (words : List (List ℕ)) (choices : Choices) (mailboxes : List (List ℕ)) (journal : Option (List ℕ)) (e : PlanError) → AreRead words choices mailboxes
    → IsJournal words journal → IsOfMailboxes choices mailboxes journal e → IsRefusal words e
of_mailboxes_is words choices mailboxes journal e read folder is =
    ⊎_elim
    (λ none. subst (IsRefusal words) (sym none.0) (choices, subst (λ l. AreRead words choices l) none.2 read, none.1))
    (λ none. subst (IsRefusal words) (sym none.0) (choices, mailboxes, read, none.1, subst (λ j. IsJournal words j) none.2 folder))
    is
