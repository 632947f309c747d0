-- Who is heard by a service, as its settings and its file of passwords say.
use Rattle.std.specs.Prelude.{◌≡◌, ◌≢◌, ℕ, Bool, true, false, not, ◌||◌, ◌==◌, is_some, length, List, [], ◌∷◌, All, Option, Some, None, bytes_eq}
use Rattle.std.specs.List.{list_any}
use Rattle.notifier_model.specs.Tag.{refusal_tag}
use Rattle.digest.specs.declared.algorithm.Algorithm.{Algorithm}
use Rattle.digest.specs.declared.algorithm.Algorithm.TheVariants as algorithm
use Rattle.digest.specs.declared.passwords.Passwords.{Passwords}
use Rattle.digest.specs.Passwords.{known, Takes}
use Rattle.plans.specs.Lines.{IsTaken}
use Rattle.admission.specs.declared.bucket.Rate.{Rate}
use Rattle.admission.specs.declared.table.Rates.{Rates}
use Rattle.admission.specs.Table.{empty}
use Rattle.admission.specs.declared.guesses.Guesses.{Guesses}
use Rattle.admission.specs.declared.authentication.Authentication.{Authentication}
use Rattle.admission.specs.declared.judging.Admission.{Admission}
use Rattle.arguments.specs.declared.guesses.Guesses.{Guesses as Asked}
use Rattle.arguments.specs.declared.choices.Choices.{Choices}
use Rattle.arguments.specs.declared.setting.Setting.{Setting}
use Rattle.arguments.specs.Choices.{choices_of, allowed_networks, password_file, further_mailboxes}

-- ---- the users of a file

-- no line was taken in
pub record IsEmpty (p : Passwords) : Type 0 where
  pub realm : p.realm ≡ None
  pub unknown : (a : Algorithm) (user : List ℕ) → known p a user ≡ None

-- these lines were taken in, one behind the other
abbrev pub AreTaken : Passwords → List (List ℕ) → Passwords → Type 0
AreTaken old [] new = new ≡ old
AreTaken old (line ∷ lines) new = (next : Passwords) × Takes old line next × AreTaken next lines new

-- what some lines make of an empty table: which stand in a file no contract can tell
pub record IsTable (p : Passwords) : Type 0 where
  pub start : Passwords
  pub is_empty : IsEmpty start
  pub lines : List (List ℕ)
  pub taken : AreTaken start lines p

-- such a table with some user
pub record AreUsers (p : Passwords) : Type 0 where
  pub table : IsTable p
  pub some : p.realm ≢ None

-- just what the lines that a reader gives make of an empty table
pub record AreUsersOf (given : Option (List ℕ)) (p : Passwords) : Type 0 where
  pub start : Passwords
  pub is_empty : IsEmpty start
  pub taken : IsTaken Takes given start p

-- a password of this user is known
abbrev pub is_user : Passwords → List ℕ → Bool
is_user p user = is_some (known p algorithm.Md5 user) || is_some (known p algorithm.Sha256 user)

-- ---- who asks

-- for how many seconds a nonce is good: five minutes, where nothing is said of it
abbrev pub time_or : Option ℕ → ℕ
time_or None = 300
time_or (Some seconds) = seconds

abbrev pub nonce_time : Choices → ℕ
nonce_time choices = time_or choices.numbers.nonce_time

-- users of a file are asked for their passwords, and may watch these mailboxes beside their own. The workers have numbers below 256
pub record IsAuthentication (choices : Choices) (watched : List (List ℕ × List ℕ)) (k : Authentication) : Type 0 where
  pub users : AreUsers k.guard.passwords
  pub further : k.further.items ≡ watched
  pub known : All (λ pair. is_user k.guard.passwords pair.0 ≡ true) watched
  pub time : k.guard.nonces.time ≡ nonce_time choices
  pub old_digest : k.guard.old_digest ≡ choices.old_digest
  pub tag : k.tag ≡ refusal_tag 256

-- this is said of passwords, which makes no sense without a file of them
abbrev pub needs_passwords : Choices → List (List ℕ × List ℕ) → Bool
needs_passwords choices further =
    not (length further == 0) || (is_some choices.numbers.nonce_time || choices.old_digest)

-- who may subscribe and refer, where a file of passwords is named or none
abbrev pub Asks : Option (List ℕ) → Choices → List (List ℕ × List ℕ) → Option Authentication → Type 0
Asks None choices further k = (k ≡ None) × (needs_passwords choices further ≡ false)
Asks (Some path) choices further None = ⊥
Asks (Some path) choices further (Some k) = IsAuthentication choices further k

-- the service has this mailbox
abbrev pub has_mailbox : List (List ℕ) → List ℕ → Bool
has_mailbox mailboxes mailbox = list_any (λ name. bytes_eq name mailbox) mailboxes

-- a service with these mailboxes has each further one that a user may watch
abbrev pub HasFurther : List (List ℕ) → List (List ℕ × List ℕ) → Type 0
HasFurther mailboxes further = All (λ pair. has_mailbox mailboxes pair.1 ≡ true) further

-- ---- all of it

-- a bucket for each of 16,384 source addresses at most
abbrev pub rates_of : Option Rate → Option Rates
rates_of None = None
rates_of (Some rate) = Some (empty rate 16384)

-- the buckets of wrong passwords: the rate of these counts minutes
abbrev pub guess_rate : Asked → Rate
guess_rate asked = record { burst = asked.burst; per_second = asked.per_minute }

-- one for each of 16,384 source addresses and 16,384 names at most
abbrev pub guesses_of : Asked → Guesses
guesses_of asked = record { sources = empty (guess_rate asked) 16384; names = empty (guess_rate asked) 16384 }

-- the networks that are let in, how much each source may send, who may subscribe and refer, how many wrong passwords are looked at, how much
-- may be kept of a request, and how many live subscriptions each source may have
pub record IsAdmission (settings : List Setting) (a : Admission) : Type 0 where
  pub networks : a.networks.items ≡ allowed_networks settings
  pub rates : a.rates ≡ rates_of (choices_of settings).rate
  pub authentication : Asks (password_file settings) (choices_of settings) (further_mailboxes settings) a.authentication
  pub guesses : a.guesses ≡ Some (guesses_of (choices_of settings).guesses)
  pub max_texts : a.max_texts ≡ Some (choices_of settings).numbers.max_texts
  pub per_source : a.per_source ≡ (choices_of settings).numbers.per_source
