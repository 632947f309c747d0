-- What `notifyd serve` does by its settings. Of the settings of one option the last counts.
use Rattle.std.specs.Prelude.{◌≡◌, ℕ, min, max, ◌≤◌, Bool, true, false, if◌then◌else◌, List, [], ◌∷◌, ◌++◌, Option, Some, None}
use Rattle.std.specs.List.{fold, list_any}
use Rattle.sip_text.specs.declared.address.Addr.{Addr}
use Rattle.admission.specs.declared.network.Network.{Network}
use Rattle.arguments.specs.declared.flag.AddressFlag.{AddressFlag}
use Rattle.arguments.specs.declared.flag.AddressFlag.TheVariants as address
use Rattle.arguments.specs.declared.flag.Bound.{Bound}
use Rattle.arguments.specs.declared.flag.Bound.TheVariants as bound
use Rattle.arguments.specs.declared.switch.Switch.{Switch}
use Rattle.arguments.specs.declared.switch.Switch.TheVariants as switch
use Rattle.arguments.specs.declared.syncing.Syncing.TheVariants as syncing
use Rattle.arguments.specs.declared.setting.Setting.{Setting}
use Rattle.arguments.specs.declared.setting.Setting.TheVariants as setting
use Rattle.arguments.specs.declared.choices.Numbers.{Numbers}
use Rattle.arguments.specs.declared.choices.Choices.{Choices}

-- 127.0.0.1 with this port
abbrev pub loopback : ℕ → Addr
loopback port = record { ip = 127 ∷ 0 ∷ 0 ∷ 1 ∷ []; port = port }

-- no count of workers stands for one a processor, no time of nonces for the program's own, and no count a source for any
abbrev pub default_numbers : Numbers
default_numbers = record {
  workers = None;
  min_time = 60;
  max_time = 3600;
  default_time = 3600;
  refer_time = 180;
  max_cseq = 2147483647;
  table = 16384;
  serials = 4294967295;
  kept = 4096;
  inbox = 1024;
  outbox = 1024;
  repeats = 16384;
  per_subscription = 1024;
  linger = 2;
  outage = 600;
  max_datagram = 8192;
  receive_buffer = 4194304;
  nonce_time = None;
  per_source = None;
  journal_bytes = 16777216;
  max_texts = 2048;
  max_mailboxes = 65536;
}

-- what is done where nothing is set
abbrev pub default_choices : Choices
default_choices = record {
  listen = loopback 5060;
  contact = None;
  control = loopback 5061;
  feed = loopback 5062;
  numbers = default_numbers;
  seed = None;
  keep_subscriptions = false;
  no_refer = false;
  until_input_ends = false;
  rate = None;
  guesses = record { burst = 5; per_minute = 20 };
  old_digest = false;
  log_requests = false;
  log_json = false;
  sync = syncing.Each 1;
  any_mailbox = false;
}

abbrev pub with_number : Bound → ℕ → Numbers → Numbers
with_number bound.Workers n numbers = record numbers { workers = Some n }
with_number bound.MinTime n numbers = record numbers { min_time = n }
with_number bound.MaxTime n numbers = record numbers { max_time = n }
with_number bound.DefaultTime n numbers = record numbers { default_time = n }
with_number bound.ReferTime n numbers = record numbers { refer_time = n }
with_number bound.MaxCseq n numbers = record numbers { max_cseq = n }
with_number bound.Table n numbers = record numbers { table = n }
with_number bound.Serials n numbers = record numbers { serials = n }
with_number bound.Kept n numbers = record numbers { kept = n }
with_number bound.Inbox n numbers = record numbers { inbox = n }
with_number bound.Outbox n numbers = record numbers { outbox = n }
with_number bound.Repeats n numbers = record numbers { repeats = n }
with_number bound.Open n numbers = record numbers { per_subscription = n }
with_number bound.Linger n numbers = record numbers { linger = n }
with_number bound.Outage n numbers = record numbers { outage = n }
with_number bound.MaxDatagram n numbers = record numbers { max_datagram = n }
with_number bound.ReceiveBuffer n numbers = record numbers { receive_buffer = n }
with_number bound.NonceTime n numbers = record numbers { nonce_time = Some n }
with_number bound.PerSource n numbers = record numbers { per_source = Some n }
with_number bound.JournalBytes n numbers = record numbers { journal_bytes = n }
with_number bound.MaxTexts n numbers = record numbers { max_texts = n }
with_number bound.MaxMailboxes n numbers = record numbers { max_mailboxes = n }

abbrev pub with_address : AddressFlag → Addr → Choices → Choices
with_address address.Listen addr choices = record choices { listen = addr }
with_address address.Contact addr choices = record choices { contact = Some addr }
with_address address.Control addr choices = record choices { control = addr }
with_address address.Feed addr choices = record choices { feed = addr }

abbrev pub with_switch : Switch → Choices → Choices
with_switch switch.KeepSubscriptions choices = record choices { keep_subscriptions = true }
with_switch switch.NoRefer choices = record choices { no_refer = true }
with_switch switch.UntilInputEnds choices = record choices { until_input_ends = true }
with_switch switch.OldDigest choices = record choices { old_digest = true }
with_switch switch.LogRequests choices = record choices { log_requests = true }
with_switch switch.LogJson choices = record choices { log_json = true }
with_switch switch.AnyMailbox choices = record choices { any_mailbox = true }

-- the choices after this setting. Mailboxes, files and who may watch or is let in are gathered apart
abbrev pub after : Choices → Setting → Choices
after choices (setting.Address which addr) = with_address which addr choices
after choices (setting.Number bound n) = record choices { numbers = with_number bound n choices.numbers }
after choices (setting.MailboxFile path) = choices
after choices (setting.StateFile path) = choices
after choices (setting.JournalFolder path) = choices
after choices (setting.Sync sync) = record choices { sync = sync }
after choices (setting.PasswordFile path) = choices
after choices (setting.Watch user mailbox) = choices
after choices (setting.Rate rate) = record choices { rate = Some rate }
after choices (setting.Guesses guesses) = record choices { guesses = guesses }
after choices (setting.Allow network) = choices
after choices (setting.ControlAllow network) = choices
after choices (setting.FeedFrom network) = choices
after choices (setting.Seed seed) = record choices { seed = Some seed }
after choices (setting.Switch switch) = with_switch switch choices
after choices (setting.Mailbox name) = choices

-- what the settings name
abbrev pub named : List Setting → Choices
named settings = fold after default_choices settings

-- the setting names the time of who asks for none
abbrev pub names_default_time : Setting → Bool
names_default_time (setting.Number bound.DefaultTime n) = true
names_default_time other = false

-- the setting names the time of a REFER
abbrev pub names_refer_time : Setting → Bool
names_refer_time (setting.Number bound.ReferTime n) = true
names_refer_time other = false

-- a time that is named is as it is, and any other is the nearest to it from the least time to the greatest
abbrev pub fitting : Numbers → ℕ → Bool → ℕ
fitting numbers time is_named = if is_named then time else max (min time numbers.max_time) numbers.min_time

abbrev pub fitted : List Setting → Numbers → Numbers
fitted settings n = record n {
  default_time = fitting n n.default_time (list_any names_default_time settings);
  refer_time = fitting n n.refer_time (list_any names_refer_time settings);
}

abbrev pub with_fitted : List Setting → Choices → Choices
with_fitted settings choices = record choices { numbers = fitted settings choices.numbers }

abbrev pub choices_of : List Setting → Choices
choices_of settings = with_fitted settings (named settings)

-- the time is from the least to the greatest, where the least is not above the greatest
abbrev pub MayBeGranted : Numbers → ℕ → Type 0
MayBeGranted numbers time = numbers.min_time ≤ numbers.max_time → (numbers.min_time ≤ time) × (time ≤ numbers.max_time)

-- a time that no setting names may be granted
pub record TimesFit (settings : List Setting) (numbers : Numbers) : Type 0 where
  pub default_time : list_any names_default_time settings ≡ false → MayBeGranted numbers numbers.default_time
  pub refer_time : list_any names_refer_time settings ≡ false → MayBeGranted numbers numbers.refer_time

-- the path of a file of MAIL lines, if a setting before this one or this one names it
abbrev pub with_state : Option (List ℕ) → Setting → Option (List ℕ)
with_state path (setting.Address which addr) = path
with_state path (setting.Number bound n) = path
with_state path (setting.MailboxFile file) = path
with_state path (setting.StateFile file) = Some file
with_state path (setting.JournalFolder folder) = path
with_state path (setting.Sync sync) = path
with_state path (setting.PasswordFile file) = path
with_state path (setting.Watch user mailbox) = path
with_state path (setting.Rate rate) = path
with_state path (setting.Guesses guesses) = path
with_state path (setting.Allow network) = path
with_state path (setting.ControlAllow network) = path
with_state path (setting.FeedFrom network) = path
with_state path (setting.Seed seed) = path
with_state path (setting.Switch switch) = path
with_state path (setting.Mailbox name) = path

abbrev pub state_of : List Setting → Option (List ℕ)
state_of settings = fold with_state None settings

-- the path of a folder of a journal, if a setting before this one or this one names it
abbrev pub with_journal : Option (List ℕ) → Setting → Option (List ℕ)
with_journal path (setting.Address which addr) = path
with_journal path (setting.Number bound n) = path
with_journal path (setting.MailboxFile file) = path
with_journal path (setting.StateFile file) = path
with_journal path (setting.JournalFolder folder) = Some folder
with_journal path (setting.Sync sync) = path
with_journal path (setting.PasswordFile file) = path
with_journal path (setting.Watch user mailbox) = path
with_journal path (setting.Rate rate) = path
with_journal path (setting.Guesses guesses) = path
with_journal path (setting.Allow network) = path
with_journal path (setting.ControlAllow network) = path
with_journal path (setting.FeedFrom network) = path
with_journal path (setting.Seed seed) = path
with_journal path (setting.Switch switch) = path
with_journal path (setting.Mailbox name) = path

abbrev pub journal_folder : List Setting → Option (List ℕ)
journal_folder settings = fold with_journal None settings

-- the path of a file of passwords, if a setting before this one or this one names it
abbrev pub with_passwords : Option (List ℕ) → Setting → Option (List ℕ)
with_passwords path (setting.Address which addr) = path
with_passwords path (setting.Number bound n) = path
with_passwords path (setting.MailboxFile file) = path
with_passwords path (setting.StateFile file) = path
with_passwords path (setting.JournalFolder folder) = path
with_passwords path (setting.Sync sync) = path
with_passwords path (setting.PasswordFile file) = Some file
with_passwords path (setting.Watch user mailbox) = path
with_passwords path (setting.Rate rate) = path
with_passwords path (setting.Guesses guesses) = path
with_passwords path (setting.Allow network) = path
with_passwords path (setting.ControlAllow network) = path
with_passwords path (setting.FeedFrom network) = path
with_passwords path (setting.Seed seed) = path
with_passwords path (setting.Switch switch) = path
with_passwords path (setting.Mailbox name) = path

abbrev pub password_file : List Setting → Option (List ℕ)
password_file settings = fold with_passwords None settings

-- the mailboxes that users may watch beside their own, each with its user in front, with what this setting adds
abbrev pub with_watched : List (List ℕ × List ℕ) → Setting → List (List ℕ × List ℕ)
with_watched pairs (setting.Address which addr) = pairs
with_watched pairs (setting.Number bound n) = pairs
with_watched pairs (setting.MailboxFile path) = pairs
with_watched pairs (setting.StateFile path) = pairs
with_watched pairs (setting.JournalFolder path) = pairs
with_watched pairs (setting.Sync sync) = pairs
with_watched pairs (setting.PasswordFile path) = pairs
with_watched pairs (setting.Watch user mailbox) = pairs ++ (user, mailbox) ∷ []
with_watched pairs (setting.Rate rate) = pairs
with_watched pairs (setting.Guesses guesses) = pairs
with_watched pairs (setting.Allow network) = pairs
with_watched pairs (setting.ControlAllow network) = pairs
with_watched pairs (setting.FeedFrom network) = pairs
with_watched pairs (setting.Seed seed) = pairs
with_watched pairs (setting.Switch switch) = pairs
with_watched pairs (setting.Mailbox name) = pairs

abbrev pub further_mailboxes : List Setting → List (List ℕ × List ℕ)
further_mailboxes settings = fold with_watched [] settings

-- the networks that are let in, with what this setting adds
abbrev pub with_network : List Network → Setting → List Network
with_network networks (setting.Address which addr) = networks
with_network networks (setting.Number bound n) = networks
with_network networks (setting.MailboxFile path) = networks
with_network networks (setting.StateFile path) = networks
with_network networks (setting.JournalFolder path) = networks
with_network networks (setting.Sync sync) = networks
with_network networks (setting.PasswordFile path) = networks
with_network networks (setting.Watch user mailbox) = networks
with_network networks (setting.Rate rate) = networks
with_network networks (setting.Guesses guesses) = networks
with_network networks (setting.Allow network) = networks ++ network ∷ []
with_network networks (setting.ControlAllow network) = networks
with_network networks (setting.FeedFrom network) = networks
with_network networks (setting.Seed seed) = networks
with_network networks (setting.Switch switch) = networks
with_network networks (setting.Mailbox name) = networks

-- the networks that are let in, in order
abbrev pub allowed_networks : List Setting → List Network
allowed_networks settings = fold with_network [] settings

-- the networks whose control lines are heard, with what this setting adds
abbrev pub with_control_network : List Network → Setting → List Network
with_control_network networks (setting.Address which addr) = networks
with_control_network networks (setting.Number bound n) = networks
with_control_network networks (setting.MailboxFile path) = networks
with_control_network networks (setting.StateFile path) = networks
with_control_network networks (setting.JournalFolder path) = networks
with_control_network networks (setting.Sync sync) = networks
with_control_network networks (setting.PasswordFile path) = networks
with_control_network networks (setting.Watch user mailbox) = networks
with_control_network networks (setting.Rate rate) = networks
with_control_network networks (setting.Guesses guesses) = networks
with_control_network networks (setting.Allow network) = networks
with_control_network networks (setting.ControlAllow network) = networks ++ network ∷ []
with_control_network networks (setting.FeedFrom network) = networks
with_control_network networks (setting.Seed seed) = networks
with_control_network networks (setting.Switch switch) = networks
with_control_network networks (setting.Mailbox name) = networks

-- those networks, in order
abbrev pub named_operators : List Setting → List Network
named_operators settings = fold with_control_network [] settings

-- with this address alone, where networks are named: where none is, all are heard
abbrev pub with_alone : List ℕ → List Network → List Network
with_alone ip [] = []
with_alone ip (network ∷ networks) = network ∷ networks ++ record { ip = ip; length = 32 } ∷ []

-- the networks whose control lines are heard beside those of 127.0.0.0/8: those named, and the address that they are sent to, which is
-- also where this machine sends them from
abbrev pub control_networks : List Setting → List Network
control_networks settings = with_alone (choices_of settings).control.ip (named_operators settings)

-- the networks whose voicemail systems are heard, with what this setting adds
abbrev pub with_feed_network : List Network → Setting → List Network
with_feed_network networks (setting.Address which addr) = networks
with_feed_network networks (setting.Number bound n) = networks
with_feed_network networks (setting.MailboxFile path) = networks
with_feed_network networks (setting.StateFile path) = networks
with_feed_network networks (setting.JournalFolder path) = networks
with_feed_network networks (setting.Sync seconds) = networks
with_feed_network networks (setting.PasswordFile path) = networks
with_feed_network networks (setting.Watch user mailbox) = networks
with_feed_network networks (setting.Rate rate) = networks
with_feed_network networks (setting.Guesses guesses) = networks
with_feed_network networks (setting.Allow network) = networks
with_feed_network networks (setting.ControlAllow network) = networks
with_feed_network networks (setting.FeedFrom network) = networks ++ network ∷ []
with_feed_network networks (setting.Seed seed) = networks
with_feed_network networks (setting.Switch switch) = networks
with_feed_network networks (setting.Mailbox name) = networks

-- those networks, in order: none is heard where none is named
abbrev pub feed_networks : List Setting → List Network
feed_networks settings = fold with_feed_network [] settings
