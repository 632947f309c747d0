-- What the reader of settings computes, piece by piece. No public contract cites this.
use Rattle.std.specs.Prelude.{◌≡◌, ℕ, Bool, ◌==◌, ◌&&◌, not, length, List, [], ◌∷◌, ◌++◌, if◌then◌else◌, Option, Some, None, Result, Ok, Err, bytes_eq, codes}
use Rattle.std.specs.Str.{byte}
use Rattle.std.specs.List.{position_or_len, before_first, after_first}
use Rattle.sip_text.specs.Reading.{◌>>=◌, begins, addr_of, cut_at}
use Rattle.package.specs.Texts.{is_word}
use Rattle.admission.specs.declared.bucket.Rate.{Rate}
use Rattle.admission.specs.Networks.{network}
use Rattle.arguments.specs.declared.flag.AddressFlag.{AddressFlag}
use Rattle.arguments.specs.declared.flag.AddressFlag.TheVariants as address
use Rattle.arguments.specs.declared.flag.Bound.{Bound}
use Rattle.arguments.specs.declared.flag.Bound.TheVariants as bound
use Rattle.arguments.specs.declared.flag.Flag.{Flag}
use Rattle.arguments.specs.declared.flag.Flag.TheVariants as flag
use Rattle.arguments.specs.declared.guesses.Guesses.{Guesses}
use Rattle.arguments.specs.declared.syncing.Syncing.{Syncing}
use Rattle.arguments.specs.declared.syncing.Syncing.TheVariants as syncing
use Rattle.arguments.specs.declared.switch.Switch.{Switch}
use Rattle.arguments.specs.declared.switch.Switch.TheVariants as switch
use Rattle.arguments.specs.declared.setting.Setting.{Setting}
use Rattle.arguments.specs.declared.setting.Setting.TheVariants as setting
use Rattle.arguments.specs.declared.error.OptionsError.{OptionsError}
use Rattle.arguments.specs.declared.error.OptionsError.TheVariants as error
use Rattle.arguments.specs.Flags.{least, most, address_flag_text, bound_text, flag_text, switch_text}
use Rattle.arguments.specs.Settings.{is_user}
use Rattle.arguments.specs.Values.{seed_bytes, between}

-- ---- the option that a word is

abbrev pub find_text : {X : Type 0} → (X → List ℕ) → List X → List ℕ → Option X
find_text text [] word = None
find_text text (x ∷ xs) word = if bytes_eq word (text x) then Some x else find_text text xs word

abbrev pub address_flags : List AddressFlag
address_flags = address.Listen ∷ address.Contact ∷ address.Control ∷ address.Feed ∷ []

abbrev pub times : List Bound
times = bound.MinTime ∷ bound.MaxTime ∷ bound.DefaultTime ∷ bound.ReferTime ∷ bound.Linger ∷ bound.Outage ∷ bound.NonceTime ∷ []

abbrev pub counts : List Bound
counts = bound.Workers ∷ bound.MaxCseq ∷ bound.Table ∷ bound.Serials ∷ bound.Kept ∷ bound.Inbox ∷ bound.Outbox ∷ bound.Repeats ∷ bound.Open ∷ bound.PerSource ∷ bound.MaxMailboxes ∷ []

abbrev pub sizes : List Bound
sizes = bound.MaxDatagram ∷ bound.ReceiveBuffer ∷ bound.JournalBytes ∷ bound.MaxTexts ∷ []

unfoldable pub address_flag_of : List ℕ → Option AddressFlag
address_flag_of word = find_text address_flag_text address_flags word

unfoldable pub time_of : List ℕ → Option Bound
time_of word = find_text bound_text times word

unfoldable pub count_of : List ℕ → Option Bound
count_of word = find_text bound_text counts word

unfoldable pub size_of : List ℕ → Option Bound
size_of word = find_text bound_text sizes word

abbrev pub or_else : {X : Type 0} → Option X → Option X → Option X
or_else (Some x) other = Some x
or_else None other = other

unfoldable pub number_of : List ℕ → Option Bound
number_of word = or_else (count_of word) (size_of word)

unfoldable pub bound_of : List ℕ → Option Bound
bound_of word = or_else (time_of word) (number_of word)

abbrev pub number_flag : Option Bound → Option Flag
number_flag (Some b) = Some (flag.Number b)
number_flag None = None

-- the options whose value is neither an address nor a number
abbrev pub specials : List Flag
specials =
    flag.MailboxFile ∷ flag.StateFile ∷ flag.JournalFolder ∷ flag.Sync ∷ flag.PasswordFile ∷ flag.Watch ∷ flag.Rate ∷ flag.Guesses ∷ flag.Allow ∷ flag.ControlAllow ∷ flag.FeedFrom ∷ flag.Seed ∷ []

unfoldable pub special_of : List ℕ → Option Flag
special_of word = find_text flag_text specials word

unfoldable pub other_of : List ℕ → Option Flag
other_of word = or_else (special_of word) (number_flag (bound_of word))

abbrev pub address_or : Option AddressFlag → Option Flag → Option Flag
address_or (Some p) other = Some (flag.Address p)
address_or None other = other

unfoldable pub flag_named : List ℕ → Option Flag
flag_named word = address_or (address_flag_of word) (other_of word)

-- the option before the first `=` of a word, and the value behind it
abbrev pub is_equals : ℕ → Bool
is_equals b = b == byte "="

abbrev pub with_value : Option Flag → List ℕ → Option (Flag × List ℕ)
with_value (Some f) value = Some (f, value)
with_value None value = None

unfoldable pub joined_of : List ℕ → Option (Flag × List ℕ)
joined_of word =
    if position_or_len is_equals word == length word then None
    else with_value (flag_named (before_first is_equals word)) (after_first is_equals word)

abbrev pub switches : List Switch
switches = switch.KeepSubscriptions ∷ switch.NoRefer ∷ switch.UntilInputEnds ∷ switch.OldDigest ∷ switch.LogRequests ∷ switch.LogJson ∷ switch.AnyMailbox ∷ []

unfoldable pub switch_of : List ℕ → Option Switch
switch_of word = find_text switch_text switches word

-- ---- values

abbrev pub or_bad : Flag → Option Setting → Result Setting OptionsError
or_bad flag (Some s) = Ok s
or_bad flag None = Err (error.Bad flag)

-- a name of a mailbox
abbrev pub is_mailbox : List ℕ → Bool
is_mailbox name = is_word name && (is_user name && not (begins (byte "-") name))

abbrev pub is_colon : ℕ → Bool
is_colon b = b == byte ":"

abbrev pub watch : List ℕ → List ℕ → Option (List ℕ × List ℕ)
watch user mailbox = if is_mailbox mailbox then Some (user, mailbox) else None

-- a user before the first colon, and a mailbox behind it
unfoldable pub watch_of : List ℕ → Option (List ℕ × List ℕ)
watch_of value =
    if position_or_len is_colon value == length value then None
    else watch (before_first is_colon value) (after_first is_colon value)

-- a number before a slash, and one behind it
unfoldable pub pair_of : List ℕ → Option (ℕ × ℕ)
pair_of value = do
  cut ← cut_at (byte "/") value
  n ← between 1 65536 cut.0
  m ← between 1 65536 cut.1
  Some (n, m)

-- so many a second before a slash, and so many at once behind it
unfoldable pub rate_of : List ℕ → Option Rate
rate_of value = do
  pair ← pair_of value
  Some (record { burst = pair.1; per_second = pair.0 })

-- so many at once before a slash, and so many a minute behind it
unfoldable pub guesses_of : List ℕ → Option Guesses
guesses_of value = do
  pair ← pair_of value
  Some (record { burst = pair.0; per_minute = pair.1 })

-- so many seconds from 1 to 3600, or never, or always
unfoldable pub sync_of : List ℕ → Option Syncing
sync_of value =
    if bytes_eq value (codes "never") then Some syncing.Never
    else if bytes_eq value (codes "always") then Some syncing.Always
    else (between 1 3600 value >>= λ n. Some (syncing.Each n))

unfoldable pub valued : Flag → List ℕ → Result Setting OptionsError
valued (flag.Address which) value = or_bad (flag.Address which) (addr_of value >>= λ a. Some (setting.Address which a))
valued (flag.Number bound) value = or_bad (flag.Number bound) (between (least bound) (most bound) value >>= λ n. Some (setting.Number bound n))
valued flag.MailboxFile value = Ok (setting.MailboxFile value)
valued flag.StateFile value = Ok (setting.StateFile value)
valued flag.JournalFolder value = Ok (setting.JournalFolder value)
valued flag.Sync value = or_bad flag.Sync (sync_of value >>= λ s. Some (setting.Sync s))
valued flag.PasswordFile value = Ok (setting.PasswordFile value)
valued flag.Watch value = or_bad flag.Watch (watch_of value >>= λ w. Some (setting.Watch w.0 w.1))
valued flag.Rate value = or_bad flag.Rate (rate_of value >>= λ r. Some (setting.Rate r))
valued flag.Guesses value = or_bad flag.Guesses (guesses_of value >>= λ g. Some (setting.Guesses g))
valued flag.Allow value = or_bad flag.Allow (network value >>= λ n. Some (setting.Allow n))
valued flag.ControlAllow value = or_bad flag.ControlAllow (network value >>= λ n. Some (setting.ControlAllow n))
valued flag.FeedFrom value = or_bad flag.FeedFrom (network value >>= λ n. Some (setting.FeedFrom n))
valued flag.Seed value = or_bad flag.Seed (seed_bytes value >>= λ s. Some (setting.Seed s))

-- a word that is no option
unfoldable pub named : List ℕ → Result Setting OptionsError
named word =
    if begins (byte "-") word then Err (error.Unknown word)
    else if is_word word && is_user word then Ok (setting.Mailbox word)
    else Err (error.NoMailbox word)

abbrev pub by_switch : Option Switch → List ℕ → Result Setting OptionsError
by_switch (Some s) word = Ok (setting.Switch s)
by_switch None word = named word

abbrev pub by_joined : Option (Flag × List ℕ) → List ℕ → Result Setting OptionsError
by_joined (Some joined) word = valued joined.0 joined.1
by_joined None word = by_switch (switch_of word) word

-- a word that has no value behind it
unfoldable pub alone : List ℕ → Result Setting OptionsError
alone word = by_joined (joined_of word) word

-- ---- all words

abbrev pub then_more : Result Setting OptionsError → Result (List Setting) OptionsError → Result (List Setting) OptionsError
then_more (Err e) more = Err e
then_more (Ok s) (Ok settings) = Ok (s ∷ settings)
then_more (Ok s) (Err e) = Err e

-- what the words say from a word on that may be an option: that option waits for its value, or the word stands alone
abbrev pub by_flag : Option Flag → Result Setting OptionsError → (Option Flag → Result (List Setting) OptionsError) → Result (List Setting) OptionsError
by_flag (Some flag) setting more = more (Some flag)
by_flag None setting more = then_more setting (more None)

-- the settings of these words, before which an option stands that waits for its value, or none
unfoldable pub settings_from : Option Flag → List (List ℕ) → Result (List Setting) OptionsError
settings_from None [] = Ok []
settings_from (Some flag) [] = Err (error.Missing flag)
settings_from None (word ∷ words) = by_flag (flag_named word) (alone word) (λ waiting. settings_from waiting words)
settings_from (Some flag) (word ∷ words) = then_more (valued flag word) (settings_from None words)

-- settings, and then these
abbrev pub with_front : List Setting → Result (List Setting) OptionsError → Result (List Setting) OptionsError
with_front front (Ok settings) = Ok (front ++ settings)
with_front front (Err e) = Err e

-- ---- what code returns

-- what a function returned, seen by view, is what the function on lists gives, unless memory ran out
abbrev pub Reads : {X Y : Type 0} → (X → Y) → Result X OptionsError → Result Y OptionsError → Type 0
Reads view (Ok x) read = read ≡ Ok (view x)
Reads view (Err error.NoMemory) read = Unit {0}
Reads view (Err (error.Missing flag)) read = read ≡ Err (error.Missing flag)
Reads view (Err (error.Bad flag)) read = read ≡ Err (error.Bad flag)
Reads view (Err (error.Unknown word)) read = read ≡ Err (error.Unknown word)
Reads view (Err (error.NoMailbox word)) read = read ≡ Err (error.NoMailbox word)
Reads view (Err (error.NoRange word)) read = read ≡ Err (error.NoRange word)
