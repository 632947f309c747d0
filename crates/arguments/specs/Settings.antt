-- What the words of `notifyd serve` say.
--
--   words    = *setting
--   setting  = ("--listen" / "--contact" / "--control" / "--feed-listen") address
--            / ("--workers" / "--min-time" / "--max-time" / "--default-time" / "--refer-time" / "--linger" / "--outage" / "--max-cseq" / "--table"
--              / "--serials" / "--kept" / "--inbox" / "--outbox" / "--repeats" / "--open" / "--max-datagram" / "--receive-buffer" / "--nonce-time"
--              / "--per-source" / "--journal-bytes" / "--max-texts" / "--max-mailboxes") number
--            / ("--mailboxes" / "--state" / "--journal" / "--passwords") path
--            / "--sync" (number / "never" / "always")      ; seconds, from 1 to 3600
--            / "--watch" user ":" mailbox         ; no `:` in the user
--            / "--rate" number "/" number         ; so many datagrams a second, and so many at once, each from 1 to 65536
--            / "--guesses" number "/" number      ; so many wrong passwords at once, and so many a minute, each from 1 to 65536
--            / ("--allow" / "--control-allow" / "--feed-from") network
--            / "--seed" digits                    ; 64 hex digits of either case
--            / "--keep-subscriptions" / "--no-refer" / "--until-input-ends" / "--old-digest" / "--log-requests"
--            / "--log-json" / "--any-mailbox"
--            / mailbox                            ; no space, control character, `@` or `:`, and no `-` in front
--
-- An option and its value are two words, or one with `=` between.
--
--   address  = octet "." octet "." octet "." octet ":" port
--   network  = octet "." octet "." octet "." octet "/" bits      ; 0 to 32 bits
--
-- Numbers are decimal without leading zeros, from the least to the greatest that the option takes.
use Rattle.std.specs.Prelude.{◌≡◌, ◌≢◌, ℕ, ◌≤◌, ◌⊎◌, Bool, true, false, not, ◌&&◌, ◌==◌, List, [], ◌∷◌, ◌++◌, codes, decimal, Some, None, Result, Ok, Err}
use Rattle.std.specs.Str.{byte}
use Rattle.std.specs.List.{list_all}
use Rattle.hex.specs.Hex.{decode_sized}
use Rattle.sip_text.specs.Addresses.{addr_text, IsAddr}
use Rattle.sip_text.specs.Reading.{begins}
use Rattle.package.specs.Texts.{is_word}
use Rattle.admission.specs.declared.bucket.Rate.{Rate}
use Rattle.admission.specs.Networks.{network}
use Rattle.arguments.specs.declared.flag.Flag.{Flag}
use Rattle.arguments.specs.declared.guesses.Guesses.{Guesses}
use Rattle.arguments.specs.declared.switch.Switch.{Switch}
use Rattle.arguments.specs.declared.syncing.Syncing.TheVariants as syncing
use Rattle.arguments.specs.declared.setting.Setting.{Setting}
use Rattle.arguments.specs.declared.setting.Setting.TheVariants as setting
use Rattle.arguments.specs.declared.error.OptionsError.{OptionsError}
use Rattle.arguments.specs.declared.error.OptionsError.TheVariants as error
use Rattle.arguments.specs.Flags.{address_flag_text, bound_text, flag_text, switch_text, least, most}

-- no `@` and no `:`, which end the user of an address (RFC 3261 section 19.1.1)
abbrev pub is_user : List ℕ → Bool
is_user text = list_all (λ b. not (b == byte "@") && not (b == byte ":")) text

-- a name that a mailbox may have
pub record IsMailbox (name : List ℕ) : Type 0 where
  pub word : is_word name ≡ true
  pub user : is_user name ≡ true
  pub no_option : begins (byte "-") name ≡ false

-- a user that a line of passwords may have: a colon ends it
abbrev pub has_no_colon : List ℕ → Bool
has_no_colon user = list_all (λ b. not (b == byte ":")) user

-- a user and a mailbox
abbrev pub watched_text : List ℕ → List ℕ → List ℕ
watched_text user mailbox = user ++ byte ":" ∷ mailbox

-- the least and the greatest number of a rate and of guesses
abbrev pub IsRateNumber : ℕ → Type 0
IsRateNumber n = (1 ≤ n) × (n ≤ 65536)

-- so many a second, and so many at once
abbrev pub rate_text : Rate → List ℕ
rate_text rate = decimal rate.per_second ++ byte "/" ∷ decimal rate.burst

-- so many at once, and so many a minute
abbrev pub guesses_text : Guesses → List ℕ
guesses_text guesses = decimal guesses.burst ++ byte "/" ∷ decimal guesses.per_minute

-- an option and its value as one word
abbrev pub joined : List ℕ → List ℕ → List ℕ
joined option value = option ++ byte "=" ∷ value

-- the words are this option and this value
abbrev pub AreOption : List (List ℕ) → List ℕ → List ℕ → Type 0
AreOption words option value = (words ≡ option ∷ value ∷ []) ⊎ (words ≡ joined option value ∷ [])

-- the words are this setting
abbrev pub IsSetting : List (List ℕ) → Setting → Type 0
IsSetting words (setting.Address which addr) = IsAddr addr × AreOption words (address_flag_text which) (addr_text addr)
IsSetting words (setting.Number bound n) = (least bound ≤ n) × (n ≤ most bound) × AreOption words (bound_text bound) (decimal n)
IsSetting words (setting.MailboxFile path) = AreOption words (codes "--mailboxes") path
IsSetting words (setting.StateFile path) = AreOption words (codes "--state") path
IsSetting words (setting.JournalFolder path) = AreOption words (codes "--journal") path
IsSetting words (setting.Sync syncing.Never) = AreOption words (codes "--sync") (codes "never")
IsSetting words (setting.Sync syncing.Always) = AreOption words (codes "--sync") (codes "always")
IsSetting words (setting.Sync (syncing.Each seconds)) = (1 ≤ seconds) × (seconds ≤ 3600) × AreOption words (codes "--sync") (decimal seconds)
IsSetting words (setting.PasswordFile path) = AreOption words (codes "--passwords") path
IsSetting words (setting.Watch user mailbox) =
    (has_no_colon user ≡ true) × IsMailbox mailbox × AreOption words (codes "--watch") (watched_text user mailbox)
IsSetting words (setting.Rate rate) =
    IsRateNumber rate.per_second × IsRateNumber rate.burst × AreOption words (codes "--rate") (rate_text rate)
IsSetting words (setting.Guesses guesses) =
    IsRateNumber guesses.burst × IsRateNumber guesses.per_minute × AreOption words (codes "--guesses") (guesses_text guesses)
IsSetting words (setting.Allow n) =
    (text : List ℕ) × AreOption words (codes "--allow") text × (network text ≡ Some n)
IsSetting words (setting.ControlAllow n) =
    (text : List ℕ) × AreOption words (codes "--control-allow") text × (network text ≡ Some n)
IsSetting words (setting.FeedFrom n) =
    (text : List ℕ) × AreOption words (codes "--feed-from") text × (network text ≡ Some n)
IsSetting words (setting.Seed seed) =
    (digits : List ℕ) × AreOption words (codes "--seed") digits × (decode_sized digits 32 ≡ Ok seed)
IsSetting words (setting.Switch switch) = words ≡ switch_text switch ∷ []
IsSetting words (setting.Mailbox name) = IsMailbox name × (words ≡ name ∷ [])

-- the words are these settings, one behind the other
abbrev pub AreSettings : List (List ℕ) → List Setting → Type 0
AreSettings words [] = words ≡ []
AreSettings words (s ∷ settings) =
    (front rest : List (List ℕ)) × (words ≡ front ++ rest) × IsSetting front s × AreSettings rest settings

-- the words begin with what is wrong in this way
abbrev pub BeginsWrong : List (List ℕ) → OptionsError → Type 0
BeginsWrong words (error.Missing flag) = words ≡ flag_text flag ∷ []
BeginsWrong words (error.Bad flag) =
    (front rest : List (List ℕ)) × (value : List ℕ) × (words ≡ front ++ rest) × AreOption front (flag_text flag) value
    × ((s : Setting) → ¬ (IsSetting front s))
BeginsWrong words (error.Unknown word) =
    (rest : List (List ℕ)) × (words ≡ word ∷ rest) × (begins (byte "-") word ≡ true)
    × ((switch : Switch) → word ≢ switch_text switch) × ((flag : Flag) → word ≢ flag_text flag)
    × ((flag : Flag) (value : List ℕ) → word ≢ joined (flag_text flag) value)
BeginsWrong words (error.NoMailbox word) =
    (rest : List (List ℕ)) × (words ≡ word ∷ rest) × ¬ (IsMailbox word) × (begins (byte "-") word ≡ false)
BeginsWrong words (error.NoRange word) = ⊥
BeginsWrong words error.NoMemory = Unit {0}

-- behind words that are settings, the words are wrong in this way
pub record AreWrong (words : List (List ℕ)) (e : OptionsError) : Type 0 where
  pub front : List (List ℕ)
  pub settings : List Setting
  pub are_settings : AreSettings front settings
  pub rest : List (List ℕ)
  pub whole : words ≡ front ++ rest
  pub wrong : BeginsWrong rest e

-- the call answered this, seen by view, or memory ran out
abbrev pub Answers : {X : Type 0} → (X → List Setting) → Result X OptionsError → List Setting → Type 0
Answers view (Ok x) settings = view x ≡ settings
Answers view (Err error.NoMemory) settings = Unit {0}
Answers view (Err (error.Missing flag)) settings = ⊥
Answers view (Err (error.Bad flag)) settings = ⊥
Answers view (Err (error.Unknown word)) settings = ⊥
Answers view (Err (error.NoMailbox word)) settings = ⊥
Answers view (Err (error.NoRange word)) settings = ⊥
