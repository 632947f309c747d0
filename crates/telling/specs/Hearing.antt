-- A line that is asked, and what comes of it.
use Rattle.std.specs.Prelude.{◌≡◌, ◌≢◌, ℕ, zero, suc, ◌+◌, ◌%◌, ◌^◌, List, ◌++◌, take, codes, bytes_eq, if◌then◌else◌, Option, Some, None}
use Rattle.std.specs.Int.{w64, to_be_bytes}
use Rattle.hex.specs.Hex.{encode_lower}
use Rattle.control_lines.specs.declared.asking.TellOutcome.{TellOutcome}
use Rattle.control_lines.specs.declared.asking.TellOutcome.TheVariants as outcome
use Rattle.control_lines.specs.Asking.{SpeakerSeen, Turn, ComesOf}
use Rattle.telling.specs.declared.hearing.Heard.{Heard}
use Rattle.telling.specs.declared.hearing.Heard.TheVariants as heard
use Rattle.telling.specs.declared.teller.Teller.{Teller}

-- ---- what is said

-- what an answer says that isn't `ok`
abbrev pub refusal : List ℕ → Heard
refusal answer =
    if bytes_eq answer (codes "closed") then heard.Closed
    else if bytes_eq answer (codes "out of memory") then heard.Full
    else heard.Refused

-- what came of a line, whose answer stands at the beginning of the room
abbrev pub said : TellOutcome → List ℕ → Heard
said (outcome.Done n) room = heard.Done
said (outcome.Refused n) room = refusal (take n room)
said outcome.Silent room = heard.Silent
said outcome.Fault room = heard.Fault

-- ---- tokens

-- who tells lines: the number of the next token, where the system gave one to begin with, and what its speaker asked so far
pub record TellerSeen : Type 0 where
  pub token : Option ℕ
  pub speaker : SpeakerSeen

abbrev pub seen : {S : Type 0} → (S → ℕ) → (S → Option (List Turn)) → Teller S → TellerSeen
seen asked turns teller =
    record { token = teller.token; speaker = record { asked = asked teller.speaker; turns = turns teller.speaker } }

-- the line behind this token
abbrev pub tokened : Option ℕ → List ℕ → List ℕ
tokened None line = line
tokened (Some number) line = codes "@" ++ (encode_lower (to_be_bytes w64 number) ++ (codes " " ++ line))

-- the token behind this one: the next number, and 0 behind the last of 64 bits
abbrev pub next_token : Option ℕ → Option ℕ
next_token None = None
next_token (Some number) = Some ((number + 1) % (2 ^ 64))

-- ---- asking

-- the line was asked behind the next token, again only while nobody answered, and this came of it
pub record Hears (line : List ℕ) (came : Heard) (old new : TellerSeen) : Type 0 where
  pub outcome : TellOutcome
  pub room : List ℕ
  pub asked : ComesOf (tokened old.token line) outcome old.speaker new.speaker room
  pub is : came ≡ said outcome room
  pub token : new.token ≡ next_token old.token

-- the line was asked so often, and each time the service was out of memory
abbrev pub Waits : ℕ → List ℕ → TellerSeen → TellerSeen → Type 0
Waits zero line old new = new ≡ old
Waits (suc times) line old new = (between : TellerSeen) × Waits times line old between × Hears line heard.Full between new

-- the line was asked, again only while nobody answered or the service was out of memory, and this came of it
pub record IsAsked (line : List ℕ) (came : Heard) (old new : TellerSeen) : Type 0 where
  pub times : ℕ
  pub between : TellerSeen
  pub waits : Waits times line old between
  pub hears : Hears line came between new
  pub last : came ≢ heard.Full

-- the line was asked no further: it had been asked some times, or never, and each time the service was out of memory
abbrev pub IsGivenUp : List ℕ → TellerSeen → TellerSeen → Type 0
IsGivenUp line old new = (times : ℕ) × Waits times line old new
