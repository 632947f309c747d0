-- What `notifyd tell` asks, and its exit status.
--
--   status   cause
--   0        the answer is `ok`
--   1        the answer is another one, or the words are no call: `--json` is said of STATUS alone
--   3        nobody answered, a socket failed, or what came could not be printed
--   4        memory was wanting
use Rattle.std.specs.Prelude.{Option, Some, None, ◌≡◌, ◌≢◌, ◌⊎◌, ◌==◌, ◌||◌, ℕ, Bool, true, false, List, [], ◌∷◌, ◌++◌, length, take, codes, bytes_eq, if◌then◌else◌, IfOk, MatchOption}
use Rattle.std.specs.List.{All, position_or_len, before_first, after_first}
use Rattle.std.specs.Str.{byte}
use Rattle.hex.specs.Hex.{encode_lower}
use Rattle.sip_text.specs.Reading.{text_of}
use Rattle.control_lines.specs.declared.asking.TellOutcome.{TellOutcome}
use Rattle.control_lines.specs.declared.asking.TellOutcome.TheVariants as outcome
use Rattle.control_lines.specs.Asking.{SpeakerSeen, ComesOf, status_of}
use Rattle.arguments.specs.declared.tell.TellCall.{TellCall}
use Rattle.arguments.specs.Tell.{IsTellCall}
use Rattle.asking.specs.declared.answers.Form.{Form}
use Rattle.asking.specs.declared.answers.Form.TheVariants as form
use Rattle.asking.specs.declared.asking.Told.{Told}

-- ---- what an answer says

-- no byte of the text is a line feed
abbrev pub HasNoLineFeed : List ℕ → Type 0
HasNoLineFeed text = All (λ octet. octet ≢ byte "\n") text

-- the answer is `ok`, and says on its last line that what follows this place is told, too
pub record IsFollowed (answer place : List ℕ) : Type 0 where
  pub lines : List ℕ
  pub ok : answer ≡ codes "ok\n" ++ lines
  pub front : List ℕ
  pub last : answer ≡ front ++ (codes "\nmore " ++ (place ++ codes "\n"))
  pub one_line : HasNoLineFeed place

-- ---- one line

-- the answer, which stands at the beginning of the room, if one came
abbrev pub answer_in : TellOutcome → List ℕ → Option (List ℕ)
answer_in (outcome.Done n) room = Some (take n room)
answer_in (outcome.Refused n) room = Some (take n room)
answer_in outcome.Silent room = None
answer_in outcome.Fault room = None

-- it is `bad line`
abbrev pub is_bad_line : Option (List ℕ) → Bool
is_bad_line None = false
is_bad_line (Some answer) = bytes_eq answer (codes "bad line")

-- this is the place behind which it says that more is told, if it says so in a text
abbrev pub IsNext : Option (List ℕ) → Option (List ℕ) → Type 0
IsNext None next = next ≡ None
IsNext (Some answer) next = MatchOption next ((place : List ℕ) → IsFollowed answer place → text_of place ≡ None) (IsFollowed answer)

-- a speaker asked this line and no other, and this is told of what came of it. The status is 3 also where that could not be printed
pub record TellsLine (line : List ℕ) (old new : SpeakerSeen) (told : Told) : Type 0 where
  pub came : TellOutcome
  pub room : List ℕ
  pub asked : ComesOf line came old new room
  pub status : (told.status ≡ status_of came) ⊎ (told.status ≡ 3)
  pub more : IfOk told.more (IsNext (answer_in came room))
  pub is_bad : told.is_bad ≡ is_bad_line (answer_in came room)

-- a line behind the token of these bytes
abbrev pub tokened : List ℕ → List ℕ → List ℕ
tokened bytes line = codes "@" ++ (encode_lower bytes ++ (codes " " ++ line))

-- the line behind the token of these bytes, or as it is where there is none
abbrev pub asked_as : Option (List ℕ) → List ℕ → List ℕ
asked_as None line = line
asked_as (Some bytes) line = tokened bytes line

-- it is the line behind a token of eight bytes, or where the system gave none without one
abbrev pub IsAskedAs : List ℕ → List ℕ → Type 0
IsAskedAs line asked = (asked ≡ line) ⊎ ((bytes : List ℕ) × (length bytes ≡ 8) × (asked ≡ tokened bytes line))

-- a speaker asked this line behind a token and no other
pub record TellsPage (line : List ℕ) (old new : SpeakerSeen) (told : Told) : Type 0 where
  pub asked : List ℕ
  pub is : IsAskedAs line asked
  pub tells : TellsLine asked old new told

-- the words behind `--json`, where that is the first
abbrev pub behind_json : List (List ℕ) → List (List ℕ)
behind_json [] = []
behind_json (word ∷ words) = if bytes_eq word (codes "--json") then words else word ∷ words

-- the words begin with `--json`
abbrev pub asks_json : List (List ℕ) → Bool
asks_json [] = false
asks_json (word ∷ words) = bytes_eq word (codes "--json")

-- `--json` stands before another line than STATUS: of no other answer has each line a name of its own, as the members of an object
-- should (RFC 8259 section 4)
abbrev pub AskForNoObject : List (List ℕ) → Type 0
AskForNoObject words = (asks_json words ≡ true) × ((call : TellCall) → IsTellCall (behind_json words) call → call.line ≢ codes "STATUS")

-- ---- answers of several pages, and the line that asks for the next one

abbrev pub is_blank : ℕ → Bool
is_blank octet = octet == byte " "

-- what stands before the first blank of a line
abbrev pub first_word : List ℕ → List ℕ
first_word line = before_first is_blank line

-- the answer to such a line may have several pages
abbrev pub has_pages : List ℕ → Bool
has_pages line = bytes_eq (first_word line) (codes "DUMP") || bytes_eq (first_word line) (codes "WATCHERS")

-- how the answer to a line is printed
abbrev pub form_of : List ℕ → Bool → Form
form_of line is_json =
    if is_json then form.Json
    else if has_pages line then form.Lines
    else if bytes_eq (first_word line) (codes "RELOAD") then form.Quiet
    else form.Whole

-- the mailbox that a WATCHERS line names, `*` where it names none
abbrev pub watched : List ℕ → List ℕ
watched line =
    if position_or_len is_blank line == length line then codes "*"
    else first_word (after_first is_blank line)

-- the line that asks for what follows this place, where this line is one that may have several pages
abbrev pub next_line : List ℕ → List ℕ → Option (List ℕ)
next_line line place =
    if bytes_eq (first_word line) (codes "DUMP") then Some (codes "DUMP " ++ place)
    else if bytes_eq (first_word line) (codes "WATCHERS") then Some (codes "WATCHERS " ++ (watched line ++ (codes " " ++ place)))
    else None

-- the line that asks for the page behind this one, where more is told behind that place
abbrev pub following : List ℕ → Option (List ℕ) → Option (List ℕ)
following line None = None
following line (Some place) = next_line line place
