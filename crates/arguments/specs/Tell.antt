-- The words behind `notifyd tell`.
--
--   words = ["--control" address] 1*word         ; the first word of the line has no `-` in front
--
-- The line is its words with a space between each.
use Rattle.std.specs.Prelude.{◌≡◌, ℕ, false, List, [], ◌∷◌, ◌++◌, codes, Option, Some, None, Result, Ok, Err}
use Rattle.std.specs.Str.{byte}
use Rattle.std.specs.List.{flat_map}
use Rattle.sip_text.specs.declared.address.Addr.{Addr}
use Rattle.sip_text.specs.Addresses.{addr_text, IsAddr}
use Rattle.sip_text.specs.Reading.{begins}
use Rattle.arguments.specs.declared.tell.TellCall.{TellCall}
use Rattle.arguments.specs.declared.tell.TellError.{TellError}
use Rattle.arguments.specs.declared.tell.TellError.TheVariants as error

-- words with a space between each
abbrev pub joined : List ℕ → List (List ℕ) → List ℕ
joined first rest = first ++ flat_map (λ word. codes " " ++ word) rest

-- the words that say where the server is
abbrev pub SaysWhere : List (List ℕ) → Option Addr → Type 0
SaysWhere words None = words ≡ []
SaysWhere words (Some addr) = IsAddr addr × (words ≡ codes "--control" ∷ addr_text addr ∷ [])

pub record IsTellCall (words : List (List ℕ)) (call : TellCall) : Type 0 where
  pub place_words : List (List ℕ)
  pub says_where : SaysWhere place_words call.control
  pub first : List ℕ
  pub rest : List (List ℕ)
  pub no_option : begins (byte "-") first ≡ false
  pub line : call.line ≡ joined first rest
  pub whole : words ≡ place_words ++ first ∷ rest

-- the call answered this, or memory ran out
abbrev pub AnswersTell : Result TellCall TellError → TellCall → Type 0
AnswersTell (Ok call) wanted = call ≡ wanted
AnswersTell (Err error.NoMemory) wanted = Unit {0}
AnswersTell (Err error.Bad) wanted = ⊥
