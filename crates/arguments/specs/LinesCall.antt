-- The words behind `notifyd tell` that ask for the lines of standard input to be told.
--
--   words = ["--control" address] "-" ["--progress"] ["--progress-bar"]
use Rattle.std.specs.Prelude.{◌≡◌, ℕ, Bool, true, false, List, [], ◌∷◌, ◌++◌, codes}
use Rattle.arguments.specs.declared.lines_call.LinesCall.{LinesCall}
use Rattle.arguments.specs.Tell.{SaysWhere}

-- the word, where it is wanted
abbrev pub switch_word : List ℕ → Bool → List (List ℕ)
switch_word word true = word ∷ []
switch_word word false = []

pub record IsLinesCall (words : List (List ℕ)) (call : LinesCall) : Type 0 where
  pub place_words : List (List ℕ)
  pub says_where : SaysWhere place_words call.control
  pub whole : words ≡ place_words ++ codes "-"
      ∷ (switch_word (codes "--progress") call.takes_progress ++ switch_word (codes "--progress-bar") call.tells_counts)
