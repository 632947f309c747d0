-- Lines of an input that are told to the service that a call names.
use Rattle.std.proofs.Common.{◌≡◌, ◌∙◌, Bool, true, false, ℕ, List, ◌∷◌, ◌++◌, Option, Some, None, sym, ap, subst}
use Rattle.std.specs.Prelude.{codes}
use Rattle.sip_text.specs.declared.address.Addr.{Addr}
use Rattle.sip_text.proofs.Pieces.{some_is}
use Rattle.arguments.specs.declared.lines_call.LinesCall.{LinesCall}
use Rattle.arguments.specs.Choices.{loopback}
use Rattle.arguments.specs.Tell.{SaysWhere}
use Rattle.arguments.specs.LinesCall.{switch_word, IsLinesCall}
use Rattle.arguments.proofs.LinesWords.{lines_again}
use Rattle.plans.specs.Plans.{reached}
use Rattle.telling.specs.declared.end.LinesEnd.{LinesEnd}
use Rattle.telling.specs.declared.speaker.UdpLineSpeaker.{UdpLineSpeaker}
use Rattle.telling.specs.Taken.{TellingSeen, TellsLines}
use Rattle.asking.specs.Telling.{asks_json}
use Rattle.asking.specs.Input.{SpeaksTo, TellsAll, TellsInput}

pub tells_all : (call : LinesCall) (speaker : UdpLineSpeaker) (takes : Bool) (old new : TellingSeen) (end : LinesEnd)
    → SpeaksTo (reached call.control (loopback 5061)) speaker → takes ≡ call.takes_progress
    → old.teller.speaker ≡ record { asked = speaker.asked; turns = None } → TellsLines takes old new end → TellsAll call end
tells_all call speaker takes old new end speaks same seen told = record {
  speaker = speaker;
  speaks = speaks;
  old = old;
  new = new;
  seen = seen;
  told = subst (λ t. TellsLines t old new end) same told;
}

-- words make one call alone
pub told_again : (words : List (List ℕ)) (call other : LinesCall) (status : ℕ) → IsLinesCall words call → IsLinesCall words other
    → TellsInput call status → TellsInput other status
told_again words call other status is also told =
    subst (λ c. TellsInput c status) (some_is call other (sym (lines_again words call is) ∙ lines_again words other also)) told

-- and none of lines behind `--json`
pub no_json : (words : List (List ℕ)) (call : LinesCall) → IsLinesCall words call → ¬ (asks_json words ≡ true)
no_json words call is asked = step call.control is.says_where where
  behind : List (List ℕ)
  behind = codes "-" ∷ (switch_word (codes "--progress") call.takes_progress ++ switch_word (codes "--progress-bar") call.tells_counts)

  step : (o : Option Addr) → SaysWhere is.place_words o → ⊥
  step None says =
      let no : false ≡ true = subst (λ w. asks_json w ≡ true) (is.whole ∙ ap (λ (l : List (List ℕ)). l ++ behind) says) asked in absurd cc
  step (Some addr) says =
      let no : false ≡ true = subst (λ w. asks_json w ≡ true) (is.whole ∙ ap (λ (l : List (List ℕ)). l ++ behind) says.1) asked in absurd cc
