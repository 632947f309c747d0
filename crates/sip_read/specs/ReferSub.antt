-- Refer-Sub (RFC 4488 section 4): whether the one who sent a REFER wants a subscription.
use Rattle.std.specs.Prelude.{◌≡◌, ℕ, Bool, true, false, List, if◌then◌else◌, Option, Some, None, codes}
use Rattle.std.specs.Str.{str_eq_ignore_ascii_case}
use Rattle.sip_text.specs.Grammar.{Parameter}
use Rattle.sip_text.specs.Grammar.{IsTokenWith}

-- the truth that a word tells; case is ignored
abbrev pub truth_of : List ℕ → Option Bool
truth_of word = if str_eq_ignore_ascii_case word (codes "true") then Some true else
    (if str_eq_ignore_ascii_case word (codes "false") then Some false else None)

-- the parameters are dropped:
--   Refer-Sub = ("true" / "false") *(SEMI generic-param)
abbrev pub IsReferSub : List ℕ → Bool → Type 0
IsReferSub text wanted = (word : List ℕ) × (parameters : List Parameter) × IsTokenWith text word parameters × (truth_of word ≡ Some wanted)
