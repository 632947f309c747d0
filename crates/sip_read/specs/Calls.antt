-- Values of Call-ID and CSeq (RFC 3261 sections 20.8 and 20.16).
use Rattle.std.specs.Prelude.{◌≡◌, ◌≢◌, ℕ, Bool, ◌<◌, ◌^◌, List, [], ◌++◌}
use Rattle.std.specs.Str.{byte}
use Rattle.sip_text.specs.declared.scan.Class.TheVariants as class
use Rattle.sip_text.specs.Bytes.{is_within}
use Rattle.sip_text.specs.Grammar.{AllPassing, IsWord, number_of}
use Rattle.sip_read.specs.declared.value.Sequence.{Sequence}

-- ! to ~
abbrev pub is_visible : ℕ → Bool
is_visible b = is_within (byte "!") (byte "~") b

-- Call-ID, wider than the RFC's word ["@" word]:
--   call-id = 1*("!" to "~")
abbrev pub IsCallId : List ℕ → Type 0
IsCallId text = AllPassing is_visible text × (text ≢ [])

-- CSeq, the number below 2 ^ 31 (section 8.1.1.5):
--   cseq = 1*digit 1*WSP token
pub record IsSequence (text : List ℕ) (s : Sequence) : Type 0 where
  pub digits : List ℕ
  pub gap : List ℕ
  pub are_digits : IsWord class.Digit digits
  pub are_spaces : IsWord class.Space gap
  pub method : IsWord class.Token s.method
  pub number : s.number ≡ number_of digits
  pub small : s.number < 2 ^ 31
  pub whole : text ≡ digits ++ (gap ++ s.method)
