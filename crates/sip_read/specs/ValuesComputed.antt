-- What the reader computes of a Call-ID, a CSeq and a Refer-Sub, as functions on lists. The relations (Calls, ReferSub) are what they come to.
use Rattle.std.specs.Prelude.{ℕ, Bool, ◌^◌, List, nat_lt, if◌then◌else◌, Option, Some, None}
use Rattle.sip_text.specs.declared.scan.Class.TheVariants as class
use Rattle.sip_text.specs.Bytes.{is_in}
use Rattle.sip_text.specs.Grammar.{number_of}
use Rattle.sip_text.specs.Reading.{◌>>=◌, span_at, all_of, text_of, word_of}
use Rattle.sip_text.specs.Reading.{token_with}
use Rattle.sip_read.specs.declared.value.Sequence.{Sequence}
use Rattle.sip_read.specs.Calls.{is_visible}
use Rattle.sip_read.specs.ReferSub.{truth_of}

unfoldable pub call_id_of : List ℕ → Option (List ℕ)
call_id_of t = do
  w ← all_of is_visible t
  text_of w

unfoldable pub sequence_of : List ℕ → Option Sequence
sequence_of t = do
  digits ← span_at (is_in class.Digit) t
  gap ← span_at (is_in class.Space) digits.1
  method ← word_of (is_in class.Token) gap.1
  if nat_lt (number_of digits.0) (2 ^ 31) then Some (record { number = number_of digits.0; method = method }) else None

unfoldable pub refer_sub_of : List ℕ → Option Bool
refer_sub_of t = do
  x ← token_with t
  truth_of x.0
