use Rattle.std.proofs.Common.{◌≡◌, ℕ, ◌<◌, true, get_or}
use Rattle.sip_text.specs.Bytes.{is_in}
use Rattle.sip_text.proofs.word.all_in.Given as goal

abbrev pub invariant-loop-byte : goal.invariant-loop-byte
invariant-loop-byte l = (k : ℕ) → k < l.byte-index → is_in l.class (get_or l.text k 0) ≡ true
