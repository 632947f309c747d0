use Rattle.std.proofs.Common.{◌≡◌, ℕ, ◌<◌, true, get_or}
use Rattle.sip_text.specs.Bytes.{is_in}
use Rattle.sip_text.proofs.scan.front_len.Given as goal

abbrev pub invariant-loop-i : goal.invariant-loop-i
invariant-loop-i l = (k : ℕ) → k < l.i → is_in l.class (get_or l.text k 0) ≡ true
