use Rattle.std.proofs.Common.{◌≡◌, ◌+◌, ◌-◌, ◌<◌, ◌≤◌, ℕ, length, decimal, arith}
use Rattle.std.proofs.lemmas.Fmt.{length-decimal-le}
use Rattle.std.proofs.lemmas.List.{drop-set}
use Rattle.sip_write.proofs.address.write_dotted.Goals as goal

short : (octet n : ℕ) → n ≡ octet → octet < 256 → length (decimal n) ≤ 3
short octet n same small = length-decimal-le 3 n (omega arith) (omega (arith, same, small)) (omega (arith, same, small))

begins : (octet n end start : ℕ) → n ≡ octet → octet < 256 → start + length (decimal n) ≡ end → end ≤ start + 3
begins octet n end start same small at = omega (arith, short octet n same small, at)

pub write_digits-digits-requires : goal.write_digits-digits-requires
write_digits-digits-requires c = (omega (arith, short c.args.octet c.from.result c.from.ensures (omega arith)), omega arith)

pub overflow_sub-room : goal.overflow_sub-room
overflow_sub-room c = omega (arith, begins c.args.octet c.from.result _ _ c.from.ensures (omega arith) c.write_digits-digits.ensures.start)

pub overflow_sub-result : goal.overflow_sub-result
overflow_sub-result c = omega (arith, begins c.args.octet c.from.result _ _ c.from.ensures (omega arith) c.write_digits-digits.ensures.start)

pub returns-clause-start : goal.returns-clause-start
returns-clause-start c = omega (arith, begins c.args.octet c.from.result _ _ c.from.ensures (omega arith) c.write_digits-digits.ensures.start)

pub returns-clause-written : goal.returns-clause-written
returns-clause-written c =
    let begin = begins c.args.octet c.from.result _ _ c.from.ensures (omega arith) c.write_digits-digits.ensures.start in
    let at = c.write_digits-digits.result in
    let e : at - 1 + 1 ≡ at = omega arith in
    rw (drop-set c.write_digits-digits.new.buf (at - 1) _ (omega arith), e, c.write_digits-digits.ensures.written, c.from.ensures)
