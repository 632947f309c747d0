use Rattle.std.proofs.Common.{◌≡◌, length, true, false, get_or, sym, arith, below_more}
use Rattle.std.proofs.lemmas.List.Sums.{prefix_len_is}
use Rattle.sip_text.specs.Bytes.{is_in}
use Rattle.sip_text.proofs.scan.front_len.Goals as goal

pub returns-then-not-contains-clause-value : goal.returns-then-not-contains-clause-value
returns-then-not-contains-clause-value c =
    let other : is_in c.args.class (get_or c.args.text.now c.loop-i.i 0) ≡ false = cc in
    sym (prefix_len_is (is_in c.args.class) c.args.text.now c.loop-i.i 0 (omega arith) c.loop-i.invariant (λ lt. other))

pub loop-i-preserved : goal.loop-i-preserved
loop-i-preserved c =
    let here : is_in c.args.class (get_or c.args.text.now c.loop-i.i 0) ≡ true = cc in
    below_more _ _ c.loop-i.invariant here

pub returns-clause-value : goal.returns-clause-value
returns-clause-value c =
    sym (prefix_len_is (is_in c.args.class) c.args.text.now (length c.args.text.now) 0 (omega arith) (λ k h. c.loop-i.invariant k (omega arith)) (λ lt. absurd (omega (arith, lt))))
