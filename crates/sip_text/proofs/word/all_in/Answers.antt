use Rattle.std.proofs.Common.{◌≡◌, ◌<◌, length, true, false, get_or, sym, arith, below_more}
use Rattle.std.proofs.lemmas.List.Elements.{All-from_get_or}
use Rattle.std.proofs.lemmas.List.Folds.{list_all_at}
use Rattle.std.proofs.lemmas.List.Sums.{list_all-from_AllPass}
use Rattle.sip_text.specs.Bytes.{is_in}
use Rattle.sip_text.proofs.word.all_in.Goals as goal

pub returns-then-not-contains : goal.returns-then-not-contains
returns-then-not-contains c =
    let lt : c.loop-byte.byte-index < length c.args.text.now = omega arith in
    let other : is_in c.args.class (get_or c.args.text.now c.loop-byte.byte-index 0) ≡ false = cc in
    sym (list_all_at (is_in c.args.class) c.args.text.now c.loop-byte.byte-index 0 lt other)

pub loop-byte-preserved : goal.loop-byte-preserved
loop-byte-preserved c =
    let here : is_in c.args.class (get_or c.args.text.now c.loop-byte.byte-index 0) ≡ true = cc in
    below_more _ _ c.loop-byte.invariant here

pub returns : goal.returns
returns c =
    sym (list_all-from_AllPass (is_in c.args.class) c.args.text.now (All-from_get_or (λ x. is_in c.args.class x ≡ true) c.args.text.now 0 (λ k h. c.loop-byte.invariant k (omega arith))))
